use Rattle.std.proofs.Common.{◌≡◌, [], ◌∷◌, ◌++◌, List, ap, ◌∙◌, inl}
use Rattle.weedle_parts.specs.Lists.{next_step}
use Rattle.weedle_base.proofs.Reached.{reached_none}
use Rattle.weedle_base.proofs.Steps.{of_some, of_none, exit_answers}
use Rattle.weedle_parts.proofs.ReachedLists.{reached_next, ends_behind, list_ends, list_stuck, list_full, separator_fault, item_fault}
use Rattle.weedle_parts.proofs.common.punctuated.following.Goals as goal

pub loop-list-init : goal.loop-list-init
loop-list-init g c =
    let pushed : c.push.new.self.items ≡ c.new-list.result.items ++ (c.args.first ∷ []) = rw c.if-is_err.ensures.negation at c.push.ensures.items in
    let one : c.push.new.self.items ≡ c.args.first ∷ [] = pushed ∙ ap (λ (l : List g.row.T.Denot). l ++ (c.args.first ∷ [])) c.new-list.ensures.items in
    (c.utf8.input, ([], one, reached_none (next_step g.T.Parse.reading g.S.Parse.reading) c.args.input.now c.utf8.input))

pub loop-list-preserved-else-is_err-2 : goal.loop-list-preserved-else-is_err-2
loop-list-preserved-else-is_err-2 g c =
    let now = c.loop-list.invariant.1 in
    let item = c.in-Some-read.item in
    let pushed : c.push-in-loop-list.new.self.items ≡ c.loop-list.list.items ++ (item ∷ []) = rw c.if-is_err-2.ensures.negation at c.push-in-loop-list.ensures.items in
    let next = reached_next g.T.Parse.reading g.S.Parse.reading now.2 (of_some g.S.Parse.reading c.in_ok-after.ensures c.in-Some.is) c.if-after-rest.false (of_some g.T.Parse.reading c.in_ok-next.ensures c.in-Some-read.is) in
    (next.text, (now.0 ++ (item ∷ []), pushed ∙ ap (λ (l : List g.row.T.Denot). l ++ (item ∷ [])) now.1, next))

pub returns-in_err-after : goal.returns-in_err-after
returns-in_err-after g c = exit_answers c.from_residual.result (separator_fault g.T.Parse.reading g.S.Parse.reading (λ l. l.items) c.args.first c.loop-list.invariant.1.2 c.in_err-after.ensures) c.from_residual.ensures.1

pub returns-in_default : goal.returns-in_default
returns-in_default g c = list_ends g.T.Parse.reading g.S.Parse.reading (λ l. l.items) c.args.first c.loop-list.invariant.1.2 c.loop-list.list c.loop-list.invariant.1.1 (inl (of_none g.S.Parse.reading c.in_ok-after.ensures c.in_default.is))

pub returns-then-after-rest : goal.returns-then-after-rest
returns-then-after-rest g c =
    list_stuck g.T.Parse.reading g.S.Parse.reading (λ l. l.items) c.args.first c.loop-list.invariant.1.2 (of_some g.S.Parse.reading c.in_ok-after.ensures c.in-Some.is) c.if-after-rest.true c.mismatch.ensures

pub returns-then-is_err : goal.returns-then-is_err
returns-then-is_err g c = list_full g.T.Parse.reading g.S.Parse.reading (λ l. l.items) c.args.first (reached_none (next_step g.T.Parse.reading g.S.Parse.reading) c.args.input.now c.utf8.input) c.out_of_memory.ensures

pub returns-then-is_err-2 : goal.returns-then-is_err-2
returns-then-is_err-2 g c = list_full g.T.Parse.reading g.S.Parse.reading (λ l. l.items) c.args.first c.loop-list.invariant.1.2 c.out_of_memory-then-is_err-2.ensures

pub returns-in_err-next : goal.returns-in_err-next
returns-in_err-next g c =
    exit_answers c.from_residual-in_err-next.result
    (item_fault g.T.Parse.reading g.S.Parse.reading (λ l. l.items) c.args.first c.loop-list.invariant.1.2 (of_some g.S.Parse.reading c.in_ok-after.ensures c.in-Some.is) c.if-after-rest.false c.in_err-next.ensures)
    c.from_residual-in_err-next.ensures.1

pub returns-in_default-read : goal.returns-in_default-read
returns-in_default-read g c =
    list_ends g.T.Parse.reading g.S.Parse.reading (λ l. l.items) c.args.first c.loop-list.invariant.1.2 c.loop-list.list c.loop-list.invariant.1.1
    (ends_behind g.T.Parse.reading g.S.Parse.reading (of_some g.S.Parse.reading c.in_ok-after.ensures c.in-Some.is) c.if-after-rest.false (of_none g.T.Parse.reading c.in_ok-next.ensures c.in_default-read.is))
