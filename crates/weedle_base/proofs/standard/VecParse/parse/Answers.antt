use Rattle.std.proofs.Common.{◌≡◌, [], ◌∷◌, ◌++◌}
use Rattle.weedle_base.specs.Runs.{vec_step}
use Rattle.weedle_base.proofs.Reached.{reached_none, reached_item, reached_ends, run_stuck, run_full, run_fault}
use Rattle.weedle_base.proofs.Steps.{of_some, of_none, exit_answers}
use Rattle.weedle_base.proofs.standard.VecParse.parse.Goals as goal

pub loop-list-init : goal.loop-list-init
loop-list-init g c = (c.utf8.input, rw c.new-list.ensures.items (reached_none (vec_step g.T.Parse.reading) c.args.input.now c.utf8.input))

pub loop-list-preserved : goal.loop-list-preserved
loop-list-preserved g c =
    let pushed : c.push.new.self.items ≡ c.loop-list.list.items ++ (c.in-Some.item ∷ []) = rw c.if-is_err.ensures.negation at c.push.ensures.items in
    let next = reached_item g.T.Parse.reading c.loop-list.invariant.1 (of_some g.T.Parse.reading c.in_ok-after.ensures c.in-Some.is) c.if-after-rest.false in
    (next.text, rw pushed next)

pub returns-in_default : goal.returns-in_default
returns-in_default g c =
    reached_ends (vec_step g.T.Parse.reading) (λ v. v.items) c.args.input.now c.loop-list.rest.now c.shrink_to_fit.new.self (rw c.shrink_to_fit.ensures.items c.loop-list.invariant.1) (of_none g.T.Parse.reading c.in_ok-after.ensures c.in_default.is)

pub returns-then-after-rest : goal.returns-then-after-rest
returns-then-after-rest g c = run_stuck (λ v. v.items) g.T.Parse.reading c.loop-list.invariant.1 (of_some g.T.Parse.reading c.in_ok-after.ensures c.in-Some.is) c.if-after-rest.true c.mismatch.ensures

pub returns-then-is_err : goal.returns-then-is_err
returns-then-is_err g c = run_full (λ v. v.items) g.T.Parse.reading c.loop-list.invariant.1 c.out_of_memory.ensures

pub returns-in_err-after : goal.returns-in_err-after
returns-in_err-after g c = exit_answers c.from_residual.result (run_fault (λ v. v.items) g.T.Parse.reading c.loop-list.invariant.1 c.in_err-after.ensures) c.from_residual.ensures.1
