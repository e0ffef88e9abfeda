use Rattle.std.proofs.Common.{◌≡◌, ◌<◌, ◌++◌, ◌∷◌, [], ℕ, List, Option, true, length, arith, subst, sym, refl}
use Rattle.std.specs.Prelude.{IfSome, IfNone}
use Rattle.weedle_rules.specs.Outcomes.{EndsAt, FailsAt}
use Rattle.weedle_syntax.specs.declared.node.Node.{Node}
use Rattle.weedle_recovery.specs.Counts.{ReadingView}
use Rattle.weedle_syntax.specs.Dialects.{definition_of}
use Rattle.weedle_recovery.specs.declared.part.Part.{Part}
use Rattle.weedle_recovery.specs.Recovery.{IsDivided}
use Rattle.weedle_recovery.proofs.CountFacts.{counted_front}
use Rattle.weedle_recovery.proofs.DivisionFacts.{at_front, item_takes, reads_item, whole_front, whole_more, whole_past}
use Rattle.weedle_recovery.proofs.division.Division.divide.Goals as goal

pub loop-at-init : goal.loop-at-init
loop-at-init c =
    let reading = c.args.text.now in
    let parts = c.args.self.now.parts.items in
    let nodes = c.args.self.now.nodes.items in
    let divided = subst (λ d. IsDivided reading parts nodes d 0) (sym c.requires.front) (at_front reading parts nodes c.requires.none c.requires.bare) in
    (divided, whole_front reading.dialect c.requires.none refl, counted_front c.requires.none c.requires.most)

-- what a rule's reading ensures, once it is known to end
abbrev Took : ReadingView → ℕ → ℕ → List Part → List Node → ℕ → Option ℕ → Type 0
Took reading rule place parts nodes definition o = IfSome o (λ end. EndsAt reading.text rule place end × IsDivided reading parts nodes definition end)

abbrev Added : ℕ → ℕ → List Part → List Part → Option ℕ → Type 0
Added rule place old new o = IfSome o (λ end. new ≡ old ++ record { rule = rule; is_read = true; start = place; end = end; definition = place } ∷ [])

abbrev Refused : ReadingView → ℕ → ℕ → List Part → List Node → ℕ → Option ℕ → Type 0
Refused reading rule place parts nodes definition o = IfNone o (FailsAt reading.text rule place × IsDivided reading parts nodes definition place)

abbrev Kept : List Part → List Part → Option ℕ → Type 0
Kept old new o = IfNone o (new ≡ old)

pub loop-at-smaller-in-Some : goal.loop-at-smaller-in-Some
loop-at-smaller-in-Some c =
    let reading = c.args.text.now in
    let rule = c.definition-definition.result in
    let read = subst (Took reading rule c.loop-at.at c.take.new.self.parts.items c.take.new.self.nodes.items c.take.new.self.definition) c.in-Some.is c.in_ok-end.ensures.read in
    let on : c.loop-at.at < c.in-Some.end = item_takes reading.dialect reading.text c.loop-at.at c.in-Some.end
    (reads_item reading.dialect reading.text c.loop-at.at c.in-Some.end (subst (λ r. EndsAt reading.text r c.loop-at.at c.in-Some.end) c.definition-definition.ensures read.0)) in
    omega arith

pub loop-at-preserved-in-Some : goal.loop-at-preserved-in-Some
loop-at-preserved-in-Some c =
    let reading = c.args.text.now in
    let rule = c.definition-definition.result in
    let read = subst (Took reading rule c.loop-at.at c.take.new.self.parts.items c.take.new.self.nodes.items c.take.new.self.definition) c.in-Some.is c.in_ok-end.ensures.read in
    let added = subst (Added rule c.loop-at.at c.loop-at.self.parts.items c.take.new.self.parts.items) c.in-Some.is c.in_ok-end.ensures.added in
    (read.1, whole_more reading.dialect rule c.loop-at.at c.definition-definition.ensures c.loop-at.invariant.1 read.0 added, c.in_ok-end.ensures.counted)

pub go_past-requires-clause-fails : goal.go_past-requires-clause-fails
go_past-requires-clause-fails c =
    let reading = c.args.text.now in
    let rule = c.definition-definition.result in
    let refused = subst (Refused reading rule c.loop-at.at c.take.new.self.parts.items c.take.new.self.nodes.items c.take.new.self.definition) c.in-None.is c.in_ok-end.ensures.not in
    subst (λ r. FailsAt reading.text r c.loop-at.at) c.definition-definition.ensures refused.0

pub loop-at-preserved : goal.loop-at-preserved
loop-at-preserved c =
    let reading = c.args.text.now in
    let kept = subst (Kept c.loop-at.self.parts.items c.take.new.self.parts.items) c.in-None.is c.in_ok-end.ensures.kept in (
      c.in_ok-at-in-None.ensures.divided,
      whole_past reading.dialect c.take.new.self.definition c.loop-at.invariant.1 kept c.in_ok-at-in-None.ensures.whole,
      c.in_ok-at-in-None.ensures.counted,
    )
