use Rattle.std.proofs.Common.{◌≡◌, ◌<◌, ◌++◌, ◌∷◌, [], ℕ, true, subst}
use Rattle.weedle_rules.specs.Outcomes.{EndsAt, FailsAt}
use Rattle.weedle_syntax.specs.Dialects.{item_of}
use Rattle.weedle_recovery.proofs.DivisionFacts.{item_reads, item_takes}
use Rattle.weedle_recovery.proofs.division.Division.go_past.Goals as goal

pub take_surely-requires-clause-never : goal.take_surely-requires-clause-never
take_surely-requires-clause-never c = λ fails.
    let reading = c.args.text.now in
    item_reads reading.dialect reading.text c.args.place c.requires.unread (c.in_ok-is_whole_from.ensures.yes c.if-branch.true)
    (subst (λ r. FailsAt reading.text r c.args.place) c.item.ensures fails)

pub returns-then-branch-clause-divided : goal.returns-then-branch-clause-divided
returns-then-branch-clause-divided c = c.in_ok-piece.ensures.read.1

pub returns-then-branch-clause-onward : goal.returns-then-branch-clause-onward
returns-then-branch-clause-onward c =
    let reading = c.args.text.now in
    let read : EndsAt reading.text (item_of reading.dialect) c.args.place c.in_ok-piece.piece =
    subst (λ r. EndsAt reading.text r c.args.place c.in_ok-piece.piece) c.item.ensures c.in_ok-piece.ensures.read.0 in
    item_takes reading.dialect reading.text c.args.place c.in_ok-piece.piece read

pub returns-then-branch-clause-whole : goal.returns-then-branch-clause-whole
returns-then-branch-clause-whole c = λ ends.
    let reading = c.args.text.now in
    let piece = c.in_ok-piece.piece in
    let old = c.args.self.now in
    let new = c.take_surely.new.self.parts.items in (
      subst (λ r. EndsAt reading.text r c.args.place piece) c.item.ensures c.in_ok-piece.ensures.read.0,
      subst (λ (r : ℕ). new ≡ old.parts.items ++ record { rule = r; is_read = true; start = c.args.place; end = piece; definition = old.definition } ∷ []) c.item.ensures
          c.in_ok-piece.ensures.added,
    )

pub returns-clause-whole : goal.returns-clause-whole
returns-clause-whole c = λ ends. absurd (c.in_ok-is_whole_from.ensures.no c.if-branch.false ends)
