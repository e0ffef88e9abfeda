use Rattle.std.proofs.Common.{refl, inl, inr}
use Rattle.weedle_rules.proofs.OutcomeFacts.{it_ends}
use Rattle.weedle_refusal.proofs.LaterFacts.{row_in, still_in, in_text}
use Rattle.weedle_refusal.proofs.AddingFacts.{tail_ended, tail_stuck, tail_gave_back, tail_went_on}
use Rattle.weedle_refusal.proofs.diagnose.tries.items.tail.Goals as goal

pub mark-requires-clause-here : goal.mark-requires-clause-here
mark-requires-clause-here c = row_in c.args.ends.now.text c.requires.last c.requires.row c.requires.here (inl (refl, refl))

pub mark-requires-then-behind-place-clause-here : goal.mark-requires-then-behind-place-clause-here
mark-requires-then-behind-place-clause-here c = still_in c.mark.ensures.many (row_in c.args.ends.now.text c.requires.last c.requires.row c.requires.here (inr (c.in-Some.behind, it_ends c.in-Some.ensures.right, c.if-behind-place.true, inl (refl, refl))))

pub cell-requires-then-behind-place-clause-within : goal.cell-requires-then-behind-place-clause-within
cell-requires-then-behind-place-clause-within c = in_text c.args.ends.now.text c.requires.last (row_in c.args.ends.now.text {x = c.args.item} c.requires.last c.requires.row c.requires.here (inr (c.in-Some.behind, it_ends c.in-Some.ensures.right, c.if-behind-place.true, inl (refl, refl))))

pub mark-requires-in-Some-cell-clause-here : goal.mark-requires-in-Some-cell-clause-here
mark-requires-in-Some-cell-clause-here c = still_in c.mark-then-behind-place.ensures.many (still_in c.mark.ensures.many (row_in c.args.ends.now.text c.requires.last c.requires.row c.requires.here (inr (c.in-Some.behind, it_ends c.in-Some.ensures.right, c.if-behind-place.true, inr (c.in-Some-cell.end, it_ends c.in-Some-cell.ensures.right, (refl, refl))))))

pub returns-in-Some-cell : goal.returns-in-Some-cell
returns-in-Some-cell c = tail_went_on c.args.ends.now.text c.args.rule c.requires.row c.mark.ensures c.in-Some.ensures.right c.if-behind-place.true c.mark-then-behind-place.ensures c.in-Some-cell.ensures.right c.mark-in-Some-cell.ensures

pub returns-in-None-cell : goal.returns-in-None-cell
returns-in-None-cell c = tail_gave_back c.args.ends.now.text c.args.rule c.requires.row c.mark.ensures c.in-Some.ensures.right c.if-behind-place.true c.mark-then-behind-place.ensures c.in-None-cell.ensures.right

pub returns-else-behind-place : goal.returns-else-behind-place
returns-else-behind-place c = tail_stuck c.args.ends.now.text c.args.rule c.requires.row c.mark.ensures c.in-Some.ensures.right c.if-behind-place.false

pub returns-in-None : goal.returns-in-None
returns-in-None c = tail_ended c.args.ends.now.text c.args.rule c.requires.row c.mark.ensures c.in-None.ensures.right

pub cell-requires-clause-low : goal.cell-requires-clause-low
cell-requires-clause-low c = (row_in c.args.ends.now.text {x = c.args.separator} c.requires.last c.requires.row c.requires.here (inl (refl, refl))).low

pub cell-requires-then-behind-place-clause-low : goal.cell-requires-then-behind-place-clause-low
cell-requires-then-behind-place-clause-low c = (row_in c.args.ends.now.text {x = c.args.item} c.requires.last c.requires.row c.requires.here (inr (c.in-Some.behind, it_ends c.in-Some.ensures.right, c.if-behind-place.true, inl (refl, refl)))).low
