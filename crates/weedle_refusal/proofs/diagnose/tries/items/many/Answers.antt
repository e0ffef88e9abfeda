use Rattle.std.proofs.Common.{refl, inl, inr}
use Rattle.weedle_rules.proofs.OutcomeFacts.{it_ends}
use Rattle.weedle_refusal.proofs.LaterFacts.{row_in, still_in}
use Rattle.weedle_refusal.proofs.AddingFacts.{many_ended, many_stuck, many_went_on}
use Rattle.weedle_refusal.proofs.diagnose.tries.items.many.Goals as goal

pub mark-requires-clause-here : goal.mark-requires-clause-here
mark-requires-clause-here c = row_in c.args.ends.now.text c.requires.last c.requires.row c.requires.here (inl (refl, refl))

pub mark-requires-then-end-place-clause-here : goal.mark-requires-then-end-place-clause-here
mark-requires-then-end-place-clause-here c = still_in c.mark.ensures.many (row_in c.args.ends.now.text c.requires.last c.requires.row c.requires.here (inr (c.in-Some.end, it_ends c.in-Some.ensures.right, c.if-end-place.true, (refl, refl))))

pub returns-then-end-place : goal.returns-then-end-place
returns-then-end-place c = many_went_on c.args.ends.now.text c.args.rule c.requires.row c.mark.ensures c.in-Some.ensures.right c.if-end-place.true c.mark-then-end-place.ensures

pub returns-else-end-place : goal.returns-else-end-place
returns-else-end-place c = many_stuck c.args.ends.now.text c.args.rule c.requires.row c.mark.ensures c.in-Some.ensures.right c.if-end-place.false

pub returns-in-None : goal.returns-in-None
returns-in-None c = many_ended c.args.ends.now.text c.args.rule c.requires.row c.mark.ensures c.in-None.ensures.right

pub cell-requires-clause-low : goal.cell-requires-clause-low
cell-requires-clause-low c = (row_in c.args.ends.now.text {x = c.args.item} c.requires.last c.requires.row c.requires.here (inl (refl, refl))).low
