use Rattle.std.proofs.Common.{refl, inl, inr}
use Rattle.weedle_rules.proofs.OutcomeFacts.{it_ends}
use Rattle.weedle_refusal.proofs.LaterFacts.{still_in, in_text}
use Rattle.weedle_refusal.proofs.AddingFacts.{none_follows, one_follows}
use Rattle.weedle_refusal.proofs.diagnose.tries.items.listed.Goals as goal

pub mark-requires-clause-here : goal.mark-requires-clause-here
mark-requires-clause-here c = c.requires.inside _ _ (inl (refl, refl))

pub cell-requires-clause-within : goal.cell-requires-clause-within
cell-requires-clause-within c = in_text c.args.ends.now.text c.requires.last (c.requires.inside _ _ (inl (refl, refl)))

pub mark-requires-in-Some-clause-here : goal.mark-requires-in-Some-clause-here
mark-requires-in-Some-clause-here c = still_in c.mark.ensures.many (c.requires.inside _ _ (inr (c.in-Some.end, it_ends c.in-Some.ensures.right, (refl, refl))))

pub returns-in-Some : goal.returns-in-Some
returns-in-Some c = one_follows c.args.ends.now.text c.args.tail c.mark.ensures c.in-Some.ensures.right c.mark-in-Some.ensures

pub returns-in-None : goal.returns-in-None
returns-in-None c = none_follows c.args.ends.now.text c.args.tail c.mark.ensures c.in-None.ensures.right

pub cell-requires-clause-low : goal.cell-requires-clause-low
cell-requires-clause-low c = (c.requires.inside c.args.item c.args.place (inl (refl, refl))).low
