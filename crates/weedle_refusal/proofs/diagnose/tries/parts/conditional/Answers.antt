use Rattle.std.proofs.Common.{refl, inl, inr}
use Rattle.weedle_refusal.proofs.LaterFacts.{row_in, still_in, in_text}
use Rattle.weedle_refusal.proofs.ConditionFacts.{if_ended, if_went_on}
use Rattle.weedle_refusal.proofs.diagnose.tries.parts.conditional.Goals as goal

pub in_turn-requires-clause-inside : goal.in_turn-requires-clause-inside
in_turn-requires-clause-inside c = λ x q t. row_in c.args.ends.now.text c.requires.last c.requires.row c.requires.here (inl t)

pub end_with-requires-clause-within : goal.end_with-requires-clause-within
end_with-requires-clause-within c = in_text c.args.ends.now.text c.requires.last c.requires.here

pub mark-requires-clause-here : goal.mark-requires-clause-here
mark-requires-clause-here c = still_in c.in_turn.ensures.many (row_in c.args.ends.now.text c.requires.last c.requires.row c.requires.here (inr (c.in-Some.end, c.in-Some.ensures, (refl, refl))))

pub returns-in-Some : goal.returns-in-Some
returns-in-Some c = if_went_on c.args.ends.now.text c.args.rule c.args.k c.args.y c.args.place c.in-Some.end c.requires.row c.in_turn.ensures c.in-Some.ensures c.mark.ensures

pub returns-in-None : goal.returns-in-None
returns-in-None c = if_ended c.args.ends.now.text c.args.rule c.args.k c.args.y c.args.place c.requires.row c.in_turn.ensures c.in-None.ensures
