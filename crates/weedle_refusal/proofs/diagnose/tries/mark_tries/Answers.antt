use Rattle.std.proofs.Common.{refl}
use Rattle.weedle_refusal.proofs.LaterFacts.{row_in}
use Rattle.weedle_refusal.proofs.diagnose.tries.mark_tries.Goals as goal

pub in_turn-requires-clause-inside : goal.in_turn-requires-clause-inside
in_turn-requires-clause-inside c = λ x q t. row_in c.args.ends.now.text c.requires.last c.in-Seq.ensures c.requires.here t

pub by_choice-requires-clause-inside : goal.by_choice-requires-clause-inside
by_choice-requires-clause-inside c = λ x q t. row_in c.args.ends.now.text c.requires.last c.in-First.ensures c.requires.here t

pub mark-requires-clause-here : goal.mark-requires-clause-here
mark-requires-clause-here c = row_in c.args.ends.now.text c.requires.last c.in-Opt.ensures.1 c.requires.here (c.rule_of.ensures, refl)

pub listed-requires-clause-inside : goal.listed-requires-clause-inside
listed-requires-clause-inside c =
    let e = rw (← c.rule_of-in-List.ensures, ← c.rule_of-in-List-2.ensures) at c.in-List.ensures.2 in
    λ x q t. row_in c.args.ends.now.text c.requires.last e c.requires.here t

pub listed-requires-in-List1-clause-inside : goal.listed-requires-in-List1-clause-inside
listed-requires-in-List1-clause-inside c =
    let e = rw (← c.rule_of-in-List1.ensures, ← c.rule_of-in-List1-2.ensures) at c.in-List1.ensures.2 in
    λ x q t. row_in c.args.ends.now.text c.requires.last e c.requires.here t
