use Rattle.std.proofs.Common.{drop}
use Rattle.weedle_grammar.specs.written.Table.{webidl}
use Rattle.weedle_grammar.specs.View.{numbers_of}
use Rattle.weedle_grammar.proofs.Takes.{takes}
use Rattle.weedle_rules.proofs.ConditionEnds.{AlongIf, note_at}
use Rattle.weedle_refusal.proofs.diagnose.tries.parts.end_with.Given as goal

abbrev pub invariant-loop-i : goal.invariant-loop-i
invariant-loop-i l =
    AlongIf webidl l.ends.text takes l.fn.rule l.fn.k l.fn.place (numbers_of l.fn.parts) (drop l.i (numbers_of l.fn.parts)) (note_at l.fn.k l.i l.present) l.end
