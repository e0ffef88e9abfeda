use Rattle.std.proofs.Common.{drop}
use Rattle.weedle_grammar.specs.written.Table.{webidl}
use Rattle.weedle_grammar.specs.View.{numbers_of}
use Rattle.weedle_grammar.proofs.Takes.{takes}
use Rattle.weedle_rules.proofs.PartEnds.{Trying}
use Rattle.weedle_rules.proofs.Looks.{Looked}
use Rattle.weedle_rules.proofs.work.parts.first.Given as goal

abbrev pub invariant-loop-i : goal.invariant-loop-i
invariant-loop-i g l =
    Looked l.fn.working l.working l.i × Trying webidl l.reader.text takes l.fn.rule (numbers_of l.fn.parts) (drop l.i (numbers_of l.fn.parts)) l.i l.fn.place
