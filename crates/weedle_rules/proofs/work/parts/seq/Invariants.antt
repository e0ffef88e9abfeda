use Rattle.std.proofs.Common.{drop}
use Rattle.weedle_grammar.specs.written.Table.{webidl}
use Rattle.weedle_grammar.specs.View.{numbers_of}
use Rattle.weedle_grammar.proofs.Takes.{takes}
use Rattle.weedle_rules.proofs.PartEnds.{Along}
use Rattle.weedle_rules.proofs.Looks.{Looked}
use Rattle.weedle_rules.proofs.work.parts.seq.Given as goal

abbrev pub invariant-loop-i : goal.invariant-loop-i
invariant-loop-i g l =
    Looked l.fn.working l.working l.i × Along webidl l.reader.text takes l.fn.rule l.fn.place (numbers_of l.fn.parts) (drop l.i (numbers_of l.fn.parts)) l.end
