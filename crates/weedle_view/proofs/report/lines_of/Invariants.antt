use Rattle.std.proofs.Common.{◌≡◌, take, string_bytes}
use Rattle.std.specs.Prelude.{flat_map}
use Rattle.weedle_view.proofs.report.lines_of.Given as goal

abbrev pub invariant-loop-definition : goal.invariant-loop-definition
invariant-loop-definition g l = string_bytes l.report ≡ flat_map g.P.Report.lines (take l.definition-index l.definitions)
