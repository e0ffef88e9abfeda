use Rattle.std.proofs.Common.{◌-◌, length, string_bytes}
use Rattle.weedle_build_base.proofs.LineSteps.{Lining}
use Rattle.weedle_build_base.proofs.docstring.DocstringBuild.build.Given as goal

abbrev pub invariant-lines : goal.invariant-lines
invariant-lines l = Lining l.fn.table.text.now l.fn.at.place (string_bytes l.text) l.place

abbrev pub decreases-lines : goal.decreases-lines
decreases-lines l = length l.fn.table.text.now - l.place
