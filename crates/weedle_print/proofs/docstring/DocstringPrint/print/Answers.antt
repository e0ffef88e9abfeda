use Rattle.std.proofs.Common.{ℕ, List, lit<, string_bytes}
use Rattle.std.specs.Borrow.{Bor}
use Rattle.std.proofs.lemmas.Iterator.Consumers.{YieldsList-end}
use Rattle.std.proofs.lemmas.Iterator.Splits.{YieldsList-from_str_split}
use Rattle.weedle_print.proofs.DocFacts.{line_more, lines_all}
use Rattle.weedle_print.proofs.docstring.DocstringPrint.print.Goals as goal

-- after the loop each line was put there
pub returns : goal.returns
returns c =
    let parts = YieldsList-from_str_split 10 (string_bytes c.args.value.now.0) (lit< tt) (cc) (cc) (cc) in
    let end = YieldsList-end parts c.loop-line.yielded _ c.loop-line.yielded_by _ _ c.in-None.is c.next.ensures.steps in
    lines_all (string_bytes c.args.value.now.0) end.0 c.loop-line.invariant

-- one line more
pub loop-line-preserved : goal.loop-line-preserved
loop-line-preserved c = line_more (λ (line : Bor (List ℕ)). line.now) c.loop-line.yielded c.in-Some.line c.loop-line.invariant c.in_ok-push_doc_line.ensures
