use Rattle.std.proofs.Common.{◌∙◌, ap, flat_map, lit<}
use Rattle.std.proofs.lemmas.Iterator.Consumers.{YieldsList-end}
use Rattle.std.proofs.lemmas.Iterator.Splits.{YieldsList-from_str_split}
use Rattle.std.specs.Prelude.{◌++◌, string_bytes}
use Rattle.weedle_view.specs.Outline.{indented_line}
use Rattle.weedle_view.proofs.entries.push_indented.Goals as goal

-- after the loop each part has its line
pub returns : goal.returns
returns c =
    let parts = YieldsList-from_str_split 10 c.args.text.now (lit< tt) (cc) (cc) (cc) in
    let end = YieldsList-end parts c.loop-part.yielded _ c.loop-part.yielded_by _ _ c.in-None.is c.next.ensures.steps in
    c.loop-part.invariant ∙ ap (λ lines. string_bytes c.args.report.now ++ flat_map indented_line lines) end.0
