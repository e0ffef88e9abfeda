use Rattle.std.proofs.Common.{◌≡◌, ◌∙◌, Some, length, ap, subst, sym}
use Rattle.weedle_rules.proofs.OutcomeFacts.{it_ends}
use Rattle.weedle_rules.specs.Cells.{HasEnd}
use Rattle.weedle_recovery.proofs.DivisionFacts.{same_end}
use Rattle.weedle_recovery.proofs.pieces.ends_with_text.Goals as goal

pub returns-clause-yes : goal.returns-clause-yes
returns-clause-yes c = λ is.
    let text = c.args.text.now.text in
    let at : c.in_ok-end.end ≡ Some (length text) = c.is_at-is.ensures.yes is ∙ ap Some c.len.ensures in
    it_ends (subst (HasEnd text c.args.rule c.args.place) at c.in_ok-end.ensures.end)

pub returns-clause-no : goal.returns-clause-no
returns-clause-no c = λ is ends.
    let text = c.args.text.now.text in
    let at : c.in_ok-end.end ≡ Some (length text) = same_end c.in_ok-end.end c.in_ok-end.ensures.end ends in
    c.is_at-is.ensures.no is (at ∙ ap Some (sym c.len.ensures))
