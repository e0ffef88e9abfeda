use Rattle.std.proofs.Common.{◌≡◌, ◌∙◌, sym, false, length, codes}
use Rattle.std.specs.Prelude.{◌==◌}
use Rattle.weedle_print.proofs.SeparatedFacts.{adds_values}
use Rattle.weedle_print.proofs.bodies.BracedPunctuatedNonEmptyCommaPrint.print.Goals as goal
use Rattle.weedle_spell.specs.Tokens.{word}

-- the list isn't empty
pub returns : goal.returns
returns g c =
    let some : (length c.as_slice-values.result.now == 0) ≡ false = sym c.is_empty.ensures ∙ c.if-is_empty.false in
    rw (← c.as_slice-values.ensures.value) (adds_values g.P.Print.spelling (word (codes ",")) c.as_slice-values.result.now some c.in_ok-word.ensures.adds c.in_ok-push_fitting.ensures)
