use Rattle.std.proofs.Common.{◌≡◌, ◌∙◌, sym}
use Rattle.std.proofs.lemmas.Slice.Eq.{bytes_eq-Decides}
use Rattle.weedle_print.proofs.LeafFacts.{floating_is}
use Rattle.weedle_print.proofs.number.is_floating.Goals as goal

-- a number that is read, and is the text, is one
pub returns-in-Ok : goal.returns-in-Ok
returns-in-Ok c = λ t.
    let same : c.in-Ok.found.0.now ≡ c.args.text.now = (bytes_eq-Decides _ _).0 (sym c.eq.ensures ∙ t) in
    floating_is c.in-Ok.ensures (cc)
