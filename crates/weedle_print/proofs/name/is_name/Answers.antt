use Rattle.std.proofs.Common.{◌≡◌, ◌∙◌, sym}
use Rattle.std.proofs.lemmas.Slice.Eq.{bytes_eq-Decides}
use Rattle.weedle_print.proofs.LeafFacts.{name_is}
use Rattle.weedle_print.proofs.name.is_name.Goals as goal

-- a text that is read as a name, and is the name, is one
pub returns-in-Ok : goal.returns-in-Ok
returns-in-Ok c = λ t.
    let same : c.in-Ok.found.0.now ≡ c.args.text.now = (bytes_eq-Decides _ _).0 (sym c.eq.ensures ∙ t) in
    name_is c.in-Ok.ensures (cc)
