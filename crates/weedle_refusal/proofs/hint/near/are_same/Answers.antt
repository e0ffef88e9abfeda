use Rattle.std.proofs.Common.{sym, ◌∙◌}
use Rattle.std.proofs.lemmas.Slice.Eq.{bytes_eq-Decides}
use Rattle.weedle_refusal.proofs.hint.near.are_same.Goals as goal

pub returns : goal.returns
returns c = λ same. (bytes_eq-Decides _ _).0 (sym c.eq.ensures ∙ same)
