-- Places in a text, and suffixes.
use Rattle.std.proofs.Common.{zero, suc, ap, ◌<◌, refl, ◌∙◌, arith}
use Rattle.std.proofs.lemmas.List.{drop-drop}
use Rattle.std.specs.Prelude.{◌≡◌, ℕ, ◌+◌, List, drop, length}
use Rattle.std.specs.Str.{IsUtf8}
use Rattle.weedle_base.specs.Places.{IsSuffix}

-- a text is a suffix of itself
pub suffix_self : (s : List ℕ) → IsUtf8 s → IsSuffix s s
suffix_self s u = (u, 0, refl)

-- a suffix of a suffix is a suffix
pub suffix_along : (s rest r : List ℕ) (i : ℕ) → rest ≡ drop i s → IsSuffix rest r → IsSuffix s r
suffix_along s rest r i e h = (h.0, i + h.1, h.2 ∙ ap (λ (t : List ℕ). drop h.1 t) e ∙ drop-drop h.1 i s)

-- what left a text of another length took a byte
pub took_some : (s r : List ℕ) (k : ℕ) → r ≡ drop k s → (length r ≡ length s → ⊥) → 0 < k
took_some s r zero e n = absurd (n (ap length e))
took_some s r (suc k) e n = omega arith
