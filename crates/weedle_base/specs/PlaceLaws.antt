-- Places and boundaries: lemmas that the laws of readings need.
use Rattle.std.proofs.lemmas.Str.{IsUtf8-drop, IsCharBoundary-from_rest}
use Rattle.std.specs.Prelude.{ℕ, ◌+◌, List, drop}
use Rattle.std.specs.Str.{IsCharBoundary, IsUtf8}

-- a boundary of what follows a boundary is a boundary of the whole
pub boundary_add : (s : List ℕ) (i j : ℕ) → IsCharBoundary s i → IsCharBoundary (drop i s) j → IsCharBoundary s (i + j)
boundary_add s i j a b = IsCharBoundary-from_rest s i j a.0 b

-- what follows a boundary is text
pub utf8_rest : (s : List ℕ) (i : ℕ) → IsUtf8 s → IsCharBoundary s i → IsUtf8 (drop i s)
utf8_rest s i u b = IsUtf8-drop s i u b
