-- Suffixes of a text.
use Rattle.std.specs.Prelude.{◌≡◌, ℕ, List, drop}
use Rattle.std.specs.Str.{IsUtf8}

-- r is what is in s from a boundary on
abbrev pub IsSuffix : List ℕ → List ℕ → Type 0
IsSuffix s r = IsUtf8 r × (j : ℕ) × (r ≡ drop j s)
