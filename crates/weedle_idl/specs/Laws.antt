-- What a law says of a list of definitions.
use Rattle.std.specs.Prelude.{ℕ, List}
use Rattle.weedle_base.specs.Reading.{Reading}

-- no text is refused
abbrev pub NeverRefuses : {V : Type 0} → Reading V → Type 0
NeverRefuses R = (s : List ℕ) → R.refuses s → ⊥
