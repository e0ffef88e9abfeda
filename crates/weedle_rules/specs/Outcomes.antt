-- Where a rule ends at a place, and that it fails there, whatever it gives.
use Rattle.std.specs.Prelude.{ℕ, List}
use Rattle.weedle_grammar.specs.Trees.{Tree, Fails, Gives}
use Rattle.weedle_grammar.specs.written.Table.{Reads}

-- rule r ends at e, where it is read from p
abbrev pub EndsAt : List ℕ → ℕ → ℕ → ℕ → Type 0
EndsAt text r p e = (ts : List Tree) × Reads text r p (Gives ts e)

-- rule r fails at p
abbrev pub FailsAt : List ℕ → ℕ → ℕ → Type 0
FailsAt text r p = Reads text r p Fails
