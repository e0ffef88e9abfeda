-- Which rules are asked for at which places, where a value or a tree is made of what is read.
use Rattle.std.specs.Prelude.{ℕ, List}
use Rattle.weedle_grammar.specs.written.Table.Definitions.{DEFINITIONS}
use Rattle.weedle_rules.specs.Outcomes.{EndsAt}
use Rattle.weedle_starts.specs.Tries.{SameAttempt, Tries}

-- rule x is tried at q by what is read, where rule `first` is read at `start`: that rule is tried there, and so is what a rule tries that is itself tried so and ends
pub data WantedFrom (text : List ℕ) (first start : ℕ) : ℕ → ℕ → Type 0 where
  at_first : {x q : ℕ} → SameAttempt first start x q → WantedFrom text first start x q
  by : {r p e x q : ℕ} → WantedFrom text first start r p → EndsAt text r p e → Tries text r p x q → WantedFrom text first start x q

-- where definitions are read at the front
abbrev pub Wanted : List ℕ → ℕ → ℕ → Type 0
Wanted text x q = WantedFrom text DEFINITIONS 0 x q
