-- By which rules what a rule reads begins.
use Rattle.std.specs.Prelude.{◌≡◌, ℕ, List, [], true}
use Rattle.std.specs.List.{Contains}
use Rattle.weedle_starts.specs.Tries.{Tries}
use Rattle.weedle_refusal.specs.Words.{has_word}

-- where rule r is tried at p, rule x is tried at p too: it is r, or a rule that r tries at p by its row tries x there
pub data TriesHere (text : List ℕ) (p : ℕ) : ℕ → ℕ → Type 0 where
  itself : {r x : ℕ} → x ≡ r → TriesHere text p r x
  by : {r y x : ℕ} → Tries text r p y p → TriesHere text p y x → TriesHere text p r x

-- the starts are exactly the rules with a word that are tried where rule r is tried
pub record AreStarts (r : ℕ) (starts : List ℕ) : Type 0 where
  -- none lacks: at whatever place of whatever text such a rule is tried, it is among them
  pub all : (text : List ℕ) (p x : ℕ) → TriesHere text p r x → has_word x ≡ true → Contains starts x
  -- none is too many: each has a word, and is tried where the text ends
  pub each : (x : ℕ) → Contains starts x → (has_word x ≡ true) × TriesHere [] 0 r x
