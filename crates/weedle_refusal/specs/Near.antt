-- Words that differ little.
use Rattle.std.specs.Prelude.{◌≡◌, ℕ, List, ◌∷◌, ◌++◌}

-- the words are the same except for one letter that is missing, added or changed in the first, or
-- for two neighbours exchanged
pub data DifferByOne (word other : List ℕ) : Type 0 where
  missing : (front back : List ℕ) (letter : ℕ) → word ≡ front ++ back → other ≡ front ++ letter ∷ back → DifferByOne word other
  added : (front back : List ℕ) (letter : ℕ) → word ≡ front ++ letter ∷ back → other ≡ front ++ back → DifferByOne word other
  changed : (front back : List ℕ) (one two : ℕ) → word ≡ front ++ one ∷ back → other ≡ front ++ two ∷ back → DifferByOne word other
  exchanged : (front back : List ℕ) (one two : ℕ) → word ≡ front ++ one ∷ two ∷ back → other ≡ front ++ two ∷ one ∷ back → DifferByOne word other
