-- Words that are the same at their fronts, and differ little behind.
use Rattle.std.proofs.Common.{◌≡◌, ◌∙◌, ◌-◌, ℕ, List, ◌∷◌, ◌++◌, length, take, drop, refl, sym, ap, arith, take-append-drop, length-drop}
use Rattle.std.proofs.lemmas.List.{take_all}
use Rattle.weedle_refusal.specs.Near.{DifferByOne, missing, added, changed, exchanged}

-- what follows so many
abbrev pub behind : ℕ → List ℕ → List ℕ
behind n word = take (length word - n) (drop n word)

all_behind : (n : ℕ) (word : List ℕ) → behind n word ≡ drop n word
all_behind n word = take_all (length word - n) (drop n word) (omega (arith, length-drop n word))

-- a word is its front and what follows it
apart : (n : ℕ) (word front rest : List ℕ) → take n word ≡ front → behind n word ≡ rest → word ≡ front ++ rest
apart n word front rest is e = sym (take-append-drop n word) ∙ ap (λ f. f ++ drop n word) is ∙ ap (λ r. front ++ r) (sym (all_behind n word) ∙ e)

pub is_missing : (n : ℕ) (word other : List ℕ) → take n word ≡ take n other → (letter : ℕ) × (behind n other ≡ letter ∷ behind n word) → DifferByOne word other
is_missing n word other same m = missing (take n word) (behind n word) m.0 (apart n word _ _ refl refl) (apart n other _ _ (sym same) m.1)

pub is_added : (n : ℕ) (word other : List ℕ) → take n word ≡ take n other → (letter : ℕ) × (behind n word ≡ letter ∷ behind n other) → DifferByOne word other
is_added n word other same m = added (take n word) (behind n other) m.0 (apart n word _ _ refl m.1) (apart n other _ _ (sym same) refl)

pub is_changed : (n : ℕ) (word other : List ℕ) → take n word ≡ take n other → (one : ℕ) × (two : ℕ) × (rest : List ℕ) × (behind n word ≡ one ∷ rest) × (behind n other ≡ two ∷ rest) → DifferByOne word other
is_changed n word other same m = changed (take n word) m.2 m.0 m.1 (apart n word _ _ refl m.3) (apart n other _ _ (sym same) m.4)

pub is_exchanged : (n : ℕ) (word other : List ℕ) → take n word ≡ take n other → (one : ℕ) × (two : ℕ) × (rest : List ℕ) × (behind n word ≡ one ∷ two ∷ rest) × (behind n other ≡ two ∷ one ∷ rest) → DifferByOne word other
is_exchanged n word other same m = exchanged (take n word) m.2 m.0 m.1 (apart n word _ _ refl m.3) (apart n other _ _ (sym same) m.4)
