-- A line that is shown, from one character to the next.
use Rattle.std.proofs.Common.{◌≡◌, ◌∙◌, ℕ, List, [], ◌∷◌, ◌++◌, Option, refl, sym, ap, subst, append-nil, append_assoc}
use Rattle.std.proofs.KnownBytes.{Appends-trans}
use Rattle.std.specs.Io.KnownBytes.{Appends}
use Rattle.weedle_refusal.specs.Excerpt.{along, behind, next}

pub behind_more : (at : ℕ) (cs : List ℕ) (c : ℕ) → behind at (cs ++ c ∷ []) ≡ next (behind at cs) c
behind_more at [] c = refl
behind_more at (d ∷ cs) c = behind_more (next at d) cs c

along_more : (text : ℕ → ℕ → List ℕ) (at : ℕ) (cs : List ℕ) (c : ℕ) → along text at (cs ++ c ∷ []) ≡ along text at cs ++ text (behind at cs) c
along_more text at [] c = append-nil (text at c)
along_more text at (d ∷ cs) c =
    ap (λ t. text at d ++ t) (along_more text (next at d) cs c)
    ∙ sym (append_assoc (text at d) (along text (next at d) cs) (text (behind (next at d) cs) c))

-- one more character is written where it is
pub one_more : (text : ℕ → ℕ → List ℕ) (a b d : Option (List ℕ)) (cs : List ℕ) (c at to : ℕ) → (at ≡ behind 0 cs) × Appends a b (along text 0 cs) → Appends b d (text at c) → to ≡ next at c
    → (to ≡ behind 0 (cs ++ c ∷ [])) × Appends a d (along text 0 (cs ++ c ∷ []))
one_more text a b d cs c at to before piece is = (
  is ∙ ap (λ p. next p c) before.0 ∙ sym (behind_more 0 cs c),
  subst (Appends a d) (sym (along_more text 0 cs c)) (Appends-trans a b d _ _ before.1 (subst (λ p. Appends b d (text p c)) before.0 piece)),
)
