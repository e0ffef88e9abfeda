-- Texts put behind one another are of the forms of their parts.
use Rattle.std.proofs.Common.{◌≡◌, inl, inr, ℕ, List, [], ◌∷◌, ◌++◌, codes, refl, sym, ap, ◌∙◌, subst, append-nil, append_assoc}
use Rattle.weedle_grammar.specs.declared.class.Class.{Class}
use Rattle.weedle_grammar.specs.declared.class.Class.TheVariants.{Blank}
use Rattle.weedle_print.specs.Adds.{Adds}
use Rattle.weedle_spell.specs.Forms.{Form, chain_ends, chain_goes_on, ◌then◌, empty, exactly, any}
use Rattle.weedle_spell.specs.Tokens.{IsTrivia, blanks, word}

-- what is of the one form is of the other
pub adds_as : {A B : Form} {x y : List ℕ} → ((s : List ℕ) → A s → B s) → Adds A x y → Adds B x y
adds_as f a = record { added = a.added; is = a.is; of = f a.added a.of }

module _ {x y z : List ℕ} where
  -- one text, and then another
  pub adds_then : {A B : Form} → Adds A x y → Adds B y z → Adds (A then B) x z
  adds_then a b = record {
    added = a.added ++ b.added;
    is = b.is ∙ ap (λ (s : List ℕ). s ++ b.added) a.is ∙ append_assoc x a.added b.added;
    of = record { first = a.added; rest = b.added; is = refl; of_first = a.of; of_rest = b.of };
  }

-- a text that was put into an empty one is put here
pub adds_copied : {A : Form} {e y r x z : List ℕ} → e ≡ [] → Adds A e y → r ≡ y → Adds (exactly r) x z → Adds A x z
adds_copied {A} none a same b = record {
  added = b.added;
  is = b.is;
  of = subst A (sym (b.of ∙ same ∙ a.is ∙ ap (λ (s : List ℕ). s ++ a.added) none)) a.of;
}

-- a text that was put behind
pub adds_pushed : {x y t : List ℕ} → y ≡ x ++ t → Adds (exactly t) x y
adds_pushed {t = t} e = record { added = t; is = e; of = refl }

-- nothing
pub adds_none : {x : List ℕ} → Adds empty x x
adds_none {x} = record { added = []; is = sym (append-nil x); of = refl }

pub any_then : (c : Class) (s t : List ℕ) → any c s → any c t → any c (s ++ t)
any_then c [] t h k = k
any_then c (b ∷ s) t h k = (h.0, any_then c s t h.1 k)

one_trivia : (s : List ℕ) → any Blank s → IsTrivia s
one_trivia [] h = chain_ends refl
one_trivia (b ∷ s) h =
    let front : blanks (b ∷ s) = record { first = b ∷ []; rest = s; is = refl; of_first = (b, refl, h.0); of_rest = h.1 } in
    chain_goes_on (sym (append-nil (b ∷ s))) (inr (inl front)) (chain_ends refl)

module _ {x y z : List ℕ} where
  -- whitespace behind whitespace
  pub adds_blanks : Adds (any Blank) x y → Adds (any Blank) y z → Adds (any Blank) x z
  adds_blanks a b = adds_as (λ s h. subst (any Blank) (sym h.is) (any_then Blank h.first h.rest h.of_first h.of_rest)) (adds_then a b)

  -- a space
  pub adds_blank : Adds (any Blank) x y → Adds (exactly (codes " ")) y z → Adds (any Blank) x z
  adds_blank a b = adds_blanks a (adds_as (λ s h. subst (any Blank) (sym h) (refl, tt)) b)

  -- a line end
  pub adds_line_end : Adds (any Blank) x y → Adds (exactly (10 ∷ [])) y z → Adds (any Blank) x z
  adds_line_end a b = adds_blanks a (adds_as (λ s h. subst (any Blank) (sym h) (refl, tt)) b)

-- no space
pub adds_no_blank : {x : List ℕ} → Adds (any Blank) x x
adds_no_blank {x} = record { added = []; is = sym (append-nil x); of = tt }

-- whitespace as trivia
pub adds_trivia : {x y : List ℕ} → Adds (any Blank) x y → Adds IsTrivia x y
adds_trivia a = adds_as one_trivia a

-- no trivia
pub adds_no_trivia : {x : List ℕ} → Adds IsTrivia x x
adds_no_trivia {x} = record { added = []; is = sym (append-nil x); of = chain_ends refl }

module _ {a b c : List ℕ} {t : List ℕ} (blank : Adds (any Blank) a b) (text : Adds (exactly t) b c) where
  -- a word behind whitespace
  pub adds_word : Adds (word t) a c
  adds_word = adds_then (adds_trivia blank) (adds_then text adds_no_trivia)

  -- and a line end behind it
  pub adds_last_word : {d : List ℕ} → Adds (exactly (10 ∷ [])) c d → Adds (word t) a d
  adds_last_word end = adds_then (adds_trivia blank) (adds_then text (adds_trivia (adds_line_end adds_no_blank end)))

-- what the search for the proof of what is put uses
pub ruleset adds_steps = (adds_pushed, adds_blanks, adds_blank, adds_line_end, adds_no_blank, adds_word, adds_last_word)
