-- From place to place: the bytes between are of a form.
use Rattle.std.proofs.Common.{◌≡◌, ◌≢◌, ◌⊎◌, inl, inr, ℕ, ◌+◌, ◌-◌, List, [], ◌∷◌, ◌++◌, length, take, drop, refl, sym, ap, ◌∙◌, subst, arith, append_assoc, append-nil, length-append, take_at}
use Rattle.weedle_spell.specs.Forms.{Form, ◌then◌}

-- the bytes of the text from p to e are of the form
pub record Took (text : List ℕ) (p e : ℕ) (A : Form) : Type 0 where
  pub bytes : List ℕ
  pub is : drop p text ≡ bytes ++ drop e text
  pub size : e ≡ p + length bytes
  pub has : A bytes

-- a text, not empty, that is of the form when an LF follows
abbrev pub Unfinished : Form → Form
Unfinished A s = (s ≢ []) × A (s ++ 10 ∷ [])

-- the bytes from p to e are of the form; or, where L allows it, the text ends at e and an LF is
-- required there
abbrev pub Taken : Type 0 → List ℕ → ℕ → ℕ → Form → Type 0
Taken L text p e A = Took text p e A ⊎ (L × (drop e text ≡ []) × Took text p e (Unfinished A))

-- bytes that are of a form are of each that follows from it
pub took_as : {text : List ℕ} {p e : ℕ} {A B : Form} → ((s : List ℕ) → A s → B s) → Took text p e A → Took text p e B
took_as f t = record { bytes = t.bytes; is = t.is; size = t.size; has = f t.bytes t.has }

-- bytes that are of a form, or require an LF, are or do so of each that follows from it
pub taken_as : {L : Type 0} {text : List ℕ} {p e : ℕ} {A B : Form} → ((s : List ℕ) → A s → B s) → Taken L text p e A → Taken L text p e B
taken_as f (inl t) = inl (took_as f t)
taken_as f (inr t) = inr (t.0, t.1, took_as (λ s h. (h.0, f (s ++ 10 ∷ []) h.1)) t.2)

-- nothing between a place and itself
pub took_none : {text : List ℕ} {p : ℕ} {A : Form} → A [] → Took text p p A
took_none h = record { bytes = []; is = refl; size = omega arith; has = h }

-- a text that is empty has no parts
pub no_left : (s t : List ℕ) → s ++ t ≡ [] → (s ≡ []) × (t ≡ [])
no_left [] t e = (refl, e)
no_left (b ∷ s) t e = cc

not_both : (s t : List ℕ) → s ≢ [] → s ++ t ≢ []
not_both s t h e = h (no_left s t e).0

not_either : (s t : List ℕ) → t ≢ [] → s ++ t ≢ []
not_either s t h e = h (no_left s t e).1

then_never : {X : Type 0} {text : List ℕ} {q e : ℕ} (B : Form) → drop q text ≡ [] → Took text q e (Unfinished B) → X
then_never {text = text} {e = e} B end b = absurd (b.has.0 (no_left b.bytes (drop e text) (sym b.is ∙ end)).0)

module _ {text : List ℕ} {p q e : ℕ} {A B : Form} where
  -- a part and then another
  pub took_then : Took text p q A → Took text q e B → Took text p e (A then B)
  took_then a b = record {
    bytes = a.bytes ++ b.bytes;
    is = a.is ∙ ap (λ (s : List ℕ). a.bytes ++ s) b.is ∙ sym (append_assoc a.bytes b.bytes (drop e text));
    size = omega (arith, a.size, b.size, length-append a.bytes b.bytes);
    has = record { first = a.bytes; rest = b.bytes; is = refl; of_first = a.has; of_rest = b.has };
  }

  then_late : Took text p q A → Took text q e (Unfinished B) → Took text p e (Unfinished (A then B))
  then_late a b = record {
    bytes = a.bytes ++ b.bytes;
    is = a.is ∙ ap (λ (s : List ℕ). a.bytes ++ s) b.is ∙ sym (append_assoc a.bytes b.bytes (drop e text));
    size = omega (arith, a.size, b.size, length-append a.bytes b.bytes);
    has = (not_either a.bytes b.bytes b.has.0, record { first = a.bytes; rest = b.bytes ++ 10 ∷ []; is = append_assoc a.bytes b.bytes (10 ∷ []); of_first = a.has; of_rest = b.has.1 });
  }

  then_early : drop q text ≡ [] → Took text p q (Unfinished A) → Took text q e B → (drop e text ≡ []) × Took text p e (Unfinished (A then B))
  then_early end a b =
      let f = no_left b.bytes (drop e text) (sym b.is ∙ end) in (
        f.1,
        record {
          bytes = a.bytes;
          is = a.is ∙ ap (λ (s : List ℕ). a.bytes ++ s) (end ∙ sym f.1);
          size = omega (arith, a.size, b.size, ap length f.0);
          has = (a.has.0, record { first = a.bytes ++ 10 ∷ []; rest = []; is = sym (append-nil (a.bytes ++ 10 ∷ [])); of_first = a.has.1; of_rest = subst B f.0 b.has });
        },
      )

  -- the same, where an LF may be required at the end of the text
  pub taken_then : {L : Type 0} → Taken L text p q A → Taken L text q e B → Taken L text p e (A then B)
  taken_then (inl a) (inl b) = inl (took_then a b)
  taken_then (inl a) (inr b) = inr (b.0, b.1, then_late a b.2)
  taken_then (inr a) (inl b) = let t = then_early a.1 a.2 b in inr (a.0, t.0, t.1)
  taken_then (inr a) (inr b) = then_never B a.1 b.2

-- what is taken is what is between the places
pub took_between : {text : List ℕ} {p e : ℕ} {A : Form} → (t : Took text p e A) → take (e - p) (drop p text) ≡ t.bytes
took_between {text} {p} {e} t = ap (λ (s : List ℕ). take (e - p) s) t.is ∙ take_at t.bytes (drop e text) (e - p) (omega (arith, t.size))

-- nothing taken, of a form that has the empty text
pub nothing_taken : {L : Type 0} {text : List ℕ} {p e : ℕ} {A : Form} → A [] → p ≡ e → Taken L text p e A
nothing_taken {L} {text} {p} {A = A} h z = subst (λ (k : ℕ). Taken L text p k A) z (inl (took_none h))

-- what never requires an LF
pub exact : {text : List ℕ} {p e : ℕ} {A : Form} → Taken ⊥ text p e A → Took text p e A
exact (inl t) = t
exact (inr t) = absurd t.0
