-- Runs of items are lawful where their steps are: lemmas that the law of `Vec` needs.
use Rattle.std.proofs.Common.{sym, ap, ◌∙◌, subst, arith}
use Rattle.std.proofs.lemmas.List.{drop-drop}
use Rattle.std.proofs.lemmas.Str.{IsCharBoundary-start}
use Rattle.std.specs.Prelude.{◌≡◌, ℕ, ◌+◌, ◌<◌, List, [], ◌∷◌, drop}
use Rattle.std.specs.Str.{IsCharBoundary, IsUtf8}
use Rattle.weedle_base.specs.PlaceLaws.{boundary_add, utf8_rest}
use Rattle.weedle_base.specs.Reading.{Reading, IsLawful}
use Rattle.weedle_base.specs.Runs.{Step, Items, run_reading, vec_step}
use Rattle.weedle_base.specs.Alike.{IsEquivalence, all_alike}
use Rattle.weedle_base.specs.AlikeLaws.{all_equivalence, seen_equivalence}

-- the laws of a step
pub record IsLawfulStep {V : Type 0} (S : Step V) : Type 0 where
  -- an item ends where a character begins
  pub within : (s : List ℕ) (v : V) (k : ℕ) → IsUtf8 s → S.takes s v k → IsCharBoundary s k
  -- at most one item and end belong to a text
  pub one : (s : List ℕ) (v w : V) (k l : ℕ) → IsUtf8 s → S.takes s v k → S.takes s w l → S.alike v w × (k ≡ l)
  -- at most one of the three happens at a place: an item is taken, the list ends, the whole is refused
  pub takes_ends : (s : List ℕ) (v : V) (k : ℕ) → IsUtf8 s → S.takes s v k → S.ends s → ⊥
  pub takes_refuses : (s : List ℕ) (v : V) (k : ℕ) → IsUtf8 s → S.takes s v k → S.refuses s → ⊥
  pub ends_refuses : (s : List ℕ) → IsUtf8 s → S.ends s → S.refuses s → ⊥
  -- being alike is an equivalence
  pub equivalence : IsEquivalence S.alike

-- items one after another
module _ {V : Type 0} (S : Step V) (lawful : IsLawfulStep S) where
  -- they end where a character begins
  pub Items-within : (s : List ℕ) (vs : List V) (k : ℕ) → IsUtf8 s → Items S.takes s vs k → IsCharBoundary s k
  Items-within s [] k u h = rw h (IsCharBoundary-start s u)
  Items-within s (v ∷ vs) k u h =
      let b = lawful.within s v h.0 u h.2 in
      rw h.4 (boundary_add s h.0 h.1 b (Items-within (drop h.0 s) vs h.1 (utf8_rest s h.0 u b) h.3))

  -- two runs to places where none goes on are the same run
  module _ (A B : List ℕ → Type 0)
      (not_a : (s : List ℕ) (v : V) (k : ℕ) → IsUtf8 s → S.takes s v k → A s → ⊥)
      (not_b : (s : List ℕ) (v : V) (k : ℕ) → IsUtf8 s → S.takes s v k → B s → ⊥) where
    pub Items-same : (s : List ℕ) (vs ws : List V) (k l : ℕ) → IsUtf8 s → Items S.takes s vs k → A (drop k s)
        → Items S.takes s ws l → B (drop l s) → all_alike S.alike vs ws × (k ≡ l)
    Items-same s [] [] k l u h a m b = (tt, h ∙ sym m)
    Items-same s [] (w ∷ ws) k l u h a m b = absurd (not_a s w m.0 u m.2 (subst (λ (n : ℕ). A (drop n s)) h a))
    Items-same s (v ∷ vs) [] k l u h a m b = absurd (not_b s v h.0 u h.2 (subst (λ (n : ℕ). B (drop n s)) m b))
    Items-same s (v ∷ vs) (w ∷ ws) k l u h a m b =
        let bound = lawful.within s v h.0 u h.2 in
        let p = lawful.one s v w h.0 m.0 u h.2 m.2 in
        let items : Items S.takes (drop h.0 s) ws m.1 = subst (λ (n : ℕ). Items S.takes (drop n s) ws m.1) (sym p.1) m.3 in
        let end_a : A (drop h.1 (drop h.0 s)) = subst A (ap (λ (n : ℕ). drop n s) h.4 ∙ sym (drop-drop h.1 h.0 s)) a in
        let end_b : B (drop m.1 (drop h.0 s)) =
        subst B (ap (λ (n : ℕ). drop n s) (m.4 ∙ ap (λ (n : ℕ). n + m.1) (sym p.1)) ∙ sym (drop-drop m.1 h.0 s)) b in
        let q = Items-same (drop h.0 s) vs ws h.1 m.1 (utf8_rest s h.0 u bound) h.3 end_a items end_b in
        ((p.0, q.0), h.4 ∙ ap (λ (n : ℕ). n + h.1) p.1 ∙ ap (λ (n : ℕ). m.0 + n) q.1 ∙ sym m.4)

-- a run of items
module _ {V L : Type 0} (view : L → List V) (S : Step V) (lawful : IsLawfulStep S) where
  pub run_lawful : IsLawful (run_reading view S)
  run_lawful = record {
    within = λ s v k u h. Items-within S lawful s (view v) k u h.0;
    one = λ s v w k l u h m. Items-same S lawful S.ends S.ends lawful.takes_ends lawful.takes_ends s (view v) (view w) k l u h.0 h.1 m.0 m.1;
    apart = λ s v k u h m.
        let p = Items-same S lawful S.ends S.refuses lawful.takes_ends lawful.takes_refuses s (view v) m.0 k m.1 u h.0 h.1 m.2 m.3 in
        let bound = Items-within S lawful s (view v) k u h.0 in
        lawful.ends_refuses (drop k s) (utf8_rest s k u bound) h.1 (subst (λ (n : ℕ). S.refuses (drop n s)) (sym p.1) m.3);
    equivalence = seen_equivalence view (all_equivalence lawful.equivalence);
    growing = λ s r code h. tt;
  }

-- the step of `Vec`
module _ {V : Type 0} (R : Reading V) (lawful : IsLawful R) where
  pub vec_step_lawful : IsLawfulStep (vec_step R)
  vec_step_lawful = record {
    within = λ s v k u h. lawful.within s v k u h.0;
    one = λ s v w k l u h m. lawful.one s v w k l u h.0 m.0;
    takes_ends = λ s v k u h m. lawful.apart s v k u h.0 m;
    takes_refuses = λ s v k u h m. let p = lawful.one s v m.0 k 0 u h.0 m.1 in let less : 0 < k = h.1 in omega (arith, p.1);
    ends_refuses = λ s u h m. lawful.apart s m.0 0 u m.1 h;
    equivalence = lawful.equivalence;
  }
