-- Lists with separators are lawful: lemmas that their laws need.
use Rattle.std.proofs.Common.{sym, ◌∙◌, subst, inl, inr, arith}
use Rattle.std.proofs.lemmas.Str.{IsCharBoundary-start}
use Rattle.std.specs.Prelude.{◌≡◌, ℕ, ◌<◌, List, [], ◌∷◌, drop}
use Rattle.std.specs.Str.{IsCharBoundary, IsUtf8}
use Rattle.weedle_base.specs.Alike.{all_alike}
use Rattle.weedle_base.specs.AlikeLaws.{all_equivalence, seen_equivalence}
use Rattle.weedle_base.specs.Generic.{pair_reading, option_reading}
use Rattle.weedle_base.specs.GenericLaws.{pair_lawful, option_lawful}
use Rattle.weedle_base.specs.PlaceLaws.{boundary_add, utf8_rest}
use Rattle.weedle_base.specs.Reading.{Reading, IsLawful}
use Rattle.weedle_base.specs.RunLaws.{IsLawfulStep, run_lawful}
use Rattle.weedle_parts.specs.Lists.{list_gives, next_step, punctuated_reading, list1_reading, list_reading, list1_gives, punctuated_non_empty_reading, tail_reading}

module _ {V W : Type 0} (R : Reading V) (S : Reading W) (item : IsLawful R) (separator : IsLawful S) where
  next_within : (s : List ℕ) (v : V) (k : ℕ) → IsUtf8 s → (next_step R S).takes s v k → IsCharBoundary s k
  next_within s v k u t =
      let b = separator.within s t.0 t.1 u t.3 in
      rw t.6 (boundary_add s t.1 t.2 b (item.within (drop t.1 s) v t.2 (utf8_rest s t.1 u b) t.5))

  next_one : (s : List ℕ) (v x : V) (k l : ℕ) → IsUtf8 s → (next_step R S).takes s v k → (next_step R S).takes s x l → R.alike v x × (k ≡ l)
  next_one s v x k l u a b =
      let bound = separator.within s a.0 a.1 u a.3 in
      let p = separator.one s a.0 b.0 a.1 b.1 u a.3 b.3 in
      let other : R.gives (drop a.1 s) x b.2 = subst (λ (n : ℕ). R.gives (drop n s) x b.2) (sym p.1) b.5 in
      let q = item.one (drop a.1 s) v x a.2 b.2 (utf8_rest s a.1 u bound) a.5 other in
      (q.0, omega (arith, a.6, b.6, p.1, q.1))

  next_takes_ends : (s : List ℕ) (v : V) (k : ℕ) → IsUtf8 s → (next_step R S).takes s v k → (next_step R S).ends s → ⊥
  next_takes_ends s v k u a (inl r) = separator.apart s a.0 a.1 u a.3 r
  next_takes_ends s v k u a (inr b) =
      let bound = separator.within s a.0 a.1 u a.3 in
      let p = separator.one s a.0 b.0 a.1 b.1 u a.3 b.2 in
      item.apart (drop a.1 s) v a.2 (utf8_rest s a.1 u bound) a.5 (subst (λ (n : ℕ). R.refuses (drop n s)) (sym p.1) b.4)

  next_ends_refuses : (s : List ℕ) → IsUtf8 s → (next_step R S).ends s → (next_step R S).refuses s → ⊥
  next_ends_refuses s u (inl r) b = separator.apart s b.0 0 u b.1 r
  next_ends_refuses s u (inr a) b = let p = separator.one s a.0 b.0 a.1 0 u a.2 b.1 in let less : 0 < a.1 = a.3 in omega (arith, p.1)

  pub next_step_lawful : IsLawfulStep (next_step R S)
  next_step_lawful = record {
    within = next_within;
    one = next_one;
    takes_ends = next_takes_ends;
    takes_refuses = λ s v k u a b. let p = separator.one s a.0 b.0 a.1 0 u a.3 b.1 in let less : 0 < a.1 = a.4 in omega (arith, p.1);
    ends_refuses = next_ends_refuses;
    equivalence = item.equivalence;
  }

  pub tail_lawful : IsLawful (tail_reading R S)
  tail_lawful = run_lawful (λ vs. vs) (next_step R S) next_step_lawful

  head_lawful : IsLawful (pair_reading R (tail_reading R S))
  head_lawful = pair_lawful R (tail_reading R S) item tail_lawful

  list1_one : (s : List ℕ) (v w : List V) (k l : ℕ) → IsUtf8 s → list1_gives R S s v k → list1_gives R S s w l → all_alike R.alike v w × (k ≡ l)
  unfolding pair_reading
  list1_one s [] w k l u a b = absurd a
  list1_one s (v ∷ vs) [] k l u a b = absurd b
  list1_one s (v ∷ vs) (w ∷ ws) k l u a b = head_lawful.one s (v, vs) (w, ws) k l u a b

  list1_within : (s : List ℕ) (v : List V) (k : ℕ) → IsUtf8 s → list1_gives R S s v k → IsCharBoundary s k
  list1_within s [] k u a = absurd a
  list1_within s (v ∷ vs) k u a = head_lawful.within s (v, vs) k u a

  list1_apart : (s : List ℕ) (v : List V) (k : ℕ) → IsUtf8 s → list1_gives R S s v k → (list1_reading R S).refuses s → ⊥
  list1_apart s [] k u a b = absurd a
  list1_apart s (v ∷ vs) k u a b = head_lawful.apart s (v, vs) k u a b

  pub list1_lawful : IsLawful (list1_reading R S)
  list1_lawful = record {
    within = list1_within;
    one = list1_one;
    apart = list1_apart;
    equivalence = tail_lawful.equivalence;
    growing = λ s r code h. tt;
  }

  list_one : (s : List ℕ) (v w : List V) (k l : ℕ) → IsUtf8 s → list_gives R S s v k → list_gives R S s w l → all_alike R.alike v w × (k ≡ l)
  unfolding pair_reading
  list_one s [] [] k l u a b = (tt, a.1 ∙ sym b.1)
  list_one s [] (w ∷ ws) k l u a b = absurd (item.apart s w b.0 u b.2 a.0)
  list_one s (v ∷ vs) [] k l u a b = absurd (item.apart s v a.0 u a.2 b.0)
  list_one s (v ∷ vs) (w ∷ ws) k l u a b = head_lawful.one s (v, vs) (w, ws) k l u a b

  list_within : (s : List ℕ) (v : List V) (k : ℕ) → IsUtf8 s → list_gives R S s v k → IsCharBoundary s k
  list_within s [] k u a = rw a.1 (IsCharBoundary-start s u)
  list_within s (v ∷ vs) k u a = head_lawful.within s (v, vs) k u a

  list_apart : (s : List ℕ) (v : List V) (k : ℕ) → IsUtf8 s → list_gives R S s v k → (list_reading R S).refuses s → ⊥
  unfolding pair_reading
  list_apart s [] k u a b = item.apart s b.0 b.1 u b.2 a.0
  list_apart s (v ∷ vs) k u a b = head_lawful.apart s (v, vs) k u a (inr b)

  module _ {L : Type 0} (view : L → List V) (known : L → Type 0) where
    pub punctuated_lawful : IsLawful (punctuated_reading R S view known)
    unfolding punctuated_reading
    punctuated_lawful = record {
      within = λ s l k u h. list_within s (view l) k u h.0;
      one = λ s l m j k u h i. list_one s (view l) (view m) j k u h.0 i.0;
      apart = λ s l k u h r. list_apart s (view l) k u h.0 r;
      equivalence = seen_equivalence view (all_equivalence item.equivalence);
      growing = λ s r code h. tt;
    }

    whole_lawful : IsLawful (pair_reading (list1_reading R S) (option_reading S))
    whole_lawful = pair_lawful (list1_reading R S) (option_reading S) list1_lawful (option_lawful S separator)

    pub punctuated_non_empty_lawful : IsLawful (punctuated_non_empty_reading R S view known)
    unfolding pair_reading punctuated_non_empty_reading
    punctuated_non_empty_lawful = record {
      within = λ s l k u h. whole_lawful.within s (view l, h.0.0) k u h.0.1;
      one = λ s l m j k u h i. let p = whole_lawful.one s (view l, h.0.0) (view m, i.0.0) j k u h.0.1 i.0.1 in (p.0.0, p.1);
      apart = λ s l k u h r. whole_lawful.apart s (view l, h.0.0) k u h.0.1 r;
      equivalence = seen_equivalence view (all_equivalence item.equivalence);
      growing = λ s r code h. tt;
    }
