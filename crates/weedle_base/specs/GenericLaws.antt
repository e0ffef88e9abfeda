-- The generic parts are lawful where their parameters are: lemmas that the laws of `Parse` need.
use Rattle.std.proofs.Common.{sym, ap, ◌∙◌, subst, inl, inr}
use Rattle.std.proofs.lemmas.Str.{IsCharBoundary-start}
use Rattle.std.specs.Prelude.{◌≡◌, ℕ, ◌+◌, List, drop, Option, Some, None}
use Rattle.std.specs.Str.{IsCharBoundary, IsUtf8}
use Rattle.weedle_base.specs.Generic.{option_reading, option_gives, pair_reading, boxed_reading, seen_reading}
use Rattle.weedle_base.specs.PlaceLaws.{boundary_add, utf8_rest}
use Rattle.weedle_base.specs.Reading.{Reading, IsLawful}
use Rattle.weedle_base.specs.declared.fault.ErrorKind.{ErrorKind}
use Rattle.weedle_base.specs.Alike.{option_alike}
use Rattle.weedle_base.specs.AlikeLaws.{option_equivalence, pair_equivalence, seen_equivalence}

-- an option
module _ {V : Type 0} (R : Reading V) (lawful : IsLawful R) where
  option_within : (s : List ℕ) (v : Option V) (k : ℕ) → IsUtf8 s → option_gives R s v k → IsCharBoundary s k
  option_within s (Some v) k u h = lawful.within s v k u h
  option_within s None k u h = rw h.1 (IsCharBoundary-start s u)

  option_one : (s : List ℕ) (v w : Option V) (k l : ℕ) → IsUtf8 s → option_gives R s v k → option_gives R s w l
      → option_alike R.alike v w × (k ≡ l)
  option_one s (Some v) (Some w) k l u a b = lawful.one s v w k l u a b
  option_one s (Some v) None k l u a b = absurd (lawful.apart s v k u a b.0)
  option_one s None (Some w) k l u a b = absurd (lawful.apart s w l u b a.0)
  option_one s None None k l u a b = (tt, a.1 ∙ sym b.1)

  pub option_lawful : IsLawful (option_reading R)
  unfolding option_reading
  option_lawful = record {
    within = option_within;
    one = option_one;
    apart = λ s v k u h n. n;
    equivalence = option_equivalence lawful.equivalence;
    growing = lawful.growing;
  }

-- a pair
module _ {V W : Type 0} (R : Reading V) (S : Reading W) (first : IsLawful R) (second : IsLawful S) where
  pair_within : (s : List ℕ) (x : V × W) (k : ℕ) → IsUtf8 s → (pair_reading R S).gives s x k → IsCharBoundary s k
  unfolding pair_reading
  pair_within s x k u h =
      let b = first.within s x.0 h.0 u h.2 in
      rw h.4 (boundary_add s h.0 h.1 b (second.within (drop h.0 s) x.1 h.1 (utf8_rest s h.0 u b) h.3))

  pair_one : (s : List ℕ) (x y : V × W) (k l : ℕ) → IsUtf8 s → (pair_reading R S).gives s x k → (pair_reading R S).gives s y l
      → (pair_reading R S).alike x y × (k ≡ l)
  unfolding pair_reading
  pair_one s x y k l u a b =
      let bound = first.within s x.0 a.0 u a.2 in
      let p = first.one s x.0 y.0 a.0 b.0 u a.2 b.2 in
      let moved : S.gives (drop a.0 s) y.1 b.1 = subst (λ (i : ℕ). S.gives (drop i s) y.1 b.1) (sym p.1) b.3 in
      let q = second.one (drop a.0 s) x.1 y.1 a.1 b.1 (utf8_rest s a.0 u bound) a.3 moved in
      ((p.0, q.0), a.4 ∙ ap (λ (i : ℕ). i + a.1) p.1 ∙ ap (λ (j : ℕ). b.0 + j) q.1 ∙ sym b.4)

  pair_apart : (s : List ℕ) (x : V × W) (k : ℕ) → IsUtf8 s → (pair_reading R S).gives s x k → (pair_reading R S).refuses s → ⊥
  unfolding pair_reading
  pair_apart s x k u a (inl r) = first.apart s x.0 a.0 u a.2 r
  pair_apart s x k u a (inr b) =
      let bound = first.within s x.0 a.0 u a.2 in
      let p = first.one s x.0 b.0 a.0 b.1 u a.2 b.2 in
      second.apart (drop a.0 s) x.1 a.1 (utf8_rest s a.0 u bound) a.3 (subst (λ (i : ℕ). S.refuses (drop i s)) (sym p.1) b.3)

  pair_growing : (s r : List ℕ) (code : ErrorKind) → (pair_reading R S).stops s r code → (pair_reading R S).grows
  unfolding pair_reading
  pair_growing s r code (inl h) = inl (first.growing s r code h)
  pair_growing s r code (inr h) = inr (second.growing (drop h.1 s) r code h.3)

  pub pair_lawful : IsLawful (pair_reading R S)
  unfolding pair_reading
  pair_lawful = record {
    within = pair_within;
    one = pair_one;
    apart = pair_apart;
    equivalence = pair_equivalence first.equivalence second.equivalence;
    growing = pair_growing;
  }

-- a value that holds another
module _ {V B : Type 0} (inside : B → V) (R : Reading V) (lawful : IsLawful R) where
  pub boxed_lawful : IsLawful (boxed_reading inside R)
  unfolding boxed_reading
  boxed_lawful = record {
    within = λ s b k u h. lawful.within s (inside b) k u h;
    one = λ s b c k l u h m. lawful.one s (inside b) (inside c) k l u h m;
    apart = λ s b k u h m. lawful.apart s (inside b) k u h m;
    equivalence = seen_equivalence inside lawful.equivalence;
    growing = λ s r code h. tt;
  }

-- a value seen as another
module _ {V X : Type 0} (view : X → V) (R : Reading V) (lawful : IsLawful R) where
  pub seen_lawful : IsLawful (seen_reading view R)
  unfolding seen_reading
  seen_lawful = record {
    within = λ s x k u h. lawful.within s (view x) k u h;
    one = λ s x y k l u h m. lawful.one s (view x) (view y) k l u h m;
    apart = λ s x k u h m. lawful.apart s (view x) k u h m;
    equivalence = seen_equivalence view lawful.equivalence;
    growing = lawful.growing;
  }
