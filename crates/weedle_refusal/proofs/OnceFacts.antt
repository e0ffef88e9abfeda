-- Lists that have each thing once.
use Rattle.std.proofs.Common.{◌≡◌, ◌≢◌, ◌⊎◌, inl, inr, ℕ, ◌<◌, List, [], ◌∷◌, ◌++◌, length, get_or, Option, Some, None, refl, ap, ◌∙◌, subst, arith}
use Rattle.std.specs.List.{AllPairs, Contains, cons_option, filter_map}
use Rattle.std.proofs.lemmas.List.{get_or_default}
use Rattle.std.proofs.lemmas.List.Elements.{Contains-append_left, Contains-append_right, Contains-append_cases, Contains-push, Contains-push_cases}
use Rattle.std.proofs.lemmas.List.Quantifiers.{all_pairs_push}
use Rattle.weedle_refusal.specs.Words.{IsEachOnce, none, again, anew}

module _ {X : Type 0} where
  pub nothing : (x : X) → Contains [] x → ⊥
  nothing x c = omega (arith, c.1)

  at_place : (xs : List X) (k : ℕ) (d x : X) → k < length xs → get_or xs k d ≡ x → Contains xs x
  at_place xs k d x l e = (k, l, get_or_default xs k x d l ∙ e)

  -- each is there once
  pub once_differ : {xs ys : List X} → IsEachOnce xs ys → AllPairs (λ a b. a ≢ b) ys
  once_differ none = λ i j d l m. absurd (omega arith)
  once_differ (again h c) = once_differ h
  once_differ (anew {ys = ys} {x = x} h n) = all_pairs_push (λ a b. a ≢ b) ys x (once_differ h) (λ k d l e. n (at_place ys k d x l e))

  -- what is there was in the first list
  pub once_from : {xs ys : List X} → IsEachOnce xs ys → (v : X) → Contains ys v → Contains xs v
  once_from none v c = c
  once_from (again {xs = xs} {x = x} h c) v m = Contains-append_left xs (x ∷ []) v (once_from h v m)
  once_from (anew {xs = xs} {ys = ys} {x = x} h n) v m = elim (Contains-push_cases ys x v m) [
    | inl a ↦ Contains-append_left xs (x ∷ []) v (once_from h v a)
    | inr e ↦ subst (Contains (xs ++ x ∷ [])) e (Contains-push xs x)
  ]

  -- what was in the first list is there
  pub once_to : {xs ys : List X} → IsEachOnce xs ys → (v : X) → Contains xs v → Contains ys v
  once_to none v c = c
  once_to (again {xs = xs} {ys = ys} {x = x} h c) v m = elim (Contains-push_cases xs x v m) [ inl a ↦ once_to h v a | inr e ↦ subst (Contains ys) e c ]
  once_to (anew {xs = xs} {ys = ys} {x = x} h n) v m = elim (Contains-push_cases xs x v m) [
    | inl a ↦ Contains-append_left ys (x ∷ []) v (once_to h v a)
    | inr e ↦ subst (Contains (ys ++ x ∷ [])) e (Contains-push ys x)
  ]

  -- of a first element or one behind it
  pub first_cases : (x : X) (xs : List X) (v : X) → Contains (x ∷ xs) v → (x ≡ v) ⊎ Contains xs v
  first_cases x xs v c = elim (Contains-append_cases (x ∷ []) xs v c) [
    | inl a ↦ elim (Contains-push_cases [] x v a) [ inl n ↦ absurd (nothing v n) | inr e ↦ inl e ]
    | inr b ↦ inr b
  ]

  pub first : (x : X) (xs : List X) (v : X) → x ≡ v → Contains (x ∷ xs) v
  first x xs v e = subst (Contains (x ∷ xs)) e (Contains-append_left (x ∷ []) xs x (Contains-push [] x))

  pub behind : (x : X) (xs : List X) (v : X) → Contains xs v → Contains (x ∷ xs) v
  behind x xs v c = Contains-append_right (x ∷ []) xs v c

  here : (o : Option X) (xs : List X) (v : X) → o ≡ Some v → Contains (cons_option o xs) v
  here None xs v e = cc
  here (Some x) xs v e = let q : x ≡ v = cc in first x xs v q

  later : (o : Option X) (xs : List X) (v : X) → Contains xs v → Contains (cons_option o xs) v
  later None xs v c = c
  later (Some x) xs v c = behind x xs v c

  either : (o : Option X) (xs : List X) (v : X) → Contains (cons_option o xs) v → (o ≡ Some v) ⊎ Contains xs v
  either None xs v c = inr c
  either (Some x) xs v c = elim (first_cases x xs v c) [ inl e ↦ inl (ap Some e) | inr d ↦ inr d ]

module _ {X Y : Type 0} (f : X → Option Y) where
  -- what f gives of an element is among what it gives of the list
  pub given : (xs : List X) (x : X) (y : Y) → Contains xs x → f x ≡ Some y → Contains (filter_map f xs) y
  given [] x y c e = absurd (nothing x c)
  given (z ∷ xs) x y c e = elim (first_cases z xs x c) [
    | inl q ↦ here (f z) (filter_map f xs) y (ap f q ∙ e)
    | inr d ↦ later (f z) (filter_map f xs) y (given xs x y d e)
  ]

  -- and all that it gives of the list, it gives of some element
  pub giver : (xs : List X) (y : Y) → Contains (filter_map f xs) y → (x : X) × Contains xs x × (f x ≡ Some y)
  giver [] y c = absurd (nothing y c)
  giver (z ∷ xs) y c = elim (either (f z) (filter_map f xs) y c) [
    | inl e ↦ (z, first z xs z refl, e)
    | inr d ↦ (let g = giver xs y d in (g.0, behind z xs g.0 g.1, g.2))
  ]
