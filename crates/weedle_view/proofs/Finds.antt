-- Going through a list from the front: the first element that passes a test, all that do, and a view of each.
use Rattle.std.proofs.Common.{◌≡◌, ℕ, zero, suc, ◌+◌, ◌<◌, Bool, true, false, cond, Option, Some, None, List, [], ◌∷◌, length, get_or, map, filter, ◌++◌, take, find, refl, add-one, append-nil, arith}
use Rattle.std.proofs.lemmas.List.Elements.{filter_more}
use Rattle.std.proofs.lemmas.List.{map-append, take_more}

-- where a choice that gives something gives nothing, its test fails
neither : {X : Type 0} (b : Bool) (x : X) (o : Option X) → cond b (Some x) o ≡ None → (b ≡ false) × (o ≡ None)
neither true x o e = absurd (cc)
neither false x o e = (refl, e)

-- an element that passes is the first, if none before it does
pub found : {X : Type 0} (p : X → Bool) (xs : List X) (i : ℕ) (x : X) → x ≡ get_or xs i x → i < length xs → find p (take i xs) ≡ None → p x ≡ true → find p xs ≡ Some x
found p [] i x is below none passes = absurd (omega (arith, below))
found p (y ∷ ys) zero x is below none passes = rw (← is, passes) refl
found p (y ∷ ys) (suc i) x is below none passes =
    let h = neither (p y) y (find p (take i ys)) none in
    rw (h.0) (found p ys i x is (omega (arith, below)) h.1 passes)

-- an element that fails leaves nothing found
not_yet : {X : Type 0} (p : X → Bool) (xs : List X) (i : ℕ) (x : X) → x ≡ get_or xs i x → i < length xs → find p (take i xs) ≡ None → p x ≡ false → find p (take (suc i) xs) ≡ None
not_yet p [] i x is below none fails = absurd (omega (arith, below))
not_yet p (y ∷ ys) zero x is below none fails = rw (← is, fails) refl
not_yet p (y ∷ ys) (suc i) x is below none fails =
    let h = neither (p y) y (find p (take i ys)) none in
    rw (h.0) (not_yet p ys i x is (omega (arith, below)) h.1 fails)

-- the same, as a loop counts
pub still_none : {X : Type 0} (p : X → Bool) (xs : List X) (i : ℕ) (x : X) → x ≡ get_or xs i x → i < length xs → find p (take i xs) ≡ None → p x ≡ false → find p (take (i + 1) xs) ≡ None
still_none p xs i x is below none fails = rw (add-one) (not_yet p xs i x is below none fails)

-- an element that passes is kept
pub kept : {R X : Type 0} (f : R → X) (p : X → Bool) (xs : List X) (i : ℕ) (rs : List R) (r : R) → f r ≡ get_or xs i (f r) → i < length xs → map f rs ≡ filter p (take i xs) → p (f r) ≡ true → map f (rs ++ r ∷ []) ≡ filter p (take (i + 1) xs)
kept f p xs i rs r is below so_far passes =
    let more = filter_more p xs i (f r) below in
    let step : filter p (take (i + 1) xs) ≡ filter p (take i xs) ++ f r ∷ [] = rw (more, ← is, passes) refl in
    rw (map-append, so_far, step) refl

-- one that fails is not
pub passed_over : {R X : Type 0} (f : R → X) (p : X → Bool) (xs : List X) (i : ℕ) (x : X) (rs : List R) → x ≡ get_or xs i x → i < length xs → map f rs ≡ filter p (take i xs) → p x ≡ false → map f rs ≡ filter p (take (i + 1) xs)
passed_over f p xs i x rs is below so_far fails =
    let more = filter_more p xs i x below in
    rw (more, ← is, fails, append-nil) so_far

-- an element's view is put behind those of the elements before
pub viewed : {R X Y : Type 0} (f : R → Y) (g : X → Y) (xs : List X) (i : ℕ) (x : X) (rs : List R) (r : R) → x ≡ get_or xs i x → i < length xs → map f rs ≡ map g (take i xs) → f r ≡ g x → map f (rs ++ r ∷ []) ≡ map g (take (i + 1) xs)
viewed f g xs i x rs r is below so_far same =
    let more = take_more xs i x below in
    rw (more, map-append, map-append, so_far, same, ← is) refl
