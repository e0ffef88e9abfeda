-- What an unread part passes over, and where it ends.
use Rattle.std.proofs.Common.{◌≡◌, ◌⊎◌, inl, inr, drop, ◌∙◌, ℕ, zero, suc, ◌+◌, ◌<◌, ◌≤◌, List, [], ◌∷◌, ◌++◌, take, length, Option, Some, None, refl, sym, subst, ap, arith}
use Rattle.std.specs.List.{slice_get}
use Rattle.weedle_rules.specs.Outcomes.{EndsAt, FailsAt}
use Rattle.weedle_rules.proofs.OutcomeFacts.{one_end, not_both}
use Rattle.weedle_recovery.specs.Dialects.{beginnings_of}
use Rattle.weedle_recovery.specs.Stops.{AreRead, FrontReads, OneReads}
use Rattle.weedle_syntax.specs.declared.dialect.Dialect.{Dialect}
use Rattle.weedle_syntax.specs.declared.dialect.Dialect.TheVariants.{Weedle2, Today}

-- one more number of a list
take_suc : (xs : List ℕ) (n x : ℕ) → slice_get xs n ≡ Some x → take (suc n) xs ≡ take n xs ++ x ∷ []
take_suc [] n x e = cc
take_suc (y ∷ xs) zero x e = let s : y ≡ x = cc in ap (λ z. z ∷ []) s
take_suc (y ∷ xs) (suc n) x e = ap (λ zs. y ∷ zs) (take_suc xs n x e)

one_more : (n : ℕ) → suc n ≡ n + 1
one_more n = omega arith

take_more : (xs : List ℕ) (n x : ℕ) → slice_get xs n ≡ Some x → take (n + 1) xs ≡ take n xs ++ x ∷ []
take_more xs n x e = subst (λ z. take z xs ≡ take n xs ++ x ∷ []) (one_more n) (take_suc xs n x e)

-- what follows the first ones
take_past : (xs : List ℕ) (n many x : ℕ) → n < many → slice_get xs n ≡ Some x → (more : List ℕ) × (take many xs ≡ take n xs ++ x ∷ more)
take_past [] n many x l e = cc
take_past (y ∷ xs) n zero x l e = absurd (omega (arith, l))
take_past (y ∷ xs) zero (suc m) x l e = let s : y ≡ x = cc in (take m xs, ap (λ z. z ∷ take m xs) s)
take_past (y ∷ xs) (suc n) (suc m) x l e = let r = take_past xs n m x (omega (arith, l)) e in (r.0, ap (λ zs. y ∷ zs) r.1)

take_nil : (n : ℕ) → ◌≡◌ {A = List ℕ} (take n []) []
take_nil zero = refl
take_nil (suc n) = refl

-- nothing follows them
take_all : (xs : List ℕ) (n many : ℕ) → n ≤ many → slice_get xs n ≡ None → take many xs ≡ take n xs
take_all [] n many l e = take_nil many ∙ sym (take_nil n)
take_all (y ∷ xs) zero many l e = cc
take_all (y ∷ xs) (suc n) zero l e = absurd (omega (arith, l))
take_all (y ∷ xs) (suc n) (suc m) l e = ap (λ zs. y ∷ zs) (take_all xs n m (omega (arith, l)) e)

module _ (text : List ℕ) where
  snoc : (rs : List ℕ) (r p q e : ℕ) → AreRead text rs p q → EndsAt text r q e → AreRead text (rs ++ r ∷ []) p e
  snoc [] r p q e a h = (e, subst (λ z. EndsAt text r z e) a h, refl)
  snoc (x ∷ rs) r p q e (m, k, a) h = (m, k, snoc rs r m q e a h)

  stuck : (rs more : List ℕ) (r p q e : ℕ) → AreRead text rs p q → FailsAt text r q → AreRead text (rs ++ r ∷ more) p e → ⊥
  stuck [] more r p q e a f (m, h, b) = not_both (subst (FailsAt text r) a f) h
  stuck (x ∷ rs) more r p q e (m, k, a) f (n, h, b) = stuck rs more r m q e a f (subst (λ z. AreRead text (rs ++ r ∷ more) z e) (one_end k h) b)

  module _ (parts : List ℕ) (n p at : ℕ) (a : AreRead text (take n parts) p at) where
    -- one more part is read
    pub reads_on : {r e : ℕ} → slice_get parts n ≡ Some r → EndsAt text r at e → AreRead text (take (n + 1) parts) p e
    reads_on {r} {e} g h = subst (λ rs. AreRead text rs p e) (sym (take_more parts n r g)) (snoc (take n parts) r p at e a h)

    -- there is no other part
    pub reads_all : {many : ℕ} → n ≤ many → slice_get parts n ≡ None → AreRead text (take many parts) p at
    reads_all {many} l g = subst (λ rs. AreRead text rs p at) (sym (take_all parts n many l g)) a

    -- the next part fails
    pub reads_not : {many r : ℕ} → n < many → slice_get parts n ≡ Some r → FailsAt text r at → ((e : ℕ) × AreRead text (take many parts) p e) → ⊥
    reads_not {many} {r} l g f (e, b) =
        let m = take_past parts n many r l g in
        stuck (take n parts) m.0 r p at e a f (subst (λ rs. AreRead text rs p e) m.1 b)

-- what is in front of a list, and what follows it
pub get_front : (xs ys : List ℕ) (n r : ℕ) → slice_get xs n ≡ Some r → slice_get (xs ++ ys) n ≡ Some r
get_front [] ys n r e = cc
get_front (x ∷ xs) ys zero r e = e
get_front (x ∷ xs) ys (suc n) r e = get_front xs ys n r e

pub get_behind : (xs ys : List ℕ) (n k : ℕ) → slice_get xs n ≡ None → n ≡ length xs + k → slice_get (xs ++ ys) n ≡ slice_get ys k
get_behind [] ys n k e i = let same : n ≡ k = omega (arith, i) in ap (slice_get ys) same
get_behind (x ∷ xs) ys zero k e i = cc
get_behind (x ∷ xs) ys (suc n) k e i = get_behind xs ys n k e (omega (arith, i))

-- where a list has nothing, it has ended
pub get_none : (xs : List ℕ) (n : ℕ) → slice_get xs n ≡ None → length xs ≤ n
get_none [] n e = omega arith
get_none (x ∷ xs) zero e = cc
get_none (x ∷ xs) (suc n) e = let within : length xs ≤ n = get_none xs n e in omega (arith, within)

-- no kind of definition has a greater number
pub no_more : (dialect : Dialect) → slice_get (beginnings_of dialect) 14 ≡ None
no_more Weedle2 = refl
no_more Today = refl

-- of the definitions that may begin at a place, those up to a number don't
module _ (dialect : Dialect) (text : List ℕ) (p : ℕ) where
  -- if one begins, it is one of those from this number on
  abbrev pub AreLeft : List (ℕ × ℕ) → ℕ → Type 0
  AreLeft ds n = OneReads dialect text ds p → OneReads dialect text (drop n ds) p

  pub one_reads : (ds : List (ℕ × ℕ)) (n : ℕ) {d : ℕ × ℕ} → slice_get ds n ≡ Some d → FrontReads dialect text d.0 d.1 p → OneReads dialect text ds p
  one_reads [] n e h = cc
  one_reads (x ∷ ds) zero {d} e h = let s : d ≡ x = cc in inl (subst (λ z. FrontReads dialect text z.0 z.1 p) s h)
  one_reads (x ∷ ds) (suc n) e h = inr (one_reads ds n e h)

  one_suc : (ds : List (ℕ × ℕ)) (n : ℕ) {d : ℕ × ℕ} → slice_get ds n ≡ Some d → (FrontReads dialect text d.0 d.1 p → ⊥) → OneReads dialect text (drop n ds) p
      → OneReads dialect text (drop (suc n) ds) p
  one_suc [] n e f h = cc
  one_suc (x ∷ ds) zero {d} e f (inl h) = let s : x ≡ d = cc in absurd (f (subst (λ z. FrontReads dialect text z.0 z.1 p) s h))
  one_suc (x ∷ ds) zero e f (inr h) = h
  one_suc (x ∷ ds) (suc n) e f h = one_suc ds n e f h

  pub one_less : (ds : List (ℕ × ℕ)) (n : ℕ) {d : ℕ × ℕ} → slice_get ds n ≡ Some d → (FrontReads dialect text d.0 d.1 p → ⊥) → AreLeft ds n → AreLeft ds (n + 1)
  one_less ds n e f left h = subst (λ z. OneReads dialect text (drop z ds) p) (one_more n) (one_suc ds n e f (left h))

  pub none_left : (ds : List (ℕ × ℕ)) (n : ℕ) → slice_get ds n ≡ None → OneReads dialect text (drop n ds) p → ⊥
  none_left [] zero e h = h
  none_left [] (suc n) e h = h
  none_left (x ∷ ds) zero e h = cc
  none_left (x ∷ ds) (suc n) e h = none_left ds n e h
