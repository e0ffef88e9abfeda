-- Parts at any depth that begin at one place and take text lie in one another.
use Rattle.std.proofs.Common.{◌≡◌, ◌⊎◌, inl, inr, ℕ, zero, suc, ◌<◌, ◌≤◌, List, [], ◌∷◌, Bool, true, false, sym, subst, ap, ◌∙◌, arith}
use Rattle.std.specs.Prelude.{cond, nat_lt, ◌&&◌}
use Rattle.std.specs.List.{Contains, filter}
use Rattle.std.proofs.lemmas.Bool.{cond-true, eq-eqb, lt-ltb}
use Rattle.weedle_grammar.specs.Meaning.{Grammar}
use Rattle.weedle_grammar.specs.Nesting.{Part, parts, takes_at, IsIn, itself, deeper, IsBelow}
use Rattle.weedle_grammar.proofs.Ranked.{is_ranked}
use Rattle.weedle_grammar.proofs.Lower.{by_number}
use Rattle.weedle_grammar.proofs.Nesting.Order.{InOrder, order_le, order}
use Rattle.weedle_grammar.proofs.Nesting.Start.{IsOne, OneAt, one}

module _ {G : Grammar} {text : List ℕ} where
  -- the first is where the list says, or it is one of the others
  contains_cases : (b : Part G text) (xs : List (Part G text)) (a : Part G text) → Contains (b ∷ xs) a → (b ≡ a) ⊎ Contains xs a
  contains_cases b xs a (zero, l, e) = inl e
  contains_cases b xs a (suc k, l, e) = inr (k, omega arith, e)

  contains_none : (a : Part G text) → Contains [] a → ⊥
  contains_none a (k, l, e) = omega arith

  -- each of the parts between two places lies between them
  pub lies_between : (p e : ℕ) (xs : List (Part G text)) (a : Part G text) → InOrder p e xs → Contains xs a → (p ≤ a.start) × (a.end ≤ e)
  lies_between p e [] a h c = absurd (contains_none a c)
  lies_between p e (b ∷ xs) a h c = elim (contains_cases b xs a c) [
    | inl s ↦ (let f : p ≤ b.start = h.0 in let g = order_le b.end e xs h.2 in subst (λ z. (p ≤ z.start) × (z.end ≤ e)) s (f, g))
    | inr m ↦ (let f = lies_between b.end e xs a h.2 m in let g = h.0 in let i = h.1 in let j = f.0 in (omega arith, f.1))
  ]

  -- two of the parts that reach over one byte are the same
  pub one_over : (p e q : ℕ) (xs : List (Part G text)) (a b : Part G text) → InOrder p e xs → Contains xs a → Contains xs b
      → a.start ≤ q → q < a.end → b.start ≤ q → q < b.end → a ≡ b
  one_over p e q [] a b h c d i j k l = absurd (contains_none a c)
  one_over p e q (x ∷ xs) a b h c d i j k l = elim (contains_cases x xs a c) [
    | inl s ↦ elim (contains_cases x xs b d) [
      | inl t ↦ sym s ∙ t
      | inr t ↦ (let f = lies_between x.end e xs b h.2 t in let g : x.end ≡ a.end = ap (λ z. z.end) s in let m = f.0 in absurd (omega arith))
    ]
    | inr s ↦ elim (contains_cases x xs b d) [
      | inl t ↦ (let f = lies_between x.end e xs a h.2 s in let g : x.end ≡ b.end = ap (λ z. z.end) t in let m = f.0 in absurd (omega arith))
      | inr t ↦ one_over x.end e q xs a b h.2 s t i j k l
    ]
  ]

  -- a part lies within what it is a part of
  pub within : (a b : Part G text) → IsIn a b → (b.start ≤ a.start) × (a.end ≤ b.end)
  within a b (itself e) = subst (λ z. (z.start ≤ a.start) × (a.end ≤ z.end)) (sym e) (omega arith, omega arith)
  within a b (deeper {between = x} c m) =
      let f = lies_between b.start b.end (parts b.derived) x (order b.derived) c in
      let g = within a x m in
      let h = f.0 in let i = f.1 in let j = g.0 in let k = g.1 in (omega arith, omega arith)

  -- of parts of which at most one begins at p and takes text, that one is low
  head_low : (k : ℕ) (x : Part G text) (xs : List (Part G text)) → IsOne k (x ∷ xs) → x.rule < k
  head_low k x xs (inl e) = cc
  head_low k x xs (inr (a, e, l)) = let s : x ≡ a = cc in let t : x.rule ≡ a.rule = ap (λ z. z.rule) s in omega arith

  chosen_low : (k p : ℕ) (x : Part G text) (t : Bool) (xs : List (Part G text)) → t ≡ true → IsOne k (cond t (x ∷ xs) xs) → x.rule < k
  chosen_low k p x t xs e h = head_low k x xs (subst (IsOne k) (cond-true t (x ∷ xs) xs e) h)

  tail_low : (k : ℕ) (t : Bool) (x : Part G text) (xs : List (Part G text)) → IsOne k (cond t (x ∷ xs) xs) → IsOne k xs
  tail_low k true x xs (inl e) = cc
  tail_low k true x xs (inr (a, e, l)) = inl cc
  tail_low k false x xs h = h

  starts : (p : ℕ) (a : Part G text) → a.start ≡ p → p < a.end → takes_at p a ≡ true
  starts p a e l = ap (λ b. b && nat_lt p a.end) (eq-eqb a.start p e) ∙ lt-ltb p a.end l

  pub low_at_start : (k p : ℕ) (xs : List (Part G text)) (a : Part G text) → OneAt k p xs → Contains xs a → a.start ≡ p → p < a.end → a.rule < k
  low_at_start k p [] a h c e l = absurd (contains_none a c)
  low_at_start k p (x ∷ xs) a h c e l = elim (contains_cases x xs a c) [
    | inl s ↦ (let f : x.rule ≡ a.rule = ap (λ z. z.rule) s in
        let g : x.start ≡ a.start = ap (λ z. z.start) s in
        let i : x.end ≡ a.end = ap (λ z. z.end) s in
        let j = chosen_low k p x (takes_at p x) (filter (takes_at p) xs) (starts p x (omega arith) (omega arith)) h in omega arith)
    | inr m ↦ low_at_start k p xs a (tail_low k (takes_at p x) x (filter (takes_at p) xs) h) m e l
  ]

module _ (G : Grammar) (text : List ℕ) (takes : ℕ → Bool) (ranked : (r : ℕ) → is_ranked by_number takes r (G.row r) ≡ true) where
  -- a part at the start of another that takes text: the same, or of a smaller number
  lower : (a b : Part G text) → IsIn a b → a.start ≡ b.start → a.start < a.end → (a ≡ b) ⊎ (a.rule < b.rule)
  lower a b (itself e) s t = inl (sym e)
  lower a b (deeper {between = x} c m) s t =
      let f = lies_between b.start b.end (parts b.derived) x (order b.derived) c in
      let g = within a x m in
      let h = f.0 in let i = g.0 in let j = g.1 in
      let k : x.rule < b.rule = low_at_start b.rule b.start (parts b.derived) x (one G text takes ranked b.derived) c (omega arith) (omega arith) in
      elim (lower a x m (omega arith) t) [
        | inl e ↦ (let l : a.rule ≡ x.rule = ap (λ z. z.rule) e in inr (omega arith))
        | inr l ↦ inr (omega arith)
      ]

  below_or_same : (a b : Part G text) → IsIn a b → a.start ≡ b.start → a.start < a.end → (a ≡ b) ⊎ IsBelow a b
  below_or_same a b m s t = elim (lower a b m s t) [ inl e ↦ inl e | inr l ↦ inr (m, l) ]

  to_either : (a b : Part G text) → (a ≡ b) ⊎ IsBelow a b → (a ≡ b) ⊎ (IsBelow a b ⊎ IsBelow b a)
  to_either a b (inl e) = inl e
  to_either a b (inr h) = inr (inl h)

  from_either : (a b : Part G text) → (b ≡ a) ⊎ IsBelow b a → (a ≡ b) ⊎ (IsBelow a b ⊎ IsBelow b a)
  from_either a b (inl e) = inl (sym e)
  from_either a b (inr h) = inr (inr h)

  -- parts of one whole that begin at one place and take text are the same, or one lies in the other and has a smaller number
  pub nested : (a b whole : Part G text) → IsIn a whole → IsIn b whole → a.start ≡ b.start → a.start < a.end → b.start < b.end
      → (a ≡ b) ⊎ (IsBelow a b ⊎ IsBelow b a)
  nested a b whole (itself e) n s t u = from_either a b (below_or_same b a (subst (IsIn b) e n) (sym s) u)
  nested a b whole (deeper c m) (itself e) s t u = to_either a b (below_or_same a b (subst (IsIn a) e (deeper c m)) s t)
  nested a b whole (deeper {between = x} c m) (deeper {between = y} d n) s t u =
      let f = within a x m in let g = within b y n in
      let h = f.0 in let i = f.1 in let j = g.0 in let k = g.1 in
      let e : x ≡ y = one_over whole.start whole.end a.start (parts whole.derived) x y (order whole.derived) c d (omega arith) (omega arith) (omega arith) (omega arith) in
      nested a b x m (subst (IsIn b) (sym e) n) s t u
