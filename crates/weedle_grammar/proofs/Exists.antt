-- Each rule of a ranked grammar has an outcome at each place.
use Rattle.std.proofs.Common.{◌≡◌, ◌≢◌, ◌⊎◌, inl, inr, ℕ, zero, suc, ◌+◌, ◌<◌, ◌≤◌, List, [], ◌∷◌, length, drop, Bool, true, false, Option, Some, None, refl, sym, subst, arith, length-drop}
use Rattle.std.specs.Prelude.{◌||◌, not}
use Rattle.weedle_grammar.specs.Rows.{Row, Bytes, OneOf, NotNext, Run, Past, Seq, First, Opt, Many, ListOf, List1, Tail, If}
use Rattle.weedle_grammar.specs.Trees.{Tree, Outcome, Fails, Gives}
use Rattle.weedle_grammar.specs.Meaning.{Grammar, Piece, piece, Raw, Breaks, Yields, ReadsBy, ReadsRow, ReadsSeq, ReadsFirst, by_row, by_bytes, by_one, by_not_next, by_run, by_past, by_seq, by_first, by_opt, many_end, many_stuck, many_more, list_none, list_more, list1_fails, list1_more, tail_end, tail_stuck, tail_back, tail_more, if_fails, if_absent, if_present, seq_end, seq_fails, seq_more, first_none, first_here, first_next, raw_of, before, with_piece, gave_some, given_of, last_end}
use Rattle.std.proofs.lemmas.Bool.{cases_lt, cases_eq}
use Rattle.std.specs.Prelude.{nat_lt}
use borrow.Author.Tests.{ltb-true}
use Rattle.weedle_grammar.proofs.Inversion.{at_row}
use Rattle.weedle_grammar.proofs.Moves.{Step, OutLands, RawLands, SeqLands, shaped_lands, leaf_lands, together_lands, raw_lands, moves, seq_moves, taken}
use Rattle.weedle_grammar.proofs.Leaves.{both, one_of, taken_le, bytes_takes, take_one_takes, take_past_takes}
use Rattle.weedle_grammar.proofs.Ranked.{some_takes, each_takes, low_parts, all_low, is_low, row_takes, is_ranked}

-- no smaller
abbrev pub le : Step
le p q = p ≤ q

-- greater
abbrev pub lt : Step
lt p q = p < q

-- within n where the first is
abbrev pub inside : ℕ → Step
inside n p q = p ≤ n → q ≤ n

-- what a row yields behind a part
pub follow : (S Q T : Step) (p q : ℕ) (ts : List Tree) (w : Raw) → ((e : ℕ) → Q q e → T p e) → RawLands Q q w → RawLands T p (before ts w)
follow S Q T p q ts Breaks f h = tt
follow S Q T p q ts (Yields us ends e) f h = f e h

-- the pieces behind a part
pub seq_follow : (Q T : Step) (p q : ℕ) (ts : List Tree) (o : Option (List Piece)) → ((e : ℕ) → Q q e → T p e) → SeqLands Q q o
    → SeqLands T p (with_piece (piece ts q) o)
seq_follow Q T p q ts None f h = tt
seq_follow Q T p q ts (Some pieces) f h = f (last_end q pieces) h

module _ (G : Grammar) (text : List ℕ) where
  abbrev every : (r : ℕ) → Unit {0}
  every r = tt

  le_leaf : (row : Row) (p k : ℕ) → Unit {0} → taken row (drop p text) ≡ Some k → p ≤ p + k
  le_leaf row p k u h = omega arith

  inside_leaf : (row : Row) (p k : ℕ) → Unit {0} → taken row (drop p text) ≡ Some k → p ≤ length text → p + k ≤ length text
  inside_leaf row p k u h l = let a = taken_le row (drop p text) k h in omega (arith, length-drop p text)

  -- an end is no smaller than the place
  pub grows : {r p : ℕ} {o : Outcome} → ReadsBy G text r p o → OutLands le p o
  grows = moves le (λ p. omega arith) (λ p q e h k. omega arith) G text (λ row. Unit {0}) (λ r. tt) le_leaf

  -- the same of sequences
  pub seq_grows : {rs : List ℕ} {p : ℕ} {o : Option (List Piece)} → ReadsSeq G text rs p o → SeqLands le p o
  seq_grows = seq_moves le (λ p. omega arith) (λ p q e h k. omega arith) G text (λ row. Unit {0}) (λ r. tt) le_leaf

  -- from within the text an end is within the text
  pub stays_inside : {r p : ℕ} {o : Outcome} → ReadsBy G text r p o → OutLands (inside (length text)) p o
  stays_inside = moves (inside (length text)) (λ p h. h) (λ p q e h k l. k (h l)) G text (λ row. Unit {0}) (λ r. tt) inside_leaf

  -- the same of sequences
  pub seq_stays_inside : {rs : List ℕ} {p : ℕ} {o : Option (List Piece)} → ReadsSeq G text rs p o → SeqLands (inside (length text)) p o
  seq_stays_inside = seq_moves (inside (length text)) (λ p h. h) (λ p q e h k l. k (h l)) G text (λ row. Unit {0}) (λ r. tt) inside_leaf

  module _ (rank : ℕ → ℕ) (takes : ℕ → Bool) (ranked : (r : ℕ) → is_ranked rank takes r (G.row r) ≡ true) where
    implied : (a b : Bool) → not a || b ≡ true → a ≡ true → b ≡ true
    implied true b h e = h
    implied false b h e = cc

    its_row_takes : (r : ℕ) → takes r ≡ true → row_takes rank takes (G.row r) ≡ true
    its_row_takes r = implied (takes r) _ (both _ _ (ranked r)).1

    mutual
      -- what takes a byte ends behind its place
      pub advances : {r p : ℕ} {o : Outcome} → ReadsBy G text r p o → takes r ≡ true → OutLands lt p o
      advances {r} {p} (by_row {w = w} d e) h =
          subst (OutLands lt p) (sym e) (shaped_lands lt text (G.row r) (G.shape r) p w (row_advances d (its_row_takes r h)))

      -- the same of rows
      pub row_advances : {row : Row} {p : ℕ} {w : Raw} → ReadsRow G text row p w → row_takes rank takes row ≡ true → RawLands lt p w
      row_advances {p = p} (by_bytes {b = b} e) h =
          subst (RawLands lt p) (sym e) (leaf_lands lt p _ (λ k g. let l = bytes_takes rank takes b (drop p text) k h g in omega arith))
      row_advances {p = p} (by_one {c = c} e) h =
          subst (RawLands lt p) (sym e) (leaf_lands lt p _ (λ k g. let l = take_one_takes c (drop p text) k g in omega arith))
      row_advances (by_not_next e) h = cc
      row_advances (by_run e) h = cc
      row_advances {p = p} (by_past {b = b} e) h =
          subst (RawLands lt p) (sym e) (leaf_lands lt p _ (λ k g. let l = take_past_takes rank takes b (drop p text) k h g in omega arith))
      row_advances {p = p} (by_seq {o = o} d e) h = subst (RawLands lt p) (sym e) (together_lands lt p o (seq_advances d h))
      row_advances {p = p} (by_first {o = o} d e) h = subst (RawLands lt p) (sym e) (raw_lands lt p o (first_advances d h))
      row_advances (by_opt d e) h = cc
      row_advances (many_end d e) h = cc
      row_advances (many_stuck d s e) h = cc
      row_advances (many_more d n m e) h = cc
      row_advances (list_none d e) h = cc
      row_advances (list_more d m e) h = cc
      row_advances {p = p} (list1_fails d e) h = subst (RawLands lt p) (sym e) tt
      row_advances {p = p} (list1_more {x = x} {t = t} {q = q} {ts = ts} {o = o} d m e) h =
          let a = grows d in
          subst (RawLands lt p) (sym e) (elim (one_of (takes x) (takes t) h) [
            | inl w ↦ (let b : p < q = advances d w in follow lt le lt p q ts (raw_of o) (λ e k. omega arith) (raw_lands le q o (grows m)))
            | inr w ↦ follow lt lt lt p q ts (raw_of o) (λ e k. omega arith) (raw_lands lt q o (advances m w))
          ])
      row_advances (tail_end d e) h = cc
      row_advances (tail_stuck d s e) h = cc
      row_advances (tail_back d n m e) h = cc
      row_advances (tail_more d n m t e) h = cc
      row_advances {p = p} (if_fails d e) h = subst (RawLands lt p) (sym e) tt
      row_advances {p = p} (if_absent d g e) h = subst (RawLands lt p) (sym e) (seq_advances d h)
      row_advances {p = p} (if_present {o = o} {pieces = pieces} d g m e) h =
          let a = seq_advances d h in
          subst (RawLands lt p) (sym e) (follow lt le lt p (last_end p pieces) (given_of pieces) (raw_of o) (λ e k. omega (arith, a, k)) (raw_lands le _ o (grows m)))

      -- of sequences
      pub seq_advances : {rs : List ℕ} {p : ℕ} {o : Option (List Piece)} → ReadsSeq G text rs p o
          → some_takes rank takes rs ≡ true → SeqLands lt p o
      seq_advances (seq_end e) h = cc
      seq_advances {p = p} (seq_fails d e) h = subst (SeqLands lt p) (sym e) tt
      seq_advances {p = p} (seq_more {r = r} {q = q} {rs = rs} {ts = ts} {o = o} d m e) h =
          let a = grows d in
          subst (SeqLands lt p) (sym e) (elim (one_of (takes r) (some_takes rank takes rs) h) [
            | inl w ↦ (let b : p < q = advances d w in seq_follow le lt p q ts o (λ e k. omega arith) (seq_grows m))
            | inr w ↦ seq_follow lt lt p q ts o (λ e k. omega arith) (seq_advances m w)
          ])

      -- and of choices
      pub first_advances : {rs : List ℕ} {i p : ℕ} {o : Outcome} → ReadsFirst G text rs i p o → each_takes rank takes rs ≡ true
          → OutLands lt p o
      first_advances {p = p} (first_none e) h = subst (OutLands lt p) (sym e) tt
      first_advances {p = p} (first_here {r = r} d e) h = subst (OutLands lt p) (sym e) (advances d (both (takes r) _ h).0)
      first_advances (first_next {r = r} d m) h = first_advances m (both (takes r) _ h).1

  abbrev Has : ℕ → ℕ → Type 0
  Has r p = (o : Outcome) × ReadsBy G text r p o

  abbrev RowHas : Row → ℕ → Type 0
  RowHas row p = (w : Raw) × ReadsRow G text row p w

  abbrev SeqHas : List ℕ → ℕ → Type 0
  SeqHas rs p = (o : Option (List Piece)) × ReadsSeq G text rs p o

  seq_from : (x : ℕ) (xs : List ℕ) (q : ℕ) → Has x q
      → ((ts : List Tree) (e : ℕ) → ReadsBy G text x q (Gives ts e) → SeqHas xs e) → SeqHas (x ∷ xs) q
  seq_from x xs q (Fails, d) f = (_, seq_fails d refl)
  seq_from x xs q (Gives ts e, d) f = let m = f ts e d in (_, seq_more d m.1 refl)

  first_from : (x : ℕ) (xs : List ℕ) (i q : ℕ) → Has x q → ((o : Outcome) × ReadsFirst G text xs (suc i) q o)
      → (o : Outcome) × ReadsFirst G text (x ∷ xs) i q o
  first_from x xs i q (Fails, d) f = (_, first_next d f.1)
  first_from x xs i q (Gives ts e, d) f = (_, first_here d refl)

  many_from : (x q : ℕ) → Has x q → ((ts : List Tree) (e : ℕ) → ReadsBy G text x q (Gives ts e) → e ≢ q → RowHas (Many x) e)
      → RowHas (Many x) q
  many_from x q (Fails, d) f = (_, many_end d refl)
  many_from x q (Gives ts e, d) f =
      elim (cases_eq e q) [ inl h ↦ (_, many_stuck d h refl) | inr n ↦ (let m = f ts e d n in (_, many_more d n m.1 refl)) ]

  list_from : (x t q : ℕ) → Has x q → ((ts : List Tree) (e : ℕ) → ReadsBy G text x q (Gives ts e) → Has t e) → RowHas (ListOf x t) q
  list_from x t q (Fails, d) f = (_, list_none d refl)
  list_from x t q (Gives ts e, d) f = let m = f ts e d in (_, list_more d m.1 refl)

  list1_from : (x t q : ℕ) → Has x q → ((ts : List Tree) (e : ℕ) → ReadsBy G text x q (Gives ts e) → Has t e) → RowHas (List1 x t) q
  list1_from x t q (Fails, d) f = (_, list1_fails d refl)
  list1_from x t q (Gives ts e, d) f = let m = f ts e d in (_, list1_more d m.1 refl)

  tail_item : (x s q e : ℕ) (ts : List Tree) → ReadsBy G text s q (Gives ts e) → e ≢ q → Has x e
      → ((us : List Tree) (z : ℕ) → ReadsBy G text x e (Gives us z) → RowHas (Tail x s) z) → RowHas (Tail x s) q
  tail_item x s q e ts d n (Fails, m) f = (_, tail_back d n m refl)
  tail_item x s q e ts d n (Gives us z, m) f = let t = f us z m in (_, tail_more d n m t.1 refl)

  tail_from : (x s q : ℕ) → Has s q → ((ts : List Tree) (e : ℕ) → ReadsBy G text s q (Gives ts e) → e ≢ q → RowHas (Tail x s) q)
      → RowHas (Tail x s) q
  tail_from x s q (Fails, d) f = (_, tail_end d refl)
  tail_from x s q (Gives ts e, d) f = elim (cases_eq e q) [ inl h ↦ (_, tail_stuck d h refl) | inr n ↦ f ts e d n ]

  if_pieces : (parts : List ℕ) (k y q : ℕ) (pieces : List Piece) → ReadsSeq G text parts q (Some pieces) → (b : Bool)
      → gave_some k pieces ≡ b → Has y (last_end q pieces) → RowHas (If parts k y) q
  if_pieces parts k y q pieces d true g m = (_, if_present d g m.1 refl)
  if_pieces parts k y q pieces d false g m = (_, if_absent d g refl)

  if_from : (parts : List ℕ) (k y q : ℕ) → SeqHas parts q
      → ((pieces : List Piece) → ReadsSeq G text parts q (Some pieces) → Has y (last_end q pieces)) → RowHas (If parts k y) q
  if_from parts k y q (None, d) f = (_, if_fails d refl)
  if_from parts k y q (Some pieces, d) f = if_pieces parts k y q pieces d (gave_some k pieces) refl (f pieces d)

  module _ (rank : ℕ → ℕ) (takes : ℕ → Bool) (ranked : (r : ℕ) → is_ranked rank takes r (G.row r) ≡ true) where
    below : (a b : ℕ) → nat_lt a b ≡ true → a < b
    below a b h = omega (arith, ltb-true)

    -- one step: rules of a smaller rank have outcomes at p, and all rules behind p
    module _ (p k : ℕ) (fits : p ≤ length text) (here : (x : ℕ) → rank x < k → Has x p) (later : (x q : ℕ) → p < q → q ≤ length text → Has x q) where
      -- behind p, or at p where a condition holds
      abbrev Due : Type 0 → ℕ → Type 0
      Due C q = ((q ≡ p) × C) ⊎ ((p < q) × (q ≤ length text))

      -- behind a part at p that ends at q
      due : (C : Type 0) (x q : ℕ) (ts : List Tree) → ReadsBy G text x p (Gives ts q) → (takes x ≡ true) ⊎ C → Due C q
      due C x q ts d c =
          let a : p ≤ q = grows d in
          let b : q ≤ length text = stays_inside d fits in
          elim (cases_lt p q) [ inl l ↦ inr (l, b) | inr l ↦ elim c [ inl e ↦ absurd (let f : p < q = advances rank takes ranked d e in omega arith) | inr h ↦ inl (omega arith, h) ] ]

      reach : (x q : ℕ) → Due (nat_lt (rank x) k ≡ true) q → Has x q
      reach x q (inl h) = subst (Has x) (sym h.0) (here x (below _ _ h.1))
      reach x q (inr h) = later x q h.0 h.1

      next_due : (x : ℕ) (xs : List ℕ) (q e : ℕ) (ts : List Tree) → ReadsBy G text x q (Gives ts e)
          → Due (low_parts rank takes k (x ∷ xs) ≡ true) q → Due (low_parts rank takes k xs ≡ true) e
      next_due x xs q e ts d (inl h) = due _ x e ts (subst (λ z. ReadsBy G text x z (Gives ts e)) h.0 d) (one_of _ _ (both _ _ h.1).1)
      next_due x xs q e ts d (inr h) = let a : q ≤ e = grows d in let b : e ≤ length text = stays_inside d h.1 in inr (omega arith, b)

      first_due : (x : ℕ) (xs : List ℕ) (q : ℕ) → Due (low_parts rank takes k (x ∷ xs) ≡ true) q → Due (nat_lt (rank x) k ≡ true) q
      first_due x xs q (inl h) = inl (h.0, (both _ _ h.1).0)
      first_due x xs q (inr h) = inr h

      seq_has : (xs : List ℕ) (q : ℕ) → Due (low_parts rank takes k xs ≡ true) q → SeqHas xs q
      seq_has [] q h = (_, seq_end refl)
      seq_has (x ∷ xs) q h = seq_from x xs q (reach x q (first_due x xs q h)) (λ ts e d. seq_has xs e (next_due x xs q e ts d h))

      first_has : (xs : List ℕ) (i : ℕ) → all_low rank takes k xs ≡ true → (o : Outcome) × ReadsFirst G text xs i p o
      first_has [] i h = (_, first_none refl)
      first_has (x ∷ xs) i h = first_from x xs i p (here x (below _ _ (both _ _ h).0)) (first_has xs (suc i) (both _ _ h).1)

      row_again : (r q : ℕ) (row : Row) → G.row r ≡ row → p < q → q ≤ length text → RowHas row q
      row_again r q row e l b = let h = later r q l b in let a = at_row e h.1 in (a.0, a.1)

      if_due : (xs : List ℕ) (y : ℕ) (pieces : List Piece) → some_takes rank takes xs || nat_lt (rank y) k ≡ true
          → ReadsSeq G text xs p (Some pieces) → Due (nat_lt (rank y) k ≡ true) (last_end p pieces)
      if_due xs y pieces h d =
          let a : p ≤ last_end p pieces = seq_grows d in
          let b : last_end p pieces ≤ length text = seq_stays_inside d fits in
          elim (cases_lt p (last_end p pieces)) [ inl l ↦ inr (l, b) | inr l ↦ elim (one_of _ _ h) [ inl e ↦ absurd (let f : p < last_end p pieces = seq_advances rank takes ranked d e in omega arith) | inr c ↦ inl (omega arith, c) ] ]

      row_has : (r : ℕ) (row : Row) → G.row r ≡ row → is_low rank takes k row ≡ true → RowHas row p
      row_has r (Bytes b) e h = (_, by_bytes refl)
      row_has r (OneOf c) e h = (_, by_one refl)
      row_has r (NotNext c) e h = (_, by_not_next refl)
      row_has r (Run c) e h = (_, by_run refl)
      row_has r (Past b) e h = (_, by_past refl)
      row_has r (Seq parts) e h = let s = seq_has parts p (inl (refl, h)) in (_, by_seq s.1 refl)
      row_has r (First parts) e h = let s = first_has parts 0 h in (_, by_first s.1 refl)
      row_has r (Opt x) e h = let s = here x (below _ _ h) in (_, by_opt s.1 refl)
      row_has r (Many x) e h = many_from x p (here x (below _ _ h)) (λ ts q d n. let a : p ≤ q = grows d in row_again r q (Many x) e (omega arith) (stays_inside d fits))
      row_has r (ListOf x t) e h =
          list_from x t p (here x (below _ _ (both _ _ h).0)) (λ ts q d. reach t q (due _ x q ts d (one_of _ _ (both _ _ h).1)))
      row_has r (List1 x t) e h =
          list1_from x t p (here x (below _ _ (both _ _ h).0)) (λ ts q d. reach t q (due _ x q ts d (one_of _ _ (both _ _ h).1)))
      row_has r (Tail x s) e h = tail_from x s p (here s (below _ _ h)) (λ ts q d n.
          let a : p ≤ q = grows d in let b : q ≤ length text = stays_inside d fits in let l : p < q = omega arith in
          tail_item x s p q ts d n (later x q l b) (λ us z m. let c : q ≤ z = grows m in row_again r z (Tail x s) e (omega arith) (stays_inside m b)))
      row_has r (If parts i y) e h = if_from parts i y p (seq_has parts p (inl (refl, (both _ _ h).0))) (λ pieces d. reach y (last_end p pieces) (if_due parts y pieces (both _ _ h).1 d))

      has_step : (r : ℕ) → rank r ≡ k → Has r p
      has_step r e =
          let w = row_has r (G.row r) refl (subst (λ z. is_low rank takes z (G.row r) ≡ true) e (both _ _ (ranked r)).0) in
          (_, by_row w.1 refl)

    by_rank : (p : ℕ) → p ≤ length text → ((x q : ℕ) → p < q → q ≤ length text → Has x q) → (k r : ℕ) → rank r < k → Has r p
    by_rank p fits later zero r h = absurd (omega arith)
    by_rank p fits later (suc k) r h = has_step p (rank r) fits (λ x l. by_rank p fits later k x (omega arith)) later r refl

    by_left : (m r p : ℕ) → p ≤ length text → length text < p + m → Has r p
    by_left zero r p fits h = absurd (omega arith)
    by_left (suc m) r p fits h = by_rank p fits (λ x q l b. by_left m x q b (omega arith)) (suc (rank r)) r (omega arith)

    -- each rule has an outcome at each place
    pub has_outcome : (r p : ℕ) → p ≤ length text → (o : Outcome) × ReadsBy G text r p o
    has_outcome r p fits = by_left (suc (length text)) r p fits (omega arith)
