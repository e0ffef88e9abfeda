-- Of the parts of a reading at most one begins where it begins and takes text, and its rule has a smaller number.
use Rattle.std.proofs.Common.{◌≡◌, ◌⊎◌, inl, inr, ℕ, ◌<◌, ◌≤◌, List, [], ◌∷◌, ◌++◌, length, Bool, true, false, ◌&&◌, ◌||◌, Option, Some, None, refl, sym, subst, ap, ◌∙◌, arith}
use Rattle.std.specs.Prelude.{cond, nat_lt, ◌==◌}
use Rattle.std.specs.List.{All, filter}
use Rattle.std.proofs.lemmas.Bool.{cases_lt, cond-false, ne_eqb, le-ltb}
use Rattle.std.proofs.lemmas.List.Elements.{All-nil, All-cons, filter-append}
use Rattle.std.proofs.Math.Bool.{and-false}
use Rattle.weedle_grammar.specs.Rows.{Row}
use Rattle.weedle_grammar.specs.Trees.{Tree, Outcome, Fails, Gives}
use Rattle.weedle_grammar.specs.Meaning.{Grammar, Shape, Piece, piece, Raw, Breaks, Yields, together, raw_of, opted, shaped, before, with_piece, given_of, last_end, ReadsBy, ReadsRow, ReadsSeq, ReadsFirst, by_row, by_bytes, by_one, by_not_next, by_run, by_past, by_seq, by_first, by_opt, many_end, many_stuck, many_more, list_none, list_more, list1_fails, list1_more, tail_end, tail_stuck, tail_back, tail_more, if_fails, if_absent, if_present, seq_end, seq_fails, seq_more, first_none, first_here, first_next}
use Rattle.weedle_grammar.specs.Nesting.{Part, part, part_unless_fails, sequence_parts, choice_parts, row_parts, parts, takes_at}
use Rattle.weedle_grammar.proofs.Leaves.{both, one_of}
use Rattle.weedle_grammar.proofs.Ranked.{some_takes, low_parts, all_low, is_low, is_ranked}
use Rattle.weedle_grammar.proofs.Exists.{grows, advances, seq_advances}
use Rattle.weedle_grammar.proofs.Lower.{by_number, below, low, next_low}
use Rattle.weedle_grammar.proofs.Nesting.Order.{InOrder, RawOrder, SeqOrder, order_le, out_order, seq_order, row_order}

module _ {G : Grammar} {text : List ℕ} where
  -- none, or one whose rule is below k
  abbrev pub IsOne : ℕ → List (Part G text) → Type 0
  IsOne k xs = (xs ≡ []) ⊎ ((a : Part G text) × (xs ≡ a ∷ []) × (a.rule < k))

  -- of those that begin at p and take text
  abbrev pub OneAt : ℕ → ℕ → List (Part G text) → Type 0
  OneAt k p xs = IsOne k (filter (takes_at p) xs)

  -- the same of what a row yields
  abbrev RawOne : ℕ → ℕ → Raw → List (Part G text) → Type 0
  RawOne k p Breaks xs = Unit {0}
  RawOne k p (Yields ts ends e) xs = OneAt k p xs

  -- of a sequence
  abbrev SeqOne : ℕ → ℕ → Option (List Piece) → List (Part G text) → Type 0
  SeqOne k p None xs = Unit {0}
  SeqOne k p (Some pieces) xs = OneAt k p xs

  -- and of a rule
  abbrev pub OutOne : ℕ → ℕ → Outcome → List (Part G text) → Type 0
  OutOne k p Fails xs = Unit {0}
  OutOne k p (Gives ts e) xs = OneAt k p xs

  -- a part that begins behind p doesn't begin there
  behind_no : (p : ℕ) (a : Part G text) → p < a.start → takes_at p a ≡ false
  behind_no p a l = ap (λ b. b && nat_lt p a.end) (ne_eqb a.start p (λ e. omega arith))

  -- a part that ends at p takes nothing there
  empty_no : (p : ℕ) (a : Part G text) → a.end ≤ p → takes_at p a ≡ false
  empty_no p a l = ap (λ b. a.start == p && b) (le-ltb p a.end l) ∙ and-false (a.start == p)

  -- what is left out isn't among them
  skipped : (p : ℕ) (a : Part G text) (xs : List (Part G text)) → takes_at p a ≡ false → filter (takes_at p) (a ∷ xs) ≡ filter (takes_at p) xs
  skipped p a xs h = cond-false (takes_at p a) (a ∷ filter (takes_at p) xs) (filter (takes_at p) xs) h

  -- parts behind p don't begin there
  none_behind : (p q e : ℕ) (xs : List (Part G text)) → p < q → InOrder q e xs → filter (takes_at p) xs ≡ []
  none_behind p q e [] l h = refl
  none_behind p q e (a ∷ xs) l h =
      let b = h.0 in let c = h.1 in
      skipped p a xs (behind_no p a (omega arith)) ∙ none_behind p a.end e xs (omega arith) h.2

  -- parts that end at p take nothing there
  none_here : (p q e : ℕ) (xs : List (Part G text)) → e ≤ p → InOrder q e xs → filter (takes_at p) xs ≡ []
  none_here p q e [] l h = refl
  none_here p q e (a ∷ xs) l h =
      let b = order_le a.end e xs h.2 in skipped p a xs (empty_no p a (omega arith)) ∙ none_here p a.end e xs l h.2

  pick : (k : ℕ) (b : Bool) (a : Part G text) (xs : List (Part G text)) → a.rule < k → xs ≡ [] → IsOne k (cond b (a ∷ xs) xs)
  pick k true a xs l h = inr (a, ap (λ ys. a ∷ ys) h, l)
  pick k false a xs l h = inl h

  -- a part before others that don't begin at p
  alone : (k p : ℕ) (a : Part G text) (xs : List (Part G text)) → a.rule < k → filter (takes_at p) xs ≡ [] → OneAt k p (a ∷ xs)
  alone k p a xs l h = pick k (takes_at p a) a (filter (takes_at p) xs) l h

  -- a part that takes nothing, before others
  skip : (k p : ℕ) (a : Part G text) (xs : List (Part G text)) → a.end ≤ p → OneAt k p xs → OneAt k p (a ∷ xs)
  skip k p a xs l h = subst (IsOne k) (sym (skipped p a xs (empty_no p a l))) h

  one_left : (k : ℕ) (xs ys : List (Part G text)) → xs ≡ [] → IsOne k ys → IsOne k (xs ++ ys)
  one_left k [] ys e h = h
  one_left k (a ∷ xs) ys e h = cc

  one_right : (k : ℕ) (xs ys : List (Part G text)) → ys ≡ [] → IsOne k xs → IsOne k (xs ++ ys)
  one_right k xs ys e (inl h) = inl (ap (λ zs. zs ++ ys) h ∙ e)
  one_right k xs ys e (inr (a, h, l)) = inr (a, ap (λ zs. zs ++ ys) h ∙ ap (λ zs. a ∷ zs) e, l)

  -- before parts that don't begin at p, or behind such parts
  append_left : (k p : ℕ) (xs ys : List (Part G text)) → filter (takes_at p) xs ≡ [] → OneAt k p ys → OneAt k p (xs ++ ys)
  append_left k p xs ys e h = subst (IsOne k) (sym (filter-append (takes_at p) xs ys)) (one_left k _ _ e h)

  append_right : (k p : ℕ) (xs ys : List (Part G text)) → filter (takes_at p) ys ≡ [] → OneAt k p xs → OneAt k p (xs ++ ys)
  append_right k p xs ys e h = subst (IsOne k) (sym (filter-append (takes_at p) xs ys)) (one_right k _ _ e h)

  -- a part that takes a byte, before what a row yields
  raw_alone : (k p : ℕ) (a : Part G text) (ts : List Tree) (w : Raw) (xs : List (Part G text)) → a.rule < k → p < a.end
      → RawOrder a.end w xs → RawOne k p (before ts w) (a ∷ xs)
  raw_alone k p a ts Breaks xs l m h = tt
  raw_alone k p a ts (Yields us ends e) xs l m h = alone k p a xs l (none_behind p a.end e xs m h)

  -- the same, where the order of all of them is known
  tail_one : (k p : ℕ) (w : Raw) (a : Part G text) (xs : List (Part G text)) → a.rule < k → p < a.end
      → RawOrder p w (a ∷ xs) → RawOne k p w (a ∷ xs)
  tail_one k p Breaks a xs l m h = tt
  tail_one k p (Yields us ends e) a xs l m h = alone k p a xs l (none_behind p a.end e xs m h.2)

  -- a part that takes none
  raw_skip : (k p : ℕ) (a : Part G text) (ts : List Tree) (w : Raw) (xs : List (Part G text)) → a.end ≤ p → RawOne k p w xs
      → RawOne k p (before ts w) (a ∷ xs)
  raw_skip k p a ts Breaks xs l h = tt
  raw_skip k p a ts (Yields us ends e) xs l h = skip k p a xs l h

  seq_alone : (k p : ℕ) (a : Part G text) (ts : List Tree) (o : Option (List Piece)) (xs : List (Part G text)) → a.rule < k → p < a.end
      → SeqOrder a.end o xs → SeqOne k p (with_piece (piece ts a.end) o) (a ∷ xs)
  seq_alone k p a ts None xs l m h = tt
  seq_alone k p a ts (Some pieces) xs l m h = alone k p a xs l (none_behind p a.end (last_end a.end pieces) xs m h)

  seq_skip : (k p : ℕ) (a : Part G text) (ts : List Tree) (o : Option (List Piece)) (xs : List (Part G text)) → a.end ≤ p → SeqOne k p o xs
      → SeqOne k p (with_piece (piece ts a.end) o) (a ∷ xs)
  seq_skip k p a ts None xs l h = tt
  seq_skip k p a ts (Some pieces) xs l h = skip k p a xs l h

  -- a rule that may fail
  out_one : {x p : ℕ} {o : Outcome} → (k q : ℕ) → x < k → (d : ReadsBy G text x p o) → OneAt k q (part_unless_fails d)
  out_one {o = Fails} k q l d = inl refl
  out_one {o = Gives ts e} k q l d = alone k q (part d) [] l refl

  opted_one : {x p : ℕ} {o : Outcome} → (k : ℕ) → x < k → (d : ReadsBy G text x p o) → RawOne k p (opted p o) (part_unless_fails d)
  opted_one {o = Fails} k l d = inl refl
  opted_one {p = p} {o = Gives ts e} k l d = alone k p (part d) [] l refl

  raw_one : (k p : ℕ) (w : Raw) (xs : List (Part G text)) → OneAt k p xs → RawOne k p w xs
  raw_one k p Breaks xs h = tt
  raw_one k p (Yields ts ends e) xs h = h

  together_one : (k p : ℕ) (o : Option (List Piece)) (xs : List (Part G text)) → SeqOne k p o xs → RawOne k p (together p o) xs
  together_one k p None xs h = tt
  together_one k p (Some pieces) xs h = h

  -- a row that has no parts
  without_parts : {row : Row} {p : ℕ} {w : Raw} → (k : ℕ) → (d : ReadsRow G text row p w) → row_parts d ≡ [] → RawOne k p w (row_parts d)
  without_parts {p = p} {w = w} k d n = raw_one k p w (row_parts d) (inl (ap (filter (takes_at p)) n))

  append_behind : (k p q : ℕ) (ts : List Tree) (w : Raw) (xs ys : List (Part G text)) → p < q → OneAt k p xs → RawOrder q w ys
      → RawOne k p (before ts w) (xs ++ ys)
  append_behind k p q ts Breaks xs ys l h m = tt
  append_behind k p q ts (Yields us ends e) xs ys l h m = append_right k p xs ys (none_behind p q e ys l m) h

  -- the alternative that fits
  choice_one : {rs : List ℕ} {i p : ℕ} {o : Outcome} → (takes : ℕ → Bool) → (k q : ℕ) → all_low by_number takes k rs ≡ true
      → (d : ReadsFirst G text rs i p o) → OneAt k q (choice_parts d)
  choice_one takes k q l (first_none e) = inl refl
  choice_one takes k q l (first_here {r = r} d e) = alone k q (part d) [] (below r k (both _ _ l).0) refl
  choice_one takes k q l (first_next d m) = choice_one takes k q (both _ _ l).1 m

  shaped_one : (k : ℕ) (row : Row) (shape : Shape) (p : ℕ) (w : Raw) (xs : List (Part G text)) → RawOne k p w xs
      → OutOne k p (shaped text row shape p w) xs
  shaped_one k row shape p Breaks xs h = tt
  shaped_one k row shape p (Yields ts ends e) xs h = h

module _ (G : Grammar) (text : List ℕ) (takes : ℕ → Bool) (ranked : (r : ℕ) → is_ranked by_number takes r (G.row r) ≡ true) where
  -- the parts of a sequence
  seq_one : {rs : List ℕ} {p : ℕ} {o : Option (List Piece)} → (k : ℕ) → low_parts by_number takes k rs ≡ true
      → (d : ReadsSeq G text rs p o) → SeqOne k p o (sequence_parts d)
  seq_one {p = p} k l (seq_end e) = subst (λ o. SeqOne {G = G} {text = text} k p o []) (sym e) (inl refl)
  seq_one {p = p} k l (seq_fails d e) = subst (λ o. SeqOne {G = G} {text = text} k p o []) (sym e) tt
  seq_one {p = p} k l (seq_more {r = r} {q = q} {rs = rs} {ts = ts} {o = o} d m e) =
      let a : p ≤ q = grows G text d in
      subst (λ o. SeqOne k p o (part d ∷ sequence_parts m)) (sym e) (elim (cases_lt p q) [
        | inl n ↦ seq_alone k p (part d) ts o (sequence_parts m) (below r k (both _ _ l).0) n (seq_order m)
        | inr n ↦ (let s : q ≡ p = omega arith in
            seq_skip k p (part d) ts o (sequence_parts m) n
            (subst (λ z. SeqOne k z o (sequence_parts m)) s (seq_one k (next_low G text takes ranked k r p q rs ts d s l) m)))
      ])

  -- an item, and what follows it
  pair_one : {x t p q : ℕ} {ts : List Tree} {o : Outcome} → (k : ℕ) → nat_lt x k && (takes x || nat_lt t k) ≡ true
      → (d : ReadsBy G text x p (Gives ts q)) → (m : ReadsBy G text t q o) → RawOne k p (before ts (raw_of o)) (part d ∷ part_unless_fails m)
  pair_one {x} {t} {p} {q} {ts} {o} k l d m =
      let a : p ≤ q = grows G text d in
      elim (cases_lt p q) [
        | inl n ↦ raw_alone k p (part d) ts (raw_of o) (part_unless_fails m) (below x k (both _ _ l).0) n (out_order m)
        | inr n ↦ elim (one_of (takes x) _ (both _ _ l).1) [
          | inl e ↦ absurd (let z : p < q = advances G text by_number takes ranked d e in omega arith)
          | inr e ↦ raw_skip k p (part d) ts (raw_of o) (part_unless_fails m) n (raw_one k p (raw_of o) (part_unless_fails m) (out_one k p (below t k e) m))
        ]
      ]

  -- the parts of a sequence, and what follows where one of them was there
  if_one : {y p : ℕ} {rs : List ℕ} {pieces : List Piece} {o : Outcome} → (k : ℕ) → low_parts by_number takes k rs ≡ true
      → some_takes by_number takes rs || nat_lt y k ≡ true → (d : ReadsSeq G text rs p (Some pieces)) → (m : ReadsBy G text y (last_end p pieces) o)
      → RawOne k p (before (given_of pieces) (raw_of o)) (sequence_parts d ++ part_unless_fails m)
  if_one {y} {p} {rs} {pieces} {o} k l b d m =
      elim (cases_lt p (last_end p pieces)) [
        | inl n ↦ append_behind k p (last_end p pieces) (given_of pieces) (raw_of o) (sequence_parts d) (part_unless_fails m) n (seq_one k l d) (out_order m)
        | inr n ↦ elim (one_of (some_takes by_number takes rs) _ b) [
          | inl e ↦ absurd (let z : p < last_end p pieces = seq_advances G text by_number takes ranked d e in omega arith)
          | inr e ↦ raw_one k p (before (given_of pieces) (raw_of o)) (sequence_parts d ++ part_unless_fails m)
              (append_left k p (sequence_parts d) (part_unless_fails m) (none_here p p (last_end p pieces) (sequence_parts d) n (seq_order d)) (out_one k p (below y k e) m))
        ]
      ]

  -- the parts of what a row yields
  row_one : {row : Row} {p : ℕ} {w : Raw} → (k : ℕ) → is_low by_number takes k row ≡ true → (d : ReadsRow G text row p w) → RawOne k p w (row_parts d)
  row_one k l (by_bytes e) = without_parts k (by_bytes e) refl
  row_one k l (by_one e) = without_parts k (by_one e) refl
  row_one k l (by_not_next e) = without_parts k (by_not_next e) refl
  row_one k l (by_run e) = without_parts k (by_run e) refl
  row_one k l (by_past e) = without_parts k (by_past e) refl
  row_one {p = p} k l (by_seq {o = o} d e) =
      subst (λ w. RawOne k p w (sequence_parts d)) (sym e) (together_one k p o (sequence_parts d) (seq_one k l d))
  row_one {p = p} {w = w} k l (by_first d e) = raw_one k p w (choice_parts d) (choice_one takes k p l d)
  row_one {p = p} k l (by_opt {x = x} d e) = subst (λ w. RawOne k p w (part_unless_fails d)) (sym e) (opted_one k (below x k l) d)
  row_one k l (many_end d e) = without_parts k (many_end d e) refl
  row_one k l (many_stuck d h e) = without_parts k (many_stuck d h e) refl
  row_one {p = p} k l (many_more {x = x} {q = q} {ts = ts} {w = w} d n m e) =
      let a : p ≤ q = grows G text d in
      subst (λ w. RawOne k p w (part d ∷ row_parts m)) (sym e) (raw_alone k p (part d) ts w (row_parts m) (below x k l) (omega arith) (row_order m))
  row_one k l (list_none {t = t} d e) = without_parts k (list_none {t = t} d e) refl
  row_one {p = p} k l (list_more d m e) = subst (λ w. RawOne k p w (part d ∷ part_unless_fails m)) (sym e) (pair_one k l d m)
  row_one k l (list1_fails {t = t} d e) = without_parts k (list1_fails {t = t} d e) refl
  row_one {p = p} k l (list1_more d m e) = subst (λ w. RawOne k p w (part d ∷ part_unless_fails m)) (sym e) (pair_one k l d m)
  row_one k l (tail_end {x = x} d e) = without_parts k (tail_end {x = x} d e) refl
  row_one k l (tail_stuck {x = x} d h e) = without_parts k (tail_stuck {x = x} d h e) refl
  row_one k l (tail_back d n m e) = without_parts k (tail_back d n m e) refl
  row_one {p = p} {w = w} k l (tail_more {s = s} {q = q} d n m t e) =
      let a : p ≤ q = grows G text d in tail_one k p w (part d) (part m ∷ row_parts t) (below s k l) (omega arith) (row_order (tail_more d n m t e))
  row_one k l (if_fails {k = i} {y = y} d e) = without_parts k (if_fails {k = i} {y = y} d e) refl
  row_one {p = p} k l (if_absent d g e) = subst (λ w. RawOne k p w (sequence_parts d)) (sym e) (seq_one k (both _ _ l).0 d)
  row_one {p = p} k l (if_present d g m e) =
      subst (λ w. RawOne k p w (sequence_parts d ++ part_unless_fails m)) (sym e) (if_one k (both _ _ l).0 (both _ _ l).1 d m)

  -- of what a rule gives
  pub one : {r p : ℕ} {o : Outcome} → (d : ReadsBy G text r p o) → OutOne r p o (parts d)
  one {r} {p} (by_row {w = w} d e) =
      subst (λ o. OutOne r p o (row_parts d)) (sym e) (shaped_one r (G.row r) (G.shape r) p w (row_parts d) (row_one r (low G text takes ranked r) d))

module _ {G : Grammar} {text : List ℕ} where
  -- one at most, and it is low
  pub few_low : (r : ℕ) (xs : List (Part G text)) → IsOne r xs → (length xs ≤ 1) × All (λ part. part.rule < r) xs
  few_low r xs (inl e) = subst (λ xs. (length xs ≤ 1) × All (λ part. part.rule < r) xs) (sym e) (omega arith, All-nil (λ part. part.rule < r))
  few_low r xs (inr (a, e, l)) =
      subst (λ xs. (length xs ≤ 1) × All (λ part. part.rule < r) xs) (sym e) (omega arith, All-cons (λ part. part.rule < r) a [] l (All-nil (λ part. part.rule < r)))
