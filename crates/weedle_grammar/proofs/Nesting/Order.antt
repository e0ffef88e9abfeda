-- The parts of a reading follow one another.
use Rattle.std.proofs.Common.{refl, ◌≡◌, ℕ, ◌≤◌, List, [], ◌∷◌, ◌++◌, Option, Some, None, sym, subst, arith}
use Rattle.weedle_grammar.specs.Rows.{Row}
use Rattle.weedle_grammar.specs.Trees.{Tree, Outcome, Fails, Gives}
use Rattle.weedle_grammar.specs.Meaning.{Grammar, Shape, Piece, piece, Raw, Breaks, Yields, together, raw_of, opted, shaped, before, with_piece, given_of, last_end, ReadsBy, ReadsRow, ReadsSeq, ReadsFirst, by_row, by_bytes, by_one, by_not_next, by_run, by_past, by_seq, by_first, by_opt, many_end, many_stuck, many_more, list_none, list_more, list1_fails, list1_more, tail_end, tail_stuck, tail_back, tail_more, if_fails, if_absent, if_present, seq_end, seq_fails, seq_more, first_none, first_here, first_next}
use Rattle.weedle_grammar.specs.Nesting.{Part, part, part_unless_fails, sequence_parts, choice_parts, row_parts, parts}
use Rattle.weedle_grammar.proofs.Moves.{RawLands}
use Rattle.weedle_grammar.proofs.Exists.{le, grows}
use Rattle.weedle_grammar.proofs.Size.Empty.{row_grows}

module _ {G : Grammar} {text : List ℕ} where
  -- the parts follow one another between two places
  abbrev pub InOrder : ℕ → ℕ → List (Part G text) → Type 0
  InOrder p e [] = p ≤ e
  InOrder p e (a ∷ xs) = (p ≤ a.start) × (a.start ≤ a.end) × InOrder a.end e xs

  -- up to the end of what a row yields
  abbrev pub RawOrder : ℕ → Raw → List (Part G text) → Type 0
  RawOrder p Breaks xs = Unit {0}
  RawOrder p (Yields ts ends e) xs = InOrder p e xs

  -- up to the end of a sequence
  abbrev pub SeqOrder : ℕ → Option (List Piece) → List (Part G text) → Type 0
  SeqOrder p None xs = Unit {0}
  SeqOrder p (Some pieces) xs = InOrder p (last_end p pieces) xs

  -- up to the end of a rule
  abbrev pub OutOrder : ℕ → Outcome → List (Part G text) → Type 0
  OutOrder p Fails xs = Unit {0}
  OutOrder p (Gives ts e) xs = InOrder p e xs

  -- a part doesn't end before it begins
  pub part_grows : (a : Part G text) → a.start ≤ a.end
  part_grows a = grows G text a.derived

  -- parts between two places lie between them
  pub order_le : (p e : ℕ) (xs : List (Part G text)) → InOrder p e xs → p ≤ e
  order_le p e [] h = h
  order_le p e (a ∷ xs) h = let b = order_le a.end e xs h.2 in let c = h.0 in let d = h.1 in omega arith

  -- parts and those behind them
  pub order_append : (p q e : ℕ) (xs ys : List (Part G text)) → InOrder p q xs → InOrder q e ys → InOrder p e (xs ++ ys)
  order_append p q e [] [] h k = omega arith
  order_append p q e [] (b ∷ ys) h k = let c = k.0 in (omega arith, k.1, k.2)
  order_append p q e (a ∷ xs) ys h k = (h.0, h.1, order_append a.end q e xs ys h.2 k)

  behind : (p : ℕ) (a : Part G text) (ts : List Tree) (w : Raw) (xs : List (Part G text)) → p ≤ a.start → RawOrder a.end w xs
      → RawOrder p (before ts w) (a ∷ xs)
  behind p a ts Breaks xs l h = tt
  behind p a ts (Yields us ends e) xs l h = (l, part_grows a, h)

  separated : (p : ℕ) (a : Part G text) (ts : List Tree) (w : Raw) (xs : List (Part G text)) → p ≤ a.start
      → RawOrder a.end (before ts w) xs → RawOrder p (before ts w) (a ∷ xs)
  separated p a ts Breaks xs l h = tt
  separated p a ts (Yields us ends e) xs l h = (l, part_grows a, h)

  seq_behind : (p : ℕ) (a : Part G text) (ts : List Tree) (o : Option (List Piece)) (xs : List (Part G text)) → p ≤ a.start
      → SeqOrder a.end o xs → SeqOrder p (with_piece (piece ts a.end) o) (a ∷ xs)
  seq_behind p a ts None xs l h = tt
  seq_behind p a ts (Some pieces) xs l h = (l, part_grows a, h)

  lands_order : (p : ℕ) (w : Raw) (xs : List (Part G text)) → xs ≡ [] → RawLands le p w → RawOrder p w xs
  lands_order p Breaks xs n h = tt
  lands_order p (Yields ts ends e) [] n h = h
  lands_order p (Yields ts ends e) (a ∷ xs) n h = cc

  -- a row that has no parts
  without_parts : {row : Row} {p : ℕ} {w : Raw} → (d : ReadsRow G text row p w) → row_parts d ≡ [] → RawOrder p w (row_parts d)
  without_parts {p = p} {w = w} d n = lands_order p w (row_parts d) n (row_grows G text d)

  together_order : (p : ℕ) (o : Option (List Piece)) (xs : List (Part G text)) → SeqOrder p o xs → RawOrder p (together p o) xs
  together_order p None xs h = tt
  together_order p (Some pieces) xs h = h

  raw_order : (p : ℕ) (o : Outcome) (xs : List (Part G text)) → OutOrder p o xs → RawOrder p (raw_of o) xs
  raw_order p Fails xs h = tt
  raw_order p (Gives ts e) xs h = h

  -- what a rule gives that may fail
  pub out_order : {r p : ℕ} {o : Outcome} → (d : ReadsBy G text r p o) → RawOrder p (raw_of o) (part_unless_fails d)
  out_order {o = Fails} d = tt
  out_order {p = p} {o = Gives ts e} d = let a : p ≤ e = grows G text d in (omega arith, a, omega arith)

  opted_order : {r p : ℕ} {o : Outcome} → (d : ReadsBy G text r p o) → RawOrder p (opted p o) (part_unless_fails d)
  opted_order {o = Fails} d = omega arith
  opted_order {p = p} {o = Gives ts e} d = let a : p ≤ e = grows G text d in (omega arith, a, omega arith)

  append_order : (p q : ℕ) (ts : List Tree) (w : Raw) (xs ys : List (Part G text)) → InOrder p q xs → RawOrder q w ys
      → RawOrder p (before ts w) (xs ++ ys)
  append_order p q ts Breaks xs ys h k = tt
  append_order p q ts (Yields us ends e) xs ys h k = order_append p q e xs ys h k

  -- the parts of a sequence
  pub seq_order : {rs : List ℕ} {p : ℕ} {o : Option (List Piece)} → (d : ReadsSeq G text rs p o) → SeqOrder p o (sequence_parts d)
  seq_order {p = p} (seq_end e) = subst (λ o. SeqOrder p o []) (sym e) (omega arith)
  seq_order {p = p} (seq_fails d e) = subst (λ o. SeqOrder p o []) (sym e) tt
  seq_order {p = p} (seq_more {ts = ts} {o = o} d m e) =
      subst (λ o. SeqOrder p o (part d ∷ sequence_parts m)) (sym e) (seq_behind p (part d) ts o (sequence_parts m) (omega arith) (seq_order m))

  -- the alternative that fits
  pub choice_order : {rs : List ℕ} {i p : ℕ} {o : Outcome} → (d : ReadsFirst G text rs i p o) → OutOrder p o (choice_parts d)
  choice_order {p = p} (first_none e) = subst (λ o. OutOrder p o []) (sym e) tt
  choice_order {p = p} (first_here d e) = subst (λ o. OutOrder p o (part d ∷ [])) (sym e) (omega arith, grows G text d, omega arith)
  choice_order (first_next d m) = choice_order m

  -- the parts of what a row yields
  pub row_order : {row : Row} {p : ℕ} {w : Raw} → (d : ReadsRow G text row p w) → RawOrder p w (row_parts d)
  row_order (by_bytes e) = without_parts (by_bytes e) refl
  row_order (by_one e) = without_parts (by_one e) refl
  row_order (by_not_next e) = without_parts (by_not_next e) refl
  row_order (by_run e) = without_parts (by_run e) refl
  row_order (by_past e) = without_parts (by_past e) refl
  row_order {p = p} (by_seq {o = o} d e) = subst (λ w. RawOrder p w (sequence_parts d)) (sym e) (together_order p o (sequence_parts d) (seq_order d))
  row_order {p = p} (by_first {o = o} d e) = subst (λ w. RawOrder p w (choice_parts d)) (sym e) (raw_order p o (choice_parts d) (choice_order d))
  row_order {p = p} (by_opt d e) = subst (λ w. RawOrder p w (part_unless_fails d)) (sym e) (opted_order d)
  row_order (many_end d e) = without_parts (many_end d e) refl
  row_order (many_stuck d s e) = without_parts (many_stuck d s e) refl
  row_order {p = p} (many_more {ts = ts} {w = w} d n m e) =
      subst (λ w. RawOrder p w (part d ∷ row_parts m)) (sym e) (behind p (part d) ts w (row_parts m) (omega arith) (row_order m))
  row_order (list_none {t = t} d e) = without_parts (list_none {t = t} d e) refl
  row_order {p = p} (list_more {ts = ts} {o = o} d m e) =
      subst (λ w. RawOrder p w (part d ∷ part_unless_fails m)) (sym e) (behind p (part d) ts (raw_of o) (part_unless_fails m) (omega arith) (out_order m))
  row_order (list1_fails {t = t} d e) = without_parts (list1_fails {t = t} d e) refl
  row_order {p = p} (list1_more {ts = ts} {o = o} d m e) =
      subst (λ w. RawOrder p w (part d ∷ part_unless_fails m)) (sym e) (behind p (part d) ts (raw_of o) (part_unless_fails m) (omega arith) (out_order m))
  row_order (tail_end {x = x} d e) = without_parts (tail_end {x = x} d e) refl
  row_order (tail_stuck {x = x} d h e) = without_parts (tail_stuck {x = x} d h e) refl
  row_order (tail_back d n m e) = without_parts (tail_back d n m e) refl
  row_order {p = p} (tail_more {q = q} {us = us} {w = w} d n m t e) =
      let inner = behind q (part m) us w (row_parts t) (omega arith) (row_order t) in
      subst (λ w. RawOrder p w (part d ∷ part m ∷ row_parts t)) (sym e) (separated p (part d) us w (part m ∷ row_parts t) (omega arith) inner)
  row_order (if_fails {k = k} {y = y} d e) = without_parts (if_fails {k = k} {y = y} d e) refl
  row_order {p = p} (if_absent d g e) = subst (λ w. RawOrder p w (sequence_parts d)) (sym e) (seq_order d)
  row_order {p = p} (if_present {o = o} {pieces = pieces} d g m e) =
      subst (λ w. RawOrder p w (sequence_parts d ++ part_unless_fails m)) (sym e) (append_order p (last_end p pieces) (given_of pieces) (raw_of o) (sequence_parts d) (part_unless_fails m) (seq_order d) (out_order m))

  shaped_order : (row : Row) (shape : Shape) (p : ℕ) (w : Raw) (xs : List (Part G text)) → RawOrder p w xs
      → OutOrder p (shaped text row shape p w) xs
  shaped_order row shape p Breaks xs h = tt
  shaped_order row shape p (Yields ts ends e) xs h = h

  -- the parts of what a rule gives follow one another from its place to its end
  pub order : {r p : ℕ} {o : Outcome} → (d : ReadsBy G text r p o) → OutOrder p o (parts d)
  order {r} {p} (by_row {w = w} d e) =
      subst (λ o. OutOrder p o (row_parts d)) (sym e) (shaped_order (G.row r) (G.shape r) p w (row_parts d) (row_order d))
