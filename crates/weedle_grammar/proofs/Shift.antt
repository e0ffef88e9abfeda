-- What a rule does at a place of what follows s in a text, it does at that place behind s in the text.
use Rattle.std.proofs.Common.{◌≡◌, ◌≢◌, ℕ, zero, suc, ◌+◌, ◌-◌, List, [], ◌∷◌, ◌++◌, map, take, drop, Option, Some, None, refl, sym, ap, ◌∙◌, subst, arith}
use Rattle.std.proofs.lemmas.List.{drop-drop}
use Rattle.weedle_grammar.specs.Rows.{Row, take_bytes, take_one, take_not_next, take_past, run_length}
use Rattle.weedle_grammar.specs.Trees.{Tree, Text, Lines, Outcome, Fails, Gives}
use Rattle.weedle_grammar.specs.Meaning.{moved, Grammar, Shape, Silent, Marked, Kept, Line, Joined, Inner, Plain, kept, but_last, between, formed, Piece, piece, Raw, Breaks, Yields, leaf, ends_of, ReadsBy, ReadsRow, ReadsSeq, ReadsFirst, by_row, by_bytes, by_one, by_not_next, by_run, by_past, by_seq, by_first, by_opt, many_end, many_stuck, many_more, list_none, list_more, list1_fails, list1_more, tail_end, tail_stuck, tail_back, tail_more, if_fails, if_absent, if_present, seq_end, seq_fails, seq_more, first_none, first_here, first_next, together, raw_of, opted, shaped, before, with_piece, gave_some, given_of, last_end}

-- what a row yields, its ends moved by s
abbrev pub raw_moved : ℕ → Raw → Raw
raw_moved s Breaks = Breaks
raw_moved s (Yields ts ends q) = Yields ts (map (λ e. s + e) ends) (s + q)

-- the pieces, their ends moved by s
abbrev pub pieces_moved : ℕ → List Piece → List Piece
pieces_moved s [] = []
pieces_moved s (x ∷ xs) = piece x.given (s + x.end) ∷ pieces_moved s xs

-- the pieces of a sequence that may fail, their ends moved by s
abbrev pub seq_moved : ℕ → Option (List Piece) → Option (List Piece)
seq_moved s None = None
seq_moved s (Some pieces) = Some (pieces_moved s pieces)

-- moved pieces have the same trees
pub given_same : (s : ℕ) (pieces : List Piece) → given_of (pieces_moved s pieces) ≡ given_of pieces
given_same s [] = refl
given_same s (x ∷ xs) = ap (λ ts. x.given ++ ts) (given_same s xs)

-- the ends of moved pieces are the moved ends
pub ends_same : (s : ℕ) (pieces : List Piece) → ends_of (pieces_moved s pieces) ≡ map (λ e. s + e) (ends_of pieces)
ends_same s [] = refl
ends_same s (x ∷ xs) = ap (λ es. (s + x.end) ∷ es) (ends_same s xs)

-- moved pieces end s further on
pub last_moved : (s p : ℕ) (pieces : List Piece) → last_end (s + p) (pieces_moved s pieces) ≡ s + last_end p pieces
last_moved s p [] = refl
last_moved s p (x ∷ xs) = last_moved s x.end xs

some_same : (s k : ℕ) (pieces : List Piece) → gave_some k (pieces_moved s pieces) ≡ gave_some k pieces
some_same s k [] = refl
some_same s zero (x ∷ xs) = refl
some_same s (suc k) (x ∷ xs) = some_same s k xs

moved_leaf : (s p : ℕ) (t : Option ℕ) → raw_moved s (leaf p t) ≡ leaf (s + p) t
moved_leaf s p None = refl
moved_leaf s p (Some k) = let e : s + (p + k) ≡ s + p + k = omega arith in ap (Yields [] []) e

moved_together : (s p : ℕ) (o : Option (List Piece)) → raw_moved s (together p o) ≡ together (s + p) (seq_moved s o)
moved_together s p None = refl
moved_together s p (Some pieces) =
    let a = given_same s pieces in let b = ends_same s pieces in let c = last_moved s p pieces in cc

moved_raw : (s : ℕ) (o : Outcome) → raw_moved s (raw_of o) ≡ raw_of (moved s o)
moved_raw s Fails = refl
moved_raw s (Gives ts q) = refl

moved_opted : (s p : ℕ) (o : Outcome) → raw_moved s (opted p o) ≡ opted (s + p) (moved s o)
moved_opted s p Fails = refl
moved_opted s p (Gives ts q) = refl

moved_before : (s : ℕ) (ts : List Tree) (w : Raw) → raw_moved s (before ts w) ≡ before ts (raw_moved s w)
moved_before s ts Breaks = refl
moved_before s ts (Yields us ends q) = refl

moved_with : (s : ℕ) (ts : List Tree) (q : ℕ) (o : Option (List Piece))
    → seq_moved s (with_piece (piece ts q) o) ≡ with_piece (piece ts (s + q)) (seq_moved s o)
moved_with s ts q None = refl
moved_with s ts q (Some pieces) = refl

between_moved : (text : List ℕ) (s a b : ℕ) → between (drop s text) a b ≡ between text (s + a) (s + b)
between_moved text s a b =
    let n : b - a ≡ (s + b) - (s + a) = omega arith in
    ap (take (b - a)) (drop-drop a s text) ∙ ap (λ k. take k (drop (s + a) text)) n

kept_moved : (text : List ℕ) (s p : ℕ) (ends : List ℕ) (k : ℕ) → kept (drop s text) p ends k ≡ kept text (s + p) (map (λ e. s + e) ends) k
kept_moved text s p [] k = refl
kept_moved text s p (e ∷ ends) zero = between_moved text s p e
kept_moved text s p (e ∷ ends) (suc k) = kept_moved text s e ends k

formed_moved : (text : List ℕ) (s : ℕ) (row : Row) (shape : Shape) (p : ℕ) (ts : List Tree) (ends : List ℕ)
    → formed (drop s text) row shape p ts ends ≡ formed text row shape (s + p) ts (map (λ e. s + e) ends)
formed_moved text s row Silent p ts ends = refl
formed_moved text s row Marked p ts ends = refl
formed_moved text s row (Kept k) p ts ends = ap (λ t. Text t ∷ []) (kept_moved text s p ends k)
formed_moved text s row Line p ts ends = ap (λ t. Lines (but_last t) ∷ []) (kept_moved text s p ends 2)
formed_moved text s row Joined p ts ends = refl
formed_moved text s row Inner p ts ends = refl
formed_moved text s row Plain p ts ends = refl

shaped_moved : (text : List ℕ) (s : ℕ) (row : Row) (shape : Shape) (p : ℕ) (w : Raw)
    → moved s (shaped (drop s text) row shape p w) ≡ shaped text row shape (s + p) (raw_moved s w)
shaped_moved text s row shape p Breaks = refl
shaped_moved text s row shape p (Yields ts ends q) = ap (λ us. Gives us (s + q)) (formed_moved text s row shape p ts ends)

module _ (G : Grammar) (text : List ℕ) (s : ℕ) where
  leaf_behind : (f : List ℕ → Option ℕ) (p : ℕ) (w : Raw) → w ≡ leaf p (f (drop p (drop s text)))
      → raw_moved s w ≡ leaf (s + p) (f (drop (s + p) text))
  leaf_behind f p w e = ap (raw_moved s) e ∙ moved_leaf s p (f (drop p (drop s text))) ∙ ap (λ t. leaf (s + p) (f t)) (drop-drop p s text)

  stays : (w : Raw) (ts : List Tree) (p : ℕ) → w ≡ Yields ts [] p → raw_moved s w ≡ Yields ts [] (s + p)
  stays w ts p e = ap (raw_moved s) e

  apart : (p q : ℕ) → q ≢ p → s + q ≢ s + p
  apart p q n h = n (omega arith)

  mutual
    -- rules
    pub behind : {r p : ℕ} {o : Outcome} → ReadsBy G (drop s text) r p o → ReadsBy G text r (s + p) (moved s o)
    behind {r} {p} (by_row {w = w} d e) = by_row (row_behind d) (ap (moved s) e ∙ shaped_moved text s (G.row r) (G.shape r) p w)

    -- rows
    pub row_behind : {row : Row} {p : ℕ} {w : Raw} → ReadsRow G (drop s text) row p w → ReadsRow G text row (s + p) (raw_moved s w)
    row_behind {p = p} {w = w} (by_bytes {b = b} e) = by_bytes (leaf_behind (take_bytes b) p w e)
    row_behind {p = p} {w = w} (by_one {c = c} e) = by_one (leaf_behind (take_one c) p w e)
    row_behind {p = p} {w = w} (by_not_next {c = c} e) = by_not_next (leaf_behind (take_not_next c) p w e)
    row_behind {p = p} {w = w} (by_run {c = c} e) = by_run (leaf_behind (λ t. Some (run_length c t)) p w e)
    row_behind {p = p} {w = w} (by_past {b = b} e) = by_past (leaf_behind (take_past b) p w e)
    row_behind {p = p} (by_seq {o = o} d e) = by_seq (seq_behind d) (ap (raw_moved s) e ∙ moved_together s p o)
    row_behind {p = p} (by_first {o = o} d e) = by_first (first_behind d) (ap (raw_moved s) e ∙ moved_raw s o)
    row_behind {p = p} (by_opt {o = o} d e) = by_opt (behind d) (ap (raw_moved s) e ∙ moved_opted s p o)
    row_behind {p = p} {w = w} (many_end d e) = many_end (behind d) (stays w [] p e)
    row_behind {p = p} (many_stuck {q = q} d h e) = many_stuck (behind d) (ap (λ k. s + k) h) (ap (raw_moved s) e)
    row_behind {p = p} (many_more {q = q} {ts = ts} {w = w} d n m e) =
        many_more (behind d) (apart p q n) (row_behind m) (ap (raw_moved s) e ∙ moved_before s ts w)
    row_behind {p = p} {w = w} (list_none d e) = list_none (behind d) (stays w [] p e)
    row_behind (list_more {ts = ts} {o = o} d m e) =
        list_more (behind d) (behind m) (ap (raw_moved s) e ∙ moved_before s ts (raw_of o) ∙ ap (before ts) (moved_raw s o))
    row_behind (list1_fails d e) = list1_fails (behind d) (ap (raw_moved s) e)
    row_behind (list1_more {ts = ts} {o = o} d m e) =
        list1_more (behind d) (behind m) (ap (raw_moved s) e ∙ moved_before s ts (raw_of o) ∙ ap (before ts) (moved_raw s o))
    row_behind {p = p} {w = w} (tail_end d e) = tail_end (behind d) (stays w [] p e)
    row_behind (tail_stuck d h e) = tail_stuck (behind d) (ap (λ k. s + k) h) (ap (raw_moved s) e)
    row_behind {p = p} {w = w} (tail_back {q = q} d n m e) = tail_back (behind d) (apart p q n) (behind m) (stays w [] p e)
    row_behind {p = p} (tail_more {q = q} {us = us} {w = w} d n m t e) =
        tail_more (behind d) (apart p q n) (behind m) (row_behind t) (ap (raw_moved s) e ∙ moved_before s us w)
    row_behind (if_fails d e) = if_fails (seq_behind d) (ap (raw_moved s) e)
    row_behind {p = p} (if_absent {k = k} {pieces = pieces} d g e) = if_absent (seq_behind d) (some_same s k pieces ∙ g) (let a = given_same s pieces in let b = last_moved s p pieces in let c = ap (raw_moved s) e in cc)
    row_behind {p = p} (if_present {k = k} {y = y} {o = o} {pieces = pieces} d g m e) =
        let b = last_moved s p pieces in
        if_present (seq_behind d) (some_same s k pieces ∙ g) (subst (λ q. ReadsBy G text y q (moved s o)) (sym b) (behind m))
        (ap (raw_moved s) e ∙ moved_before s (given_of pieces) (raw_of o) ∙ ap (before (given_of pieces)) (moved_raw s o) ∙ ap (λ ts. before ts (raw_of (moved s o))) (sym (given_same s pieces)))

    -- sequences
    pub seq_behind : {rs : List ℕ} {p : ℕ} {o : Option (List Piece)} → ReadsSeq G (drop s text) rs p o
        → ReadsSeq G text rs (s + p) (seq_moved s o)
    seq_behind (seq_end e) = seq_end (ap (seq_moved s) e)
    seq_behind (seq_fails d e) = seq_fails (behind d) (ap (seq_moved s) e)
    seq_behind (seq_more {q = q} {ts = ts} {o = o} d m e) = seq_more (behind d) (seq_behind m) (ap (seq_moved s) e ∙ moved_with s ts q o)

    -- choices
    pub first_behind : {rs : List ℕ} {i p : ℕ} {o : Outcome} → ReadsFirst G (drop s text) rs i p o
        → ReadsFirst G text rs i (s + p) (moved s o)
    first_behind (first_none e) = first_none (ap (moved s) e)
    first_behind (first_here d e) = first_here (behind d) (ap (moved s) e)
    first_behind (first_next d m) = first_next (behind d) (first_behind m)
