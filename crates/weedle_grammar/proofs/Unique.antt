-- A rule has one outcome at a place.
use Rattle.std.proofs.Common.{◌≡◌, ℕ, List, Option}
use Rattle.weedle_grammar.specs.Rows.{Row}
use Rattle.weedle_grammar.specs.Trees.{Outcome}
use Rattle.weedle_grammar.specs.Meaning.{Grammar, Piece, Raw, ReadsBy, ReadsRow, ReadsSeq, ReadsFirst, by_row, by_bytes, by_one, by_not_next, by_run, by_past, by_seq, by_first, by_opt, many_end, many_stuck, many_more, list_none, list_more, list1_fails, list1_more, tail_end, tail_stuck, tail_back, tail_more, if_fails, if_absent, if_present, seq_end, seq_fails, seq_more, first_none, first_here, first_next}

mutual
  -- of rules
  pub one_outcome : {G : Grammar} {text : List ℕ} {r p p' : ℕ} {o o' : Outcome} → ReadsBy G text r p o → ReadsBy G text r p' o'
      → p ≡ p' → o ≡ o'
  one_outcome (by_row d e) (by_row d' e') h = cc (one_raw d d' h)

  -- of rows
  pub one_raw : {G : Grammar} {text : List ℕ} {row : Row} {p p' : ℕ} {w w' : Raw} → ReadsRow G text row p w
      → ReadsRow G text row p' w' → p ≡ p' → w ≡ w'
  one_raw (by_bytes e) (by_bytes e') h = cc
  one_raw (by_one e) (by_one e') h = cc
  one_raw (by_not_next e) (by_not_next e') h = cc
  one_raw (by_run e) (by_run e') h = cc
  one_raw (by_past e) (by_past e') h = cc
  one_raw (by_seq d e) (by_seq d' e') h = cc (one_seq d d' h)
  one_raw (by_first d e) (by_first d' e') h = cc (one_first d d' h)
  one_raw (by_opt d e) (by_opt d' e') h = cc (one_outcome d d' h)
  one_raw (many_end d e) (many_end d' e') h = cc (one_outcome d d' h)
  one_raw (many_end d e) (many_stuck d' s' e') h = cc (one_outcome d d' h)
  one_raw (many_end d e) (many_more d' n' m' e') h = cc (one_outcome d d' h)
  one_raw (many_stuck d s e) (many_end d' e') h = cc (one_outcome d d' h)
  one_raw (many_stuck d s e) (many_stuck d' s' e') h = cc (one_outcome d d' h)
  one_raw (many_stuck d s e) (many_more d' n' m' e') h = absurd (n' (cc (one_outcome d d' h)))
  one_raw (many_more d n m e) (many_end d' e') h = cc (one_outcome d d' h)
  one_raw (many_more d n m e) (many_stuck d' s' e') h = absurd (n (cc (one_outcome d d' h)))
  one_raw (many_more d n m e) (many_more d' n' m' e') h = let first = one_outcome d d' h in cc (first, one_raw m m' (cc first))
  one_raw (list_none d e) (list_none d' e') h = cc (one_outcome d d' h)
  one_raw (list_none d e) (list_more d' m' e') h = cc (one_outcome d d' h)
  one_raw (list_more d m e) (list_none d' e') h = cc (one_outcome d d' h)
  one_raw (list_more d m e) (list_more d' m' e') h = let first = one_outcome d d' h in cc (first, one_outcome m m' (cc first))
  one_raw (list1_fails d e) (list1_fails d' e') h = cc (one_outcome d d' h)
  one_raw (list1_fails d e) (list1_more d' m' e') h = cc (one_outcome d d' h)
  one_raw (list1_more d m e) (list1_fails d' e') h = cc (one_outcome d d' h)
  one_raw (list1_more d m e) (list1_more d' m' e') h = let first = one_outcome d d' h in cc (first, one_outcome m m' (cc first))
  one_raw (tail_end d e) (tail_end d' e') h = cc (one_outcome d d' h)
  one_raw (tail_end d e) (tail_stuck d' s' e') h = cc (one_outcome d d' h)
  one_raw (tail_end d e) (tail_back d' n' m' e') h = cc (one_outcome d d' h)
  one_raw (tail_end d e) (tail_more d' n' m' t' e') h = cc (one_outcome d d' h)
  one_raw (tail_stuck d s e) (tail_end d' e') h = cc (one_outcome d d' h)
  one_raw (tail_stuck d s e) (tail_stuck d' s' e') h = cc (one_outcome d d' h)
  one_raw (tail_stuck d s e) (tail_back d' n' m' e') h = absurd (n' (cc (one_outcome d d' h)))
  one_raw (tail_stuck d s e) (tail_more d' n' m' t' e') h = absurd (n' (cc (one_outcome d d' h)))
  one_raw (tail_back d n m e) (tail_end d' e') h = cc (one_outcome d d' h)
  one_raw (tail_back d n m e) (tail_stuck d' s' e') h = absurd (n (cc (one_outcome d d' h)))
  one_raw (tail_back d n m e) (tail_back d' n' m' e') h = cc
  one_raw (tail_back d n m e) (tail_more d' n' m' t' e') h = let first = one_outcome d d' h in cc (first, one_outcome m m' (cc first))
  one_raw (tail_more d n m t e) (tail_end d' e') h = cc (one_outcome d d' h)
  one_raw (tail_more d n m t e) (tail_stuck d' s' e') h = absurd (n (cc (one_outcome d d' h)))
  one_raw (tail_more d n m t e) (tail_back d' n' m' e') h = let first = one_outcome d d' h in cc (first, one_outcome m m' (cc first))
  one_raw (tail_more d n m t e) (tail_more d' n' m' t' e') h =
      let first = one_outcome d d' h in let second = one_outcome m m' (cc first) in cc (first, second, one_raw t t' (cc second))
  one_raw (if_fails d e) (if_fails d' e') h = cc (one_seq d d' h)
  one_raw (if_fails d e) (if_absent d' g' e') h = cc (one_seq d d' h)
  one_raw (if_fails d e) (if_present d' g' m' e') h = cc (one_seq d d' h)
  one_raw (if_absent d g e) (if_fails d' e') h = cc (one_seq d d' h)
  one_raw (if_absent d g e) (if_absent d' g' e') h = cc (one_seq d d' h)
  one_raw (if_absent d g e) (if_present d' g' m' e') h = cc (one_seq d d' h)
  one_raw (if_present d g m e) (if_fails d' e') h = cc (one_seq d d' h)
  one_raw (if_present d g m e) (if_absent d' g' e') h = cc (one_seq d d' h)
  one_raw (if_present d g m e) (if_present d' g' m' e') h = let first = one_seq d d' h in cc (first, one_outcome m m' (cc first))

  -- of sequences
  pub one_seq : {G : Grammar} {text rs : List ℕ} {p p' : ℕ} {o o' : Option (List Piece)} → ReadsSeq G text rs p o
      → ReadsSeq G text rs p' o' → p ≡ p' → o ≡ o'
  one_seq (seq_end e) (seq_end e') h = cc
  one_seq (seq_fails d e) (seq_fails d' e') h = cc
  one_seq (seq_fails d e) (seq_more d' m' e') h = cc (one_outcome d d' h)
  one_seq (seq_more d m e) (seq_fails d' e') h = cc (one_outcome d d' h)
  one_seq (seq_more d m e) (seq_more d' m' e') h = let first = one_outcome d d' h in cc (first, one_seq m m' (cc first))

  -- of choices
  pub one_first : {G : Grammar} {text rs : List ℕ} {i p p' : ℕ} {o o' : Outcome} → ReadsFirst G text rs i p o
      → ReadsFirst G text rs i p' o' → p ≡ p' → o ≡ o'
  one_first (first_none e) (first_none e') h = cc
  one_first (first_here d e) (first_here d' e') h = cc (one_outcome d d' h)
  one_first (first_here d e) (first_next d' m') h = cc (one_outcome d d' h)
  one_first (first_next d m) (first_here d' e') h = cc (one_outcome d d' h)
  one_first (first_next d m) (first_next d' m') h = one_first m m' h
