-- How many nodes a rule gives, by how many bytes it takes.
-- Of the parts that begin where the rule begins only the last takes text, and its rule has a smaller number; those before it give a node each at most. So 19 nodes for each number up to the rule's pay for the first byte: with fewer than 526 rules no more than 10,000. Each later byte pays 10,000.
use Rattle.std.proofs.Common.{◌≡◌, inl, inr, ℕ, suc, ◌+◌, ◌*◌, ◌<◌, ◌≤◌, List, [], ◌∷◌, drop, length, Bool, true, ◌&&◌, ◌||◌, Option, Some, refl, sym, subst, arith}
use Rattle.std.specs.Prelude.{nat_lt}
use Rattle.std.proofs.lemmas.Bool.{cases_lt}
use Rattle.weedle_grammar.specs.Rows.{run_length, Row, Many, Tail}
use Rattle.weedle_grammar.specs.Trees.{Tree, Absent, Outcome, Fails, Gives}
use Rattle.weedle_grammar.specs.Meaning.{Grammar, Piece, piece, Raw, Breaks, Yields, ReadsBy, ReadsRow, ReadsSeq, ReadsFirst, by_row, by_bytes, by_one, by_not_next, by_run, by_past, by_seq, by_first, by_opt, many_end, many_stuck, many_more, list_none, list_more, list1_fails, list1_more, tail_end, tail_stuck, tail_back, tail_more, if_fails, if_absent, if_present, seq_end, seq_fails, seq_more, first_none, first_here, first_next, raw_of, opted, shaped, before, with_piece, given_of, last_end}
use Rattle.weedle_grammar.specs.Size.{total_size}
use Rattle.weedle_grammar.proofs.Leaves.{both, one_of}
use Rattle.weedle_grammar.proofs.Ranked.{some_takes, low_parts, all_low, is_low, is_ranked}
use Rattle.weedle_grammar.proofs.Exists.{grows, seq_grows, advances, seq_advances}
use Rattle.weedle_grammar.proofs.Lower.{by_number, below, low, next_low}
use Rattle.weedle_grammar.proofs.Size.Lists.{size_append, size_alt}
use Rattle.weedle_grammar.proofs.Size.Slim.{all_flat, is_short, is_slim}
use Rattle.weedle_grammar.proofs.Size.Single.{single}
use Rattle.weedle_grammar.proofs.Size.Empty.{thin, row_grows}
use Rattle.weedle_grammar.proofs.Size.Sums.{OutWeighs, RawWeighs, SeqWeighs, SeqCosts, OutCosts, RawNone, wider, onward, at_once, behind_none, run_costs, raw_costs, raw_weighs, seq_behind, seq_at_once, seq_wider, seq_more_costs, seq_costs_wider, leaf_weighs, together_weighs, opted_weighs, out_wider, shaped_weighs, at_most}

module _ (G : Grammar) (text : List ℕ) (takes : ℕ → Bool) (ranked : (r : ℕ) → is_ranked by_number takes r (G.row r) ≡ true)
    (slim : (r : ℕ) → is_slim G.row takes r (G.shape r) (G.row r) ≡ true) (few : (r p e : ℕ) (ts : List Tree) → ReadsBy G text r p (Gives ts e) → r < 526) where
  -- each row is short
  short : (r : ℕ) → is_short G.row (G.row r) ≡ true
  short r = (both _ _ (slim r)).1

  -- what a rule gives costs two nodes, and 10,000 for each byte
  pub out_costs : (r p : ℕ) (o : Outcome) → ReadsBy G text r p o → OutWeighs (19 * suc r) p o → OutCosts 2 p o
  out_costs r p Fails d h = tt
  out_costs r p (Gives ts e) d h =
      let a = few r p e ts d in let b : p ≤ e = grows G text d in
      elim (cases_lt p e) [ inl l ↦ (let c = h l in omega arith) | inr l ↦ (let c : total_size ts ≤ 1 = thin G text takes ranked slim d (omega arith) in omega arith) ]

  -- items that take nothing are none
  many_none : {x p : ℕ} {w : Raw} → ReadsRow G text (Many x) p w → RawNone p w
  many_none {x} {p} (many_end d e) = subst (RawNone p) (sym e) (λ q. refl)
  many_none {x} {p} (many_stuck d s e) = subst (RawNone p) (sym e) tt
  many_none {x} {p} (many_more {q = q} {ts = ts} {w = w} d n m e) =
      let a : p ≤ q = grows G text d in subst (RawNone p) (sym e) (behind_none p q ts w (omega arith) (row_grows G text m))

  tail_none : {x s p : ℕ} {w : Raw} → ReadsRow G text (Tail x s) p w → RawNone p w
  tail_none {x} {s} {p} (tail_end d e) = subst (RawNone p) (sym e) (λ q. refl)
  tail_none {x} {s} {p} (tail_stuck d q e) = subst (RawNone p) (sym e) tt
  tail_none {x} {s} {p} (tail_back d n m e) = subst (RawNone p) (sym e) (λ q. refl)
  tail_none {x} {s} {p} (tail_more {q = q} {e = z} {us = us} {w = w} d n m t e) =
      let a : p ≤ q = grows G text d in let b : q ≤ z = grows G text m in
      subst (RawNone p) (sym e) (behind_none p z us w (omega arith) (row_grows G text t))

  -- what yields something is a rule of the grammar
  small_rule : (extra r p : ℕ) (w : Raw) → ReadsRow G text (G.row r) p w → (r < 526 → RawWeighs extra p w) → RawWeighs extra p w
  small_rule extra r p Breaks d f = tt
  small_rule extra r p (Yields ts ends e) d f = f (few r p e _ (by_row d refl))

  -- an item, and what follows it
  pair_weighs : (k x t p q : ℕ) (ts : List Tree) (o : Outcome) → ReadsBy G text x p (Gives ts q) → ReadsBy G text t q o
      → (p < q → total_size ts + (10000 * p + 10000) ≤ 10000 * q + 19 * suc x) → OutWeighs (19 * suc t) q o
      → nat_lt x k && (takes x || nat_lt t k) ≡ true → RawWeighs (19 * k + 18) p (before ts (raw_of o))
  pair_weighs k x t p q ts o d m f g l =
      let a : p ≤ q = grows G text d in
      let b = below x k (both _ _ l).0 in
      elim (cases_lt p q) [
        | inl n ↦ (let c = f n in wider (19 * k + 2) (19 * k + 18) p (before ts (raw_of o)) (omega arith)
            (onward (19 * k) 2 p q ts (raw_of o) (omega arith) (raw_costs 2 q o (out_costs t q o m g))))
        | inr n ↦ (let s : q ≡ p = omega arith in
            let c : total_size ts ≤ 1 = thin G text takes ranked slim d s in
            elim (one_of (takes x) _ (both _ _ l).1) [
              | inl e ↦ absurd (let z : p < q = advances G text by_number takes ranked d e in omega arith)
              | inr e ↦ (let z = below t k e in wider (19 * k + 1) (19 * k + 18) p (before ts (raw_of o)) (omega arith)
                  (at_once (19 * k) 1 p q ts (raw_of o) c s (raw_weighs (19 * k) q o (out_wider (19 * suc t) (19 * k) q o (omega arith) g))))
            ])
      ]

  -- the parts, and what follows them where one was there
  if_weighs : (k y p : ℕ) (parts : List ℕ) (pieces : List Piece) (o : Outcome) → ReadsSeq G text parts p (Some pieces) → ReadsBy G text y (last_end p pieces) o
      → SeqWeighs (19 * k + 2 * length parts) p (Some pieces) → SeqCosts (2 * length parts) p (Some pieces) → OutWeighs (19 * suc y) (last_end p pieces) o
      → some_takes by_number takes parts || nat_lt y k ≡ true → length parts ≤ 7 → RawWeighs (19 * k + 18) p (before (given_of pieces) (raw_of o))
  if_weighs k y p parts pieces o d m f c g l b =
      let a : p ≤ last_end p pieces = seq_grows G text d in
      elim (cases_lt p (last_end p pieces)) [
        | inl n ↦ (let z : total_size (given_of pieces) + (10000 * p + 10000) ≤ 10000 * last_end p pieces + (19 * k + 2 * length parts) = f n in
            wider (19 * k + 14 + 2) (19 * k + 18) p (before (given_of pieces) (raw_of o)) (omega arith)
            (onward (19 * k + 14) 2 p (last_end p pieces) (given_of pieces) (raw_of o) (omega arith) (raw_costs 2 _ o (out_costs y _ o m g))))
        | inr n ↦ (let s : last_end p pieces ≡ p = omega arith in
            elim (one_of (some_takes by_number takes parts) _ l) [
              | inl e ↦ absurd (let z : p < last_end p pieces = seq_advances G text by_number takes ranked d e in omega arith)
              | inr e ↦ (let z = below y k e in wider (19 * k + 14) (19 * k + 18) p (before (given_of pieces) (raw_of o)) (omega arith)
                  (at_once (19 * k) 14 p (last_end p pieces) (given_of pieces) (raw_of o) (omega arith) s
                  (raw_weighs (19 * k) _ o (out_wider (19 * suc y) (19 * k) _ o (omega arith) g))))
            ])
      ]

  mutual
    -- a rule that takes bytes gives at most 19 nodes for each rule up to it, and 10000 for each byte after the first
    pub weighs : {r p : ℕ} {o : Outcome} → ReadsBy G text r p o → OutWeighs (19 * suc r) p o
    weighs {r} {p} (by_row {w = w} d e) =
        subst (OutWeighs (19 * suc r) p) (sym e)
        (out_wider (19 * r + 18 + 1) (19 * suc r) p (shaped text (G.row r) (G.shape r) p w) (omega arith)
        (shaped_weighs text (19 * r + 18) (G.row r) (G.shape r) p w (small_rule (19 * r + 18) r p w d (λ b. row_weighs d r b (low G text takes ranked r) (short r)))))

    -- so does a row, where 18 are for its parts and those that take nothing
    row_weighs : {row : Row} {p : ℕ} {w : Raw} → ReadsRow G text row p w → (k : ℕ) → k < 526 → is_low by_number takes k row ≡ true
        → is_short G.row row ≡ true → RawWeighs (19 * k + 18) p w
    row_weighs {p = p} (by_bytes e) k b l h = subst (RawWeighs (19 * k + 18) p) (sym e) (leaf_weighs _ p _)
    row_weighs {p = p} (by_one e) k b l h = subst (RawWeighs (19 * k + 18) p) (sym e) (leaf_weighs _ p _)
    row_weighs {p = p} (by_not_next e) k b l h = subst (RawWeighs (19 * k + 18) p) (sym e) (leaf_weighs _ p _)
    row_weighs {p = p} (by_run {c = c} e) k b l h =
        subst (RawWeighs (19 * k + 18) p) (sym e) (leaf_weighs (19 * k + 18) p (Some (run_length c (drop p text))))
    row_weighs {p = p} (by_past e) k b l h = subst (RawWeighs (19 * k + 18) p) (sym e) (leaf_weighs _ p _)
    row_weighs {p = p} (by_seq {parts = parts} {o = o} d e) k b l h =
        subst (RawWeighs (19 * k + 18) p) (sym e)
        (together_weighs _ p o (seq_wider (19 * k + 2 * length parts) (19 * k + 18) p o (let s = at_most (length parts) 8 h in omega arith) (seq_weighs d k l)))
    row_weighs {p = p} (by_first {o = o} d e) k b l h =
        subst (RawWeighs (19 * k + 18) p) (sym e) (raw_weighs _ p o (out_wider (19 * k + 1) (19 * k + 18) p o (omega arith) (first_weighs d k l h)))
    row_weighs {p = p} (by_opt {x = x} {o = o} d e) k b l h =
        subst (RawWeighs (19 * k + 18) p) (sym e)
        (wider (19 * k + 1) (19 * k + 18) p (opted p o) (omega arith)
        (opted_weighs (19 * k) p o (single G text short d h) (out_wider (19 * suc x) (19 * k) p o (let a = below x k l in omega arith) (weighs d))))
    row_weighs {p = p} (many_end d e) k b l h = subst (RawWeighs (19 * k + 18) p) (sym e) (λ m. absurd (omega arith))
    row_weighs {p = p} (many_stuck d s e) k b l h = subst (RawWeighs (19 * k + 18) p) (sym e) tt
    row_weighs {p = p} (many_more {x = x} {q = q} {ts = ts} {w = w} d n m e) k b l h =
        let a : p ≤ q = grows G text d in
        let c = below x k l in
        let first : total_size ts + (10000 * p + 10000) ≤ 10000 * q + 19 * suc x = weighs d (omega arith) in
        subst (RawWeighs (19 * k + 18) p) (sym e)
        (wider (19 * k + 0) (19 * k + 18) p (before ts w) (omega arith)
        (onward (19 * k) 0 p q ts w (omega arith) (run_costs k q w b (row_grows G text m) (many_none m) (row_weighs m k b l h))))
    row_weighs {p = p} (list_none d e) k b l h = subst (RawWeighs (19 * k + 18) p) (sym e) (λ m. absurd (omega arith))
    row_weighs {p = p} (list_more {x = x} {t = t} {q = q} {ts = ts} {o = o} d m e) k b l h =
        subst (RawWeighs (19 * k + 18) p) (sym e) (pair_weighs k x t p q ts o d m (weighs d) (weighs m) l)
    row_weighs {p = p} (list1_fails d e) k b l h = subst (RawWeighs (19 * k + 18) p) (sym e) tt
    row_weighs {p = p} (list1_more {x = x} {t = t} {q = q} {ts = ts} {o = o} d m e) k b l h =
        subst (RawWeighs (19 * k + 18) p) (sym e) (pair_weighs k x t p q ts o d m (weighs d) (weighs m) l)
    row_weighs {p = p} (tail_end d e) k b l h = subst (RawWeighs (19 * k + 18) p) (sym e) (λ m. absurd (omega arith))
    row_weighs {p = p} (tail_stuck d s e) k b l h = subst (RawWeighs (19 * k + 18) p) (sym e) tt
    row_weighs {p = p} (tail_back d n m e) k b l h = subst (RawWeighs (19 * k + 18) p) (sym e) (λ m. absurd (omega arith))
    row_weighs {p = p} (tail_more {x = x} {s = s} {q = q} {e = z} {us = us} {w = w} d n m t e) k b l h =
        let a : p ≤ q = grows G text d in
        let c : total_size us + 10000 * q ≤ 10000 * z + 2 = out_costs x q (Gives us z) m (weighs m) in
        subst (RawWeighs (19 * k + 18) p) (sym e)
        (wider (2 + 0) (19 * k + 18) p (before us w) (omega arith)
        (onward 2 0 p z us w (omega arith) (run_costs k z w b (row_grows G text t) (tail_none t) (row_weighs t k b l h))))
    row_weighs {p = p} (if_fails d e) k b l h = subst (RawWeighs (19 * k + 18) p) (sym e) tt
    row_weighs {p = p} (if_absent {parts = parts} {pieces = pieces} d g e) k b l h =
        let s = at_most (length parts) 7 h in
        let f = seq_weighs d k (both _ _ l).0 in
        subst (RawWeighs (19 * k + 18) p) (sym e) (λ m. let a : total_size (given_of pieces) + (10000 * p + 10000) ≤ 10000 * last_end p pieces + (19 * k + 2 * length parts) = f m in omega (arith, size_append (given_of pieces) (Absent ∷ [])))
    row_weighs {p = p} (if_present {parts = parts} {y = y} {o = o} {pieces = pieces} d g m e) k b l h =
        subst (RawWeighs (19 * k + 18) p) (sym e) (if_weighs k y p parts pieces o d m (seq_weighs d k (both _ _ l).0) (seq_costs d) (weighs m) (both _ _ l).1 (at_most (length parts) 7 h))

    -- two for each part of a sequence
    seq_weighs : {rs : List ℕ} {p : ℕ} {o : Option (List Piece)} → ReadsSeq G text rs p o → (k : ℕ) → low_parts by_number takes k rs ≡ true
        → SeqWeighs (19 * k + 2 * length rs) p o
    seq_weighs {p = p} (seq_end e) k l = subst (SeqWeighs (19 * k + 0) p) (sym e) (λ m. absurd (omega arith))
    seq_weighs {p = p} (seq_fails {rs = rs} d e) k l = subst (SeqWeighs (19 * k + 2 * suc (length rs)) p) (sym e) tt
    seq_weighs {p = p} (seq_more {r = r} {q = q} {rs = rs} {ts = ts} {o = o} d m e) k l =
        let a : p ≤ q = grows G text d in
        let c = below r k (both _ _ l).0 in
        subst (SeqWeighs (19 * k + 2 * suc (length rs)) p) (sym e) (elim (cases_lt p q) [
          | inl n ↦ (let first : total_size ts + (10000 * p + 10000) ≤ 10000 * q + 19 * suc r = weighs d n in
              seq_wider (19 * k + 2 * length rs) (19 * k + 2 * suc (length rs)) p (with_piece (piece ts q) o) (omega arith)
              (seq_behind (19 * k) (2 * length rs) p q ts o (omega arith) (seq_costs m)))
          | inr n ↦ (let s : q ≡ p = omega arith in
              let t : total_size ts ≤ 1 = thin G text takes ranked slim d s in
              seq_wider (19 * k + 2 * length rs + 2) (19 * k + 2 * suc (length rs)) p (with_piece (piece ts q) o) (omega arith)
              (seq_at_once (19 * k + 2 * length rs) 2 p q ts o (omega arith) s (seq_weighs m k (next_low G text takes ranked k r p q rs ts d s l))))
        ])

    -- wherever the sequence ends
    seq_costs : {rs : List ℕ} {p : ℕ} {o : Option (List Piece)} → ReadsSeq G text rs p o → SeqCosts (2 * length rs) p o
    seq_costs {p = p} (seq_end e) = subst (SeqCosts 0 p) (sym e) (omega arith)
    seq_costs {p = p} (seq_fails {rs = rs} d e) = subst (SeqCosts (2 * suc (length rs)) p) (sym e) tt
    seq_costs {p = p} (seq_more {r = r} {q = q} {rs = rs} {ts = ts} {o = o} d m e) =
        subst (SeqCosts (2 * suc (length rs)) p) (sym e)
        (seq_costs_wider (2 + 2 * length rs) (2 * suc (length rs)) p (with_piece (piece ts q) o) (omega arith)
        (seq_more_costs (2 * length rs) p q ts o (out_costs r p (Gives ts q) d (weighs d)) (seq_costs m)))

    -- the alternative that fits
    first_weighs : {rs : List ℕ} {i p : ℕ} {o : Outcome} → ReadsFirst G text rs i p o → (k : ℕ) → all_low by_number takes k rs ≡ true
        → all_flat G.row rs ≡ true → OutWeighs (19 * k + 1) p o
    first_weighs {p = p} (first_none e) k l h = subst (OutWeighs (19 * k + 1) p) (sym e) tt
    first_weighs {i = i} {p = p} (first_here {r = r} {q = q} {ts = ts} d e) k l h =
        let c = below r k (both _ _ l).0 in
        let s : length ts ≤ 1 = single G text short d (both _ _ h).0 in
        let f = weighs d in
        subst (OutWeighs (19 * k + 1) p) (sym e) (λ m. let a : total_size ts + (10000 * p + 10000) ≤ 10000 * q + 19 * suc r = f m in omega (arith, size_alt i ts))
    first_weighs (first_next d m) k l h = first_weighs m k (both _ _ l).1 (both _ _ h).1
