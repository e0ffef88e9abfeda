-- What takes no byte gives at most one node.
use Rattle.std.proofs.Common.{◌≡◌, inl, inr, ℕ, ◌+◌, ◌<◌, ◌≤◌, List, Bool, true, sym, subst, arith}
use Rattle.weedle_grammar.specs.Rows.{Row, Opt, Many, ListOf, Tail}
use Rattle.weedle_grammar.specs.Trees.{Tree, Outcome, Fails, Gives}
use Rattle.weedle_grammar.specs.Meaning.{Grammar, Shape, Silent, Marked, Kept, Line, Joined, Inner, Plain, Raw, Breaks, Yields, ReadsBy, ReadsRow, by_row, by_bytes, by_one, by_not_next, by_run, by_past, by_seq, by_first, by_opt, many_end, many_stuck, many_more, list_none, list_more, list1_fails, list1_more, tail_end, tail_stuck, tail_back, tail_more, if_fails, if_absent, if_present, raw_of, opted, shaped, formed, before}
use Rattle.weedle_grammar.specs.Size.{total_size, is_silent}
use Rattle.weedle_grammar.proofs.Leaves.{both, one_of}
use Rattle.weedle_grammar.proofs.Moves.{OutLands, RawLands, row_moves}
use Rattle.weedle_grammar.proofs.Ranked.{is_ranked}
use Rattle.weedle_grammar.proofs.Exists.{le, lt, grows, advances}
use Rattle.weedle_grammar.proofs.Lower.{by_number}
use Rattle.weedle_grammar.proofs.Size.Lists.{size_first, added, plain_size}
use Rattle.weedle_grammar.proofs.Size.Slim.{is_thin, is_slim}

-- where a row ends at p, its trees have at most one node, with the node that is made of them
abbrev RawThin : Row → ℕ → Raw → Type 0
RawThin row p Breaks = Unit {0}
RawThin row p (Yields ts ends e) = e ≡ p → total_size ts + added row ≤ 1

-- where a rule ends at p, it gives at most one node
abbrev pub OutThin : ℕ → Outcome → Type 0
OutThin p Fails = Unit {0}
OutThin p (Gives ts e) = e ≡ p → total_size ts ≤ 1

-- what a shape makes of the trees
formed_thin : (text : List ℕ) (row : Row) (shape : Shape) (p : ℕ) (ts : List Tree) (ends : List ℕ) → total_size ts + added row ≤ 1 → total_size (formed text row shape p ts ends) ≤ 1
formed_thin text row Silent p ts ends h = omega arith
formed_thin text row Marked p ts ends h = omega arith
formed_thin text row (Kept k) p ts ends h = omega arith
formed_thin text row Line p ts ends h = omega arith
formed_thin text row Joined p ts ends h = omega arith
formed_thin text row Inner p ts ends h = omega (arith, size_first ts)
formed_thin text row Plain p ts ends h = omega (arith, plain_size row ts)

-- a rule with a thin row, a silent one, one that takes a byte
shaped_thin : (text : List ℕ) (row : Row) (shape : Shape) (p : ℕ) (w : Raw) → RawThin row p w → OutThin p (shaped text row shape p w)
shaped_thin text row shape p Breaks h = tt
shaped_thin text row shape p (Yields ts ends e) h = λ q. formed_thin text row shape p ts ends (h q)

silent_thin : (text : List ℕ) (row : Row) (shape : Shape) (p : ℕ) (w : Raw) → is_silent shape ≡ true → OutThin p (shaped text row shape p w)
silent_thin text row shape p Breaks h = tt
silent_thin text row Silent p (Yields ts ends e) h = λ q. omega arith
silent_thin text row Marked p (Yields ts ends e) h = λ q. cc
silent_thin text row (Kept k) p (Yields ts ends e) h = λ q. cc
silent_thin text row Line p (Yields ts ends e) h = λ q. cc
silent_thin text row Joined p (Yields ts ends e) h = λ q. cc
silent_thin text row Inner p (Yields ts ends e) h = λ q. cc
silent_thin text row Plain p (Yields ts ends e) h = λ q. cc

-- an optional rule that takes a byte where it is there
opted_thin : (x p : ℕ) (o : Outcome) → OutLands lt p o → RawThin (Opt x) p (opted p o)
opted_thin x p Fails h = λ q. omega arith
opted_thin x p (Gives ts e) h = λ q. absurd (omega arith)

-- behind a part that took a byte nothing ends at p
behind_thin : (row : Row) (p q : ℕ) (ts : List Tree) (w : Raw) → p < q → RawLands le q w → RawThin row p (before ts w)
behind_thin row p q ts Breaks l h = tt
behind_thin row p q ts (Yields us ends e) l h = λ z. absurd (omega arith)

-- what passes on an outcome ends where that does
raw_grows : (q : ℕ) (o : Outcome) → OutLands le q o → RawLands le q (raw_of o)
raw_grows q Fails h = tt
raw_grows q (Gives ts e) h = h

takes_thin : (p : ℕ) (o : Outcome) → OutLands lt p o → OutThin p o
takes_thin p Fails h = tt
takes_thin p (Gives ts e) h = λ q. absurd (omega arith)

module _ (G : Grammar) (text : List ℕ) where
  -- a row ends no earlier than it begins
  pub row_grows : {row : Row} {p : ℕ} {w : Raw} → ReadsRow G text row p w → RawLands le p w
  row_grows d = row_moves le (λ p. omega arith) (λ p q e h k. omega arith) G text (λ row. Unit {0}) (λ r. tt) (λ row p k u h. omega arith) d tt

  module _ (takes : ℕ → Bool) (ranked : (r : ℕ) → is_ranked by_number takes r (G.row r) ≡ true) (slim : (r : ℕ) → is_slim G.row takes r (G.shape r) (G.row r) ≡ true) where
    -- a thin row
    row_thin : {row : Row} {p : ℕ} {w : Raw} → ReadsRow G text row p w → is_thin takes row ≡ true → RawThin row p w
    row_thin (by_bytes e) h = cc
    row_thin (by_one e) h = cc
    row_thin (by_not_next e) h = cc
    row_thin (by_run e) h = cc
    row_thin (by_past e) h = cc
    row_thin (by_seq d e) h = cc
    row_thin (by_first d e) h = cc
    row_thin {p = p} (by_opt {x = x} {o = o} d e) h = subst (RawThin (Opt x) p) (sym e) (opted_thin x p o (advances G text by_number takes ranked d h))
    row_thin {p = p} (many_end {x = x} d e) h = subst (RawThin (Many x) p) (sym e) (λ q. omega arith)
    row_thin {p = p} (many_stuck {x = x} d s e) h = subst (RawThin (Many x) p) (sym e) tt
    row_thin {p = p} (many_more {x = x} {q = q} {ts = ts} {w = w} d n m e) h =
        let a : p ≤ q = grows G text d in subst (RawThin (Many x) p) (sym e) (behind_thin (Many x) p q ts w (omega arith) (row_grows m))
    row_thin {p = p} (list_none {x = x} {t = t} d e) h = subst (RawThin (ListOf x t) p) (sym e) (λ q. omega arith)
    row_thin {p = p} (list_more {x = x} {t = t} {q = q} {ts = ts} {o = o} d m e) h =
        subst (RawThin (ListOf x t) p) (sym e) (behind_thin (ListOf x t) p q ts (raw_of o) (advances G text by_number takes ranked d h) (raw_grows q o (grows G text m)))
    row_thin (list1_fails d e) h = cc
    row_thin (list1_more d m e) h = cc
    row_thin {p = p} (tail_end {x = x} {s = s} d e) h = subst (RawThin (Tail x s) p) (sym e) (λ q. omega arith)
    row_thin {p = p} (tail_stuck {x = x} {s = s} d q e) h = subst (RawThin (Tail x s) p) (sym e) tt
    row_thin {p = p} (tail_back {x = x} {s = s} d n m e) h = subst (RawThin (Tail x s) p) (sym e) (λ q. omega arith)
    row_thin {p = p} (tail_more {x = x} {s = s} {q = q} {e = z} {us = us} {w = w} d n m t e) h =
        let a : p ≤ q = grows G text d in let b : q ≤ z = grows G text m in
        subst (RawThin (Tail x s) p) (sym e) (behind_thin (Tail x s) p z us w (omega arith) (row_grows t))
    row_thin (if_fails d e) h = cc
    row_thin (if_absent d g e) h = cc
    row_thin (if_present d g m e) h = cc

    -- a rule that takes nothing gives at most one node
    pub thin : {r p : ℕ} {o : Outcome} → ReadsBy G text r p o → OutThin p o
    thin {r} {p} {o} (by_row {w = w} d e) = elim (one_of (takes r) _ (both _ _ (slim r)).0) [
      | inl t ↦ takes_thin p o (advances G text by_number takes ranked (by_row d e) t)
      | inr s ↦ elim (one_of (is_silent (G.shape r)) _ s) [
        | inl a ↦ subst (OutThin p) (sym e) (silent_thin text (G.row r) (G.shape r) p w a)
        | inr a ↦ subst (OutThin p) (sym e) (shaped_thin text (G.row r) (G.shape r) p w (row_thin d a))
      ]
    ]
