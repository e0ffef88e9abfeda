-- The laws of the meaning, at the grammar's table.
use Rattle.std.proofs.Common.{◌≡◌, ℕ, ◌+◌, ◌≤◌, List, length, drop, refl, subst, arith}
use Rattle.std.specs.Prelude.{IsUtf8, IsCharBoundary}
use Rattle.weedle_grammar.specs.Trees.{Outcome, Fails, Gives}
use Rattle.weedle_grammar.specs.Meaning.{moved}
use Rattle.weedle_grammar.specs.written.Table.{webidl, Reads}
use Rattle.weedle_grammar.specs.Laws.{HasOneOutcome, IsShifted, EndsAtBoundary}
use Rattle.weedle_grammar.proofs.Takes.{takes}
use Rattle.weedle_grammar.proofs.Checked.{rank, ranked, safe}
use Rattle.weedle_grammar.proofs.Unique.{one_outcome}
use Rattle.weedle_grammar.proofs.Exists.{has_outcome}
use Rattle.weedle_grammar.proofs.Shift.{behind}
use Rattle.weedle_grammar.proofs.Boundary.{ends_at_boundary}

-- the first law: one outcome
pub one : (text : List ℕ) (r p : ℕ) → p ≤ length text → HasOneOutcome text r p
one text r p fits = let h = has_outcome webidl text rank takes ranked r p fits in (h.0, h.1, λ other d. one_outcome d h.1 refl)

-- from the front of what is left to the place in the text
pub forth : (text : List ℕ) (r p : ℕ) (o : Outcome) → Reads (drop p text) r 0 o → Reads text r p (moved p o)
forth text r p o d = let e : p + 0 ≡ p = omega arith in subst (λ z. Reads text r z (moved p o)) e (behind webidl text p d)

same_end : (p : ℕ) (o other : Outcome) → moved p o ≡ moved p other → o ≡ other
same_end p Fails Fails e = refl
same_end p Fails (Gives ts q) e = cc
same_end p (Gives ts q) Fails e = cc
same_end p (Gives ts q) (Gives us z) e = let a : p + q ≡ p + z = cc in let b : q ≡ z = omega arith in cc

-- and from the place in the text to the front of what is left
pub back : (text : List ℕ) (r p : ℕ) (o : Outcome) → Reads text r p (moved p o) → Reads (drop p text) r 0 o
back text r p o d =
    let h = has_outcome webidl (drop p text) rank takes ranked r 0 (omega arith) in
    subst (λ z. Reads (drop p text) r 0 z) (same_end p h.0 o (one_outcome (forth text r p h.0 h.1) d refl)) h.1

-- the second law: a rule does the same at the front of what is left
pub shifted : (text : List ℕ) (r p : ℕ) → IsShifted text r p
shifted text r p o = (forth text r p o, back text r p o)

-- the third law: from a boundary every end is a boundary
pub at_boundary : (text : List ℕ) (r p : ℕ) → IsUtf8 text → IsCharBoundary text p → EndsAtBoundary text r p
at_boundary text r p utf8 h ts end d = ends_at_boundary text utf8 webidl safe d h
