-- Trivia never fails; where a token ends.
use Rattle.std.proofs.Common.{◌≡◌, ℕ, suc, ◌+◌, ◌<◌, ◌≤◌, Bool, true, false, if◌then◌else◌, List, [], ◌∷◌, drop, length, None, refl, sym, subst, ◌∙◌, arith}
use Rattle.std.proofs.lemmas.List.{length-drop}
use Rattle.weedle_grammar.specs.Rows.{Many, is_in, run_length}
use Rattle.weedle_grammar.specs.declared.class.Class.{Class}
use Rattle.weedle_grammar.specs.declared.class.Class.TheVariants.{NotQuote}
use Rattle.weedle_recovery.specs.Tokens.{string_end, string_end_at}
use Rattle.weedle_grammar.specs.Trees.{Tree}
use Rattle.weedle_grammar.specs.Meaning.{Raw, Breaks, Yields, before, ReadsRow, many_end, many_stuck, many_more}
use Rattle.weedle_grammar.specs.written.Table.{webidl}
use Rattle.weedle_grammar.specs.written.Table.Trivia.{PIECE, TRIVIA}
use Rattle.weedle_grammar.proofs.Takes.{takes}
use Rattle.weedle_grammar.proofs.Checked.{rank, ranked}
use Rattle.weedle_grammar.proofs.Exists.{advances}
use Rattle.weedle_rules.specs.Cells.{HasEnd}
use Rattle.weedle_rules.proofs.RowEnds.{raw_end, row_ends}

breaks_before : (ts : List Tree) (w : Raw) → before ts w ≡ Breaks → w ≡ Breaks
breaks_before ts Breaks e = refl
breaks_before ts (Yields us ends q) e = cc

breaks : (w : Raw) → None ≡ raw_end w → w ≡ Breaks
breaks Breaks e = refl
breaks (Yields us ends q) e = cc

many_never : {text : List ℕ} {p : ℕ} {w : Raw} → ReadsRow webidl text (Many PIECE) p w → w ≡ Breaks → ⊥
many_never (many_end d e) h = cc
many_never {text} {p} (many_stuck {q = q} d s e) h = let on : p < q = advances webidl text rank takes ranked d refl in absurd (omega arith)
many_never (many_more {ts = ts} {w = v} d n m e) h = many_never m (breaks_before ts v (sym e ∙ h))

-- whitespace and comments never fail
pub trivia_never_fails : (text : List ℕ) (p : ℕ) → HasEnd text TRIVIA p None → ⊥
trivia_never_fails text p h = let m = row_ends {row = Many PIECE} refl h in many_never m.reads (breaks m.raw m.is)

run_short : (class : Class) (bytes : List ℕ) → run_length class bytes ≤ length bytes
run_short class [] = omega arith
run_short class (b ∷ bytes) = by_class (is_in class b) (run_short class bytes)
  where
    by_class : (t : Bool) → run_length class bytes ≤ length bytes → (if t then suc (run_length class bytes) else 0) ≤ suc (length bytes)
    by_class true l = omega (arith, l)
    by_class false l = omega arith

-- a run ends inside the text
pub run_within : (class : Class) (text : List ℕ) (p : ℕ) → p ≤ length text → p + run_length class (drop p text) ≤ length text
run_within class text p l = omega (arith, l, run_short class (drop p text), length-drop p text)

-- where a string ends, by where its inside begins and ends
pub string_ends : (text : List ℕ) (p inside quote : ℕ) → inside ≡ p + 1 → quote ≡ inside + run_length NotQuote (drop inside text)
    → string_end_at text inside quote ≡ string_end text p
string_ends text p inside quote i q =
    subst (λ z. string_end_at text inside z ≡ string_end text p) (sym q)
    (subst (λ z. string_end_at text z (z + run_length NotQuote (drop z text)) ≡ string_end text p) (sym i) refl)
