-- The whole text.
use Rattle.std.proofs.Common.{◌≡◌, ℕ, ◌+◌, ◌*◌, ◌^◌, ◌≤◌, ◌<◌, List, [], ◌∷◌, length, true, refl, sym, ◌∙◌, arith}
use Rattle.std.specs.Prelude.{IsUtf8, IsCharBoundary}
use Rattle.std.proofs.lemmas.Str.{IsCharBoundary-start}
use Rattle.weedle_grammar.specs.Rows.{Row, Many}
use Rattle.weedle_grammar.specs.Trees.{Tree, Outcome, Fails, Gives}
use Rattle.weedle_grammar.specs.Meaning.{Shape, Raw, Breaks, Yields, before, shaped, ReadsRow, many_end, many_stuck, many_more}
use Rattle.weedle_grammar.specs.written.Table.{webidl, shape_of, Reads}
use Rattle.weedle_grammar.specs.written.Table.Definitions.{DEFINITION, DEFINITIONS}
use Rattle.weedle_grammar.proofs.Inversion.{at_row}
use Rattle.weedle_grammar.proofs.Takes.{takes}
use Rattle.weedle_grammar.proofs.Checked.{ranked}
use Rattle.weedle_grammar.proofs.Exists.{advances, stays_inside}
use Rattle.weedle_grammar.proofs.GrammarFacts.{one, at_boundary}
use Rattle.weedle_grammar.proofs.Size.{bounded}
use Rattle.weedle_grammar.specs.Size.{size, total_size}
use Rattle.weedle_memo.specs.Wanted.{at_first}
use Rattle.weedle_build_base.specs.Built.{Due, Builds}

before_breaks : (ts : List Tree) (w : Raw) → before ts w ≡ Breaks → w ≡ Breaks
before_breaks ts Breaks e = refl
before_breaks ts (Yields us ends q) e = cc

-- a rule that repeats one that takes a byte doesn't fail
many_goes : {text : List ℕ} {x p : ℕ} {w : Raw} → ReadsRow webidl text (Many x) p w → takes x ≡ true → w ≡ Breaks → ⊥
many_goes (many_end d e) t b = cc
many_goes {text} {x} {p} (many_stuck {q = q} d s e) t b = let a : p < q = advances webidl text (λ r. r) takes ranked d t in omega arith
many_goes (many_more {ts = ts} {w = w} d n m e) t b = many_goes m t (before_breaks ts w (sym e ∙ b))

shaped_fails : (text : List ℕ) (row : Row) (shape : Shape) (p : ℕ) (w : Raw) → Fails ≡ shaped text row shape p w → w ≡ Breaks
shaped_fails text row shape p Breaks e = refl
shaped_fails text row shape p (Yields ts ends q) e = cc

whole_from : {text : List ℕ} (o : Outcome) → IsUtf8 text → Reads text DEFINITIONS 0 o → Due text DEFINITIONS 0
whole_from {text} Fails u d = absurd (let h = at_row {row = Many DEFINITION} refl d in many_goes h.1 refl (shaped_fails text (Many DEFINITION) (shape_of DEFINITIONS) 0 h.0 h.2))
whole_from {text} (Gives ts e) u d = record { given = ts; end = e; reads = d; wanted = at_first (refl, refl); utf8 = u; boundary = IsCharBoundary-start text u }

-- the whole reads something on each text
pub whole_due : (text : List ℕ) → IsUtf8 text → Due text DEFINITIONS 0
whole_due text u = let o = one text DEFINITIONS 0 (omega arith) in whole_from o.0 u o.1

module _ {text : List ℕ} {r : ℕ} {t : Tree} {q w : ℕ} (u : IsUtf8 text) (g : Builds text r t 0 0 q w) (due : Due text r 0) where
  -- it ends where a character begins
  pub whole_boundary : IsCharBoundary text q
  whole_boundary = at_boundary text r 0 u due.boundary (t ∷ []) q g.reads

  small : size t ≤ 10000 * (length text + 1)
  small =
      let a : total_size (t ∷ []) + 10000 * 0 ≤ 10000 * q + 2 = bounded text r 0 (t ∷ []) q g.reads in
      let b : q ≤ length text = stays_inside webidl text g.reads (omega arith) in
      omega arith

  module _ (fits : length text < 2 ^ 64) where
    -- the count didn't stop short
    pub whole_counts : w ≡ size t
    whole_counts = let a = small in omega (arith, g.counts)

    pub whole_few : w ≤ 10000 * (length text + 1)
    whole_few = let a = small in omega (arith, g.counts)
