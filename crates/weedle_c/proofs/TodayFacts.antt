-- Today's rule of a whole text never fails.
use Rattle.std.proofs.Common.{◌≡◌, ℕ, ◌<◌, List, None, refl, sym, ◌∙◌, arith}
use Rattle.weedle_grammar.specs.Rows.{Many}
use Rattle.weedle_grammar.specs.Trees.{Tree, Fails}
use Rattle.weedle_grammar.specs.Meaning.{Raw, Breaks, Yields, before, ReadsRow, many_end, many_stuck, many_more}
use Rattle.weedle_grammar.specs.written.Table.{webidl}
use Rattle.weedle_grammar.specs.written.Table.TodayDefinitions.{TODAY_PIECE, TODAY_DEFINITIONS}
use Rattle.weedle_grammar.proofs.Takes.{takes}
use Rattle.weedle_grammar.proofs.Checked.{rank, ranked}
use Rattle.weedle_grammar.proofs.Exists.{advances}
use Rattle.weedle_rules.specs.Cells.{HasEnd}
use Rattle.weedle_rules.specs.Outcomes.{FailsAt}
use Rattle.weedle_rules.proofs.RowEnds.{raw_end, row_ends}

breaks_before : (ts : List Tree) (w : Raw) → before ts w ≡ Breaks → w ≡ Breaks
breaks_before ts Breaks e = refl
breaks_before ts (Yields us ends q) e = cc

breaks : (w : Raw) → None ≡ raw_end w → w ≡ Breaks
breaks Breaks e = refl
breaks (Yields us ends q) e = cc

many_never : {text : List ℕ} {p : ℕ} {w : Raw} → ReadsRow webidl text (Many TODAY_PIECE) p w → w ≡ Breaks → ⊥
many_never (many_end d e) h = cc
many_never {text} {p} (many_stuck {q = q} d s e) h = let on : p < q = advances webidl text rank takes ranked d refl in absurd (omega arith)
many_never (many_more {ts = ts} {w = v} d n m e) h = many_never m (breaks_before ts v (sym e ∙ h))

pub never_fails : (text : List ℕ) (p : ℕ) → FailsAt text TODAY_DEFINITIONS p → ⊥
never_fails text p f =
    let none : HasEnd text TODAY_DEFINITIONS p None = record { outcome = Fails; reads = f; is = refl } in
    let m = row_ends {row = Many TODAY_PIECE} refl none in
    many_never m.reads (breaks m.raw m.is)
