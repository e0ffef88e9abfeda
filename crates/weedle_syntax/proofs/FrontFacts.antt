-- What is read at the front of a text: repetitions never fail; what is promised of the nodes of definitions.
use Rattle.std.proofs.Common.{◌≡◌, ℕ, ◌-◌, ◌<◌, List, true, None, refl, sym, ◌∙◌, ap, arith, length, take}
use Rattle.std.specs.Prelude.{All, IsUtf8}
use Rattle.weedle_grammar.specs.Rows.{Many}
use Rattle.weedle_grammar.specs.Trees.{Tree}
use Rattle.weedle_grammar.specs.Meaning.{Raw, Breaks, Yields, before, ReadsRow, many_end, many_stuck, many_more}
use Rattle.weedle_grammar.specs.written.Table.{webidl, row_of}
use Rattle.weedle_grammar.specs.written.Table.Definitions.{DEFINITION, DEFINITIONS}
use Rattle.weedle_grammar.proofs.Takes.{takes}
use Rattle.weedle_grammar.proofs.Checked.{rank, ranked}
use Rattle.weedle_grammar.proofs.Exists.{advances}
use Rattle.weedle_rules.specs.Cells.{HasEnd}
use Rattle.weedle_rules.proofs.RowEnds.{raw_end, row_ends}
use Rattle.weedle_rules.proofs.OutcomeFacts.{one_end}
use Rattle.weedle_syntax.specs.declared.node.Node.{Node}
use Rattle.weedle_syntax.specs.Syntax.{RestBegins, IsWhole, IsSyntaxTo, IsSyntax, IsRead, leaves_of, rest_of, a_tree}
use Rattle.weedle_syntax.proofs.LeafFacts.{syntax_joins, whole_between}
use Rattle.weedle_syntax.proofs.EachFacts.{each_is_read}

breaks_before : (ts : List Tree) (w : Raw) → before ts w ≡ Breaks → w ≡ Breaks
breaks_before ts Breaks e = refl
breaks_before ts (Yields us ends q) e = cc

breaks : (w : Raw) → None ≡ raw_end w → w ≡ Breaks
breaks Breaks e = refl
breaks (Yields us ends q) e = cc

many_never : {text : List ℕ} {y p : ℕ} {w : Raw} → takes y ≡ true → ReadsRow webidl text (Many y) p w → w ≡ Breaks → ⊥
many_never t (many_end d e) h = cc
many_never {text} {p = p} t (many_stuck {q = q} d s e) h = let on : p < q = advances webidl text rank takes ranked d t in absurd (omega arith)
many_never t (many_more {ts = ts} {w = v} d n m e) h = many_never t m (breaks_before ts v (sym e ∙ h))

-- a repetition of what takes a byte never fails
pub many_reads : (text : List ℕ) (r y p : ℕ) → row_of r ≡ Many y → takes y ≡ true → HasEnd text r p None → ⊥
many_reads text r y p is t h = let m = row_ends {row = Many y} is h in many_never t m.reads (breaks m.raw m.is)

-- so the rule of definitions doesn't
pub never_fails : (text : List ℕ) (p : ℕ) → HasEnd text DEFINITIONS p None → ⊥
never_fails text p h = many_reads text DEFINITIONS DEFINITION p refl refl h

-- the first node's end
root_first : (text : List ℕ) (end : ℕ) (ns : List Node) → IsSyntaxTo text end ns → rest_of ns ≡ end
root_first text end ns (a_tree p a b e) = ap rest_of e

module _ (text : List ℕ) (ns : List Node) where
  -- of the nodes up to a place
  pub front_joins : (end : ℕ) → IsSyntaxTo text end ns → leaves_of text ns ≡ take (rest_of ns) text
  front_joins end h =
      let same : end - 0 ≡ rest_of ns = omega (arith, root_first text end ns h) in
      syntax_joins text end ns h ∙ ap (λ e. take e text) same

  -- of a whole text
  pub whole_joins : IsSyntax text ns → leaves_of text ns ≡ text
  whole_joins h = syntax_joins text (length text) ns h ∙ whole_between text

  pub whole_read : IsUtf8 text → IsWhole text → IsSyntax text ns → All (IsRead text) ns
  whole_read utf8 w h = each_is_read text utf8 (length text) ns w h

-- a text isn't read whole where the remaining input begins before its end
pub not_whole : {A : Type 0} (text : List ℕ) (end : ℕ) → RestBegins text end → (end ≡ length text → ⊥) → IsWhole text → A
not_whole text end h n w = absurd (n (one_end w h))
