-- Where the remaining input begins behind the nodes of what is at the front of a text; definitions never fail there.
use Rattle.std.proofs.Common.{◌≡◌, ◌<◌, ◌≤◌, ◌∙◌, ℕ, List, ◌∷◌, ◌++◌, length, true, None, ap, refl, subst, sym, arith}
use Rattle.weedle_grammar.proofs.Checked.{rank, ranked}
use Rattle.weedle_grammar.proofs.Exists.{advances, stays_inside}
use Rattle.weedle_grammar.proofs.Takes.{takes}
use Rattle.weedle_grammar.specs.Meaning.{Raw, Breaks, Yields, before, ReadsRow, many_end, many_stuck, many_more}
use Rattle.weedle_grammar.specs.Rows.{Many}
use Rattle.weedle_grammar.specs.Trees.{Tree, Fails}
use Rattle.weedle_grammar.specs.written.Table.{webidl, row_of}
use Rattle.weedle_grammar.specs.written.Table.Definitions.{DEFINITION}
use Rattle.weedle_grammar.specs.written.Table.TodayDefinitions.{TODAY_PIECE}
use Rattle.weedle_rules.proofs.RowEnds.{raw_end, row_ends}
use Rattle.weedle_rules.specs.Cells.{HasEnd}
use Rattle.weedle_rules.specs.Outcomes.{EndsAt, FailsAt}
use Rattle.weedle_syntax.specs.Dialects.{start_of}
use Rattle.weedle_syntax.specs.Syntax.{RestBegins, IsFront, IsSyntaxTo, IsRuleFront, IsRuleTo, node_to, rest_of, root_to, a_tree}
use Rattle.weedle_syntax.specs.declared.dialect.Dialect.{Dialect}
use Rattle.weedle_syntax.specs.declared.dialect.Dialect.TheVariants.{Weedle2, Today}
use Rattle.weedle_syntax.specs.declared.node.Node.{Node}

-- the root comes first
root_first : (text : List ℕ) (end : ℕ) (ns : List Node) → IsSyntaxTo text end ns → (below : List Node) × (ns ≡ root_to end ∷ below)
root_first text end ns (a_tree {below = below} {behind = behind} p a b e) = (below ++ behind, e)

module _ {text : List ℕ} {ns : List Node} (front : IsFront text ns) where
  first : (below : List Node) × (ns ≡ root_to front.0 ∷ below)
  first = root_first text front.0 ns front.2

  -- there is a node
  pub some_nodes : 0 < length ns
  some_nodes = omega (arith, ap length first.1)

  -- the remaining input begins where the first of them ends
  pub rest_begins : RestBegins text (rest_of ns)
  rest_begins = let at : rest_of ns ≡ front.0 = ap rest_of first.1 in subst (RestBegins text) (sym at) front.1

  pub rest_within : rest_of ns ≤ length text
  rest_within = stays_inside webidl text rest_begins.1 (omega arith)

-- the same of any rule: its node comes first
node_first : (text : List ℕ) (s end : ℕ) (ns : List Node) → IsRuleTo text s end ns → (below : List Node) × (ns ≡ node_to s end ∷ below)
node_first text s end ns (a_tree {below = below} {behind = behind} p a b e) = (below ++ behind, e)

module _ {text : List ℕ} {s : ℕ} {ns : List Node} (front : IsRuleFront text s ns) where
  rule_ends : rest_of ns ≡ front.0
  rule_ends = ap rest_of (node_first text s front.0 ns front.2).1

  pub rule_begins : EndsAt text s 0 (rest_of ns)
  rule_begins = subst (EndsAt text s 0) (sym rule_ends) front.1

  pub rule_within : rest_of ns ≤ length text
  rule_within = stays_inside webidl text rule_begins.1 (omega arith)

breaks_before : (ts : List Tree) (w : Raw) → before ts w ≡ Breaks → w ≡ Breaks
breaks_before ts Breaks e = refl
breaks_before ts (Yields us ends q) e = cc

breaks : (w : Raw) → None ≡ raw_end w → w ≡ Breaks
breaks Breaks e = refl
breaks (Yields us ends q) e = cc

many_never : {text : List ℕ} {x p : ℕ} {w : Raw} → takes x ≡ true → ReadsRow webidl text (Many x) p w → w ≡ Breaks → ⊥
many_never some (many_end d e) h = cc
many_never {text} {x} {p} some (many_stuck {q = q} d s e) h = let further : p < q = advances webidl text rank takes ranked d some in absurd (omega arith)
many_never some (many_more {ts = ts} {w = v} d n m e) h = many_never some m (breaks_before ts v (sym e ∙ h))

-- a repetition of what takes a byte never fails
repeats : (text : List ℕ) (s x p : ℕ) → row_of s ≡ Many x → takes x ≡ true → FailsAt text s p → ⊥
repeats text s x p is some fails =
    let ended : HasEnd text s p None = record { outcome = Fails; reads = fails; is = refl } in
    let m = row_ends {row = Many x} is ended in
    many_never some m.reads (breaks m.raw m.is)

-- the rule of a whole text never fails
pub never_fails : (dialect : Dialect) (text : List ℕ) (p : ℕ) → FailsAt text (start_of dialect) p → ⊥
never_fails Weedle2 text p fails = repeats text (start_of Weedle2) DEFINITION p refl refl fails
never_fails Today text p fails = repeats text (start_of Today) TODAY_PIECE p refl refl fails
