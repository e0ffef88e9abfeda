-- What is promised of the nodes of a dialect's rule that is read at the front of a text.
use Rattle.std.proofs.Common.{◌≡◌, ℕ, ◌<◌, true, List, [], ◌∷◌, length, sym, subst, ap, ◌∙◌, refl, arith}
use Rattle.std.specs.Prelude.{All, IsUtf8, IsCharBoundary}
use Rattle.std.proofs.lemmas.Str.{IsCharBoundary-start}
use Rattle.weedle_grammar.specs.Meaning.{between}
use Rattle.weedle_grammar.specs.Rows.{Many}
use Rattle.weedle_grammar.specs.Trees.{Fails}
use Rattle.weedle_grammar.specs.written.Bound.{rule_count}
use Rattle.weedle_grammar.specs.written.Table.{row_of}
use Rattle.weedle_grammar.proofs.GrammarFacts.{at_boundary}
use Rattle.weedle_grammar.proofs.Takes.{takes}
use Rattle.weedle_rules.specs.Outcomes.{EndsAt, FailsAt}
use Rattle.weedle_rules.proofs.OutcomeFacts.{one_end}
use Rattle.weedle_syntax.specs.declared.dialect.Dialect.{Dialect}
use Rattle.weedle_syntax.specs.declared.dialect.Dialect.TheVariants.{Weedle2, Today}
use Rattle.weedle_syntax.specs.declared.node.Node.{Node}
use Rattle.weedle_syntax.specs.Dialects.{start_of, item_of, IsWholeIn, IsFrontIn, IsSyntaxIn}
use Rattle.weedle_syntax.specs.Syntax.{node_to, IsRuleTo, IsRead, leaves_of, rest_of, a_tree}
use Rattle.weedle_syntax.proofs.ChildFacts.{each_so}
use Rattle.weedle_syntax.proofs.EachFacts.{Sits, each_all, all_sit}
use Rattle.weedle_syntax.proofs.FrontFacts.{many_reads}
use Rattle.weedle_syntax.proofs.LeafFacts.{leaves_are, whole_between}
use Rattle.weedle_syntax.proofs.TreeFacts.{nodes_of}

-- the first node's end
node_first : (text : List ℕ) (r end : ℕ) (ns : List Node) → IsRuleTo text r end ns → rest_of ns ≡ end
node_first text r end ns (a_tree p a b e) = ap rest_of e

rule_joins : (text : List ℕ) (r end : ℕ) (ns : List Node) → IsRuleTo text r end ns → leaves_of text ns ≡ between text 0 end
rule_joins text r end ns h = leaves_are text ns (node_to r end ∷ []) 0 end 0 (nodes_of text (node_to r end ∷ []) ns h) (refl, omega arith, refl) (omega arith, tt)

rule_read : (text : List ℕ) (r end : ℕ) (ns : List Node) → r < rule_count → IsUtf8 text → EndsAt text r 0 end → IsRuleTo text r end ns → All (IsRead text) ns
rule_read text r end ns low utf8 w h =
    let b : IsCharBoundary text 0 = IsCharBoundary-start text utf8 in
    let root : Sits text (node_to r end) = record { low = low; within = omega arith; reads = w; starts = b; ends = at_boundary text r 0 utf8 b w.0 end w.1 } in
    each_all (IsRead text) ns (each_so (Sits text) (IsRead text) ns (λ n s. record { reads = s.reads; starts = s.starts; ends = s.ends }) (all_sit text utf8 ns (node_to r end ∷ []) (nodes_of text (node_to r end ∷ []) ns h) (root, tt)))

start_low : (dialect : Dialect) → start_of dialect < rule_count
start_low Weedle2 = omega arith
start_low Today = omega arith

-- the rule of a whole text is a repetition
pub start_row : (dialect : Dialect) → row_of (start_of dialect) ≡ Many (item_of dialect)
start_row Weedle2 = refl
start_row Today = refl

item_takes : (dialect : Dialect) → takes (item_of dialect) ≡ true
item_takes Weedle2 = refl
item_takes Today = refl

-- so it is read everywhere
pub start_reads : (dialect : Dialect) (text : List ℕ) (p : ℕ) → FailsAt text (start_of dialect) p → ⊥
start_reads dialect text p d = many_reads text (start_of dialect) (item_of dialect) p (start_row dialect) (item_takes dialect) (record { outcome = Fails; reads = d; is = refl })

-- of nodes at the front each was read
pub front_each_read : (dialect : Dialect) (text : List ℕ) (ns : List Node) → IsUtf8 text → IsFrontIn dialect text ns → All (IsRead text) ns
front_each_read dialect text ns utf8 (end, w, h) = rule_read text (start_of dialect) end ns (start_low dialect) utf8 w h

-- nodes whose first ends with the text are those of the whole text
module _ (dialect : Dialect) (text : List ℕ) (ns : List Node) (front : IsFrontIn dialect text ns) where
  module _ (all : rest_of ns ≡ length text) where
    same : front.0 ≡ length text
    same = sym (node_first text (start_of dialect) front.0 ns front.2) ∙ all

    pub front_is_whole : IsWholeIn dialect text
    front_is_whole = subst (EndsAt text (start_of dialect) 0) same front.1

    pub front_is_syntax : IsSyntaxIn dialect text ns
    front_is_syntax = subst (λ e. IsRuleTo text (start_of dialect) e ns) same front.2

    pub front_is_lossless : leaves_of text ns ≡ text
    front_is_lossless = rule_joins text (start_of dialect) (length text) ns front_is_syntax ∙ whole_between text

    pub front_is_read : IsUtf8 text → All (IsRead text) ns
    front_is_read utf8 = rule_read text (start_of dialect) (length text) ns (start_low dialect) utf8 front_is_whole front_is_syntax

  -- where it ends before, the text isn't read whole
  pub front_ends_before : {A : Type 0} → (rest_of ns ≡ length text → ⊥) → IsWholeIn dialect text → A
  front_ends_before n w = absurd (n (node_first text (start_of dialect) front.0 ns front.2 ∙ sym (one_end front.1 w)))
