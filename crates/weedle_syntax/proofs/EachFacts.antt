-- Each node of a text was read, from a boundary to a boundary.
use Rattle.std.proofs.Common.{◌≡◌, ◌⊎◌, inl, inr, ℕ, ◌+◌, ◌<◌, ◌≤◌, List, [], ◌∷◌, ◌++◌, length, sym, subst, arith}
use Rattle.std.specs.Prelude.{All, IsUtf8, IsCharBoundary}
use Rattle.std.proofs.lemmas.List.Elements.{All-nil, All-cons}
use Rattle.std.proofs.lemmas.Str.{IsCharBoundary-start}
use Rattle.weedle_grammar.specs.written.Bound.{rule_count}
use Rattle.weedle_grammar.specs.written.Table.{row_of}
use Rattle.weedle_grammar.specs.written.Table.Definitions.{DEFINITIONS}
use Rattle.weedle_grammar.proofs.GrammarFacts.{at_boundary}
use Rattle.weedle_rules.specs.Outcomes.{EndsAt}
use Rattle.weedle_syntax.specs.declared.node.Node.{Node}
use Rattle.weedle_syntax.specs.Parts.{HasParts}
use Rattle.weedle_syntax.specs.Syntax.{RestBegins, root_to, IsSyntaxTo, IsRead}
use Rattle.weedle_syntax.proofs.TreeFacts.{AreNodes, nodes_of}
use Rattle.weedle_syntax.proofs.ChildFacts.{Each, each_append, each_so, IsChild, parts_are_children}
use Rattle.weedle_syntax.proofs.LeafFacts.{Tile, Level, row_covers}

-- a node that was read, from a boundary on
pub record Sits (text : List ℕ) (n : Node) : Type 0 where
  pub low : n.rule < rule_count
  pub within : n.start ≤ length text
  pub reads : EndsAt text n.rule n.start n.end
  pub starts : IsCharBoundary text n.start
  pub ends : IsCharBoundary text n.end

pub each_all : (P : Node → Type 0) (ns : List Node) → Each P ns → All P ns
each_all P [] h = All-nil P
each_all P (n ∷ ns) h = All-cons P n ns h.0 (each_all P ns h.1)

module _ (text : List ℕ) (utf8 : IsUtf8 text) where
  -- nodes that lie end to end from a boundary on
  tiles_sit : (r p d q e : ℕ) (ns : List Node) → IsCharBoundary text q → Tile q e ns → Each (IsChild text r p d) ns → Each (Sits text) ns
  tiles_sit r p d q e [] b t h = tt
  tiles_sit r p d q e (n ∷ ns) b t h =
      let c = h.0 in
      let start : IsCharBoundary text n.start = subst (IsCharBoundary text) (sym t.0) b in
      let end : IsCharBoundary text n.end = at_boundary text n.rule n.start utf8 start c.reads.0 n.end c.reads.1 in
      (record { low = c.low; within = c.within; reads = c.reads; starts = start; ends = end }, tiles_sit r p d n.end e ns end t.2 h.1)

  parts_sit : (n : Node) (ns : List Node) → Sits text n → HasParts text n ns → (ns ≡ []) ⊎ (Tile n.start n.end ns × Level (n.depth + 1) ns) → Each (Sits text) ns
  parts_sit n ns s h (inl e) = subst (Each (Sits text)) (sym e) tt
  parts_sit n ns s h (inr t) = tiles_sit n.rule n.start (n.depth + 1) n.start n.end ns s.starts t.0 (parts_are_children text n ns s.within s.low s.reads h)

  pub all_sit : (ns w : List Node) → AreNodes text w ns → Each (Sits text) w → Each (Sits text) ns
  all_sit [] w a h = tt
  all_sit (n ∷ ns) w (inner, others, is, parts, a) h =
      let s = subst (Each (Sits text)) is h in
      (s.0, all_sit ns (inner ++ others) a (each_append (Sits text) inner others (parts_sit n inner s.0 parts (row_covers text (n.depth + 1) (row_of n.rule) n.start n.end inner parts)) s.1))

  pub each_is_read : (end : ℕ) (ns : List Node) → RestBegins text end → IsSyntaxTo text end ns → All (IsRead text) ns
  each_is_read end ns w h =
      let b : IsCharBoundary text 0 = IsCharBoundary-start text utf8 in
      let root : Sits text (root_to end) = record { low = omega arith; within = omega arith; reads = w; starts = b; ends = at_boundary text DEFINITIONS 0 utf8 b w.0 end w.1 } in
      each_all (IsRead text) ns (each_so (Sits text) (IsRead text) ns (λ n s. record { reads = s.reads; starts = s.starts; ends = s.ends }) (all_sit ns (root_to end ∷ []) (nodes_of text (root_to end ∷ []) ns h) (root, tt)))
