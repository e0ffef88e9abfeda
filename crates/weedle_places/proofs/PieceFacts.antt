-- The definition in a node below the root, and the choice among the kinds of definitions in it.
use Rattle.std.proofs.Common.{◌≡◌, inl, inr, ℕ, ◌+◌, ◌<◌, List, [], ◌∷◌, length, map, Some, refl, sym, subst}
use Rattle.weedle_grammar.specs.written.Table.{row_of}
use Rattle.weedle_grammar.specs.written.Table.TodayWords.{TODAY_DOC, TODAY_DOCS, TODAY_LAST_DOC, TODAY_TRIVIA}
use Rattle.weedle_grammar.specs.written.Table.TodayTypes.{TODAY_ATTRIBUTE_LISTS}
use Rattle.weedle_grammar.specs.written.Table.TodayDefinitions.{TODAY_DEFINITION, TODAY_DEFINITION_KIND, TODAY_PIECE}
use Rattle.weedle_rules.specs.Outcomes.{EndsAt, FailsAt}
use Rattle.weedle_syntax.specs.declared.dialect.Dialect.{Dialect}
use Rattle.weedle_syntax.specs.declared.dialect.Dialect.TheVariants.{Weedle2, Today}
use Rattle.weedle_syntax.specs.declared.node.Node.{Node}
use Rattle.weedle_syntax.specs.Dialects.{item_of, IsFrontIn}
use Rattle.weedle_syntax.specs.Parts.{AreInTurn, IsFirst, AreParts}
use Rattle.weedle_syntax.specs.Tree.{node_at, children_of}
use Rattle.weedle_syntax.proofs.InnerFacts.{children_are_parts}
use Rattle.weedle_places.specs.Members.{IsBehindFront}
use Rattle.weedle_places.specs.Placed.{IsDefinition, FindsDefinition}
use Rattle.weedle_places.proofs.NameFacts.{children_within}
use Rattle.weedle_places.proofs.NumberFacts.{AreBelow}
use Rattle.weedle_places.proofs.PartFacts.{one_node}

-- by weedle2's rules the definition is the node itself
pub itself : (dialect : Dialect) (text : List ℕ) (ns : List Node) (i : ℕ) → dialect ≡ Weedle2 → i < length ns → (node_at ns i).rule ≡ item_of dialect → EndsAt text (item_of dialect) (node_at ns i).start (node_at ns i).end
    → FindsDefinition dialect text ns i (Some i)
itself Weedle2 text ns i is l rule reads = record { within = l; rule = rule; starts = refl; ends = refl; reads = reads }
itself Today text ns i is l rule reads = absurd (let n : ⊥ = cc in n)

-- the one node that a choice reads directly; where it isn't of the first alternative, that one fails
module _ (text : List ℕ) (ns : List Node) (d start e : ℕ) where
  pub record IsHeld (r : ℕ) (left : List ℕ) : Type 0 where
    pub kind : ℕ
    pub are : left ≡ kind ∷ []
    pub within : kind < length ns
    pub starts : (node_at ns kind).start ≡ start
    pub ends : (node_at ns kind).end ≡ e
    pub reads : EndsAt text (node_at ns kind).rule start (node_at ns kind).end
    pub fails : ((node_at ns kind).rule ≡ r → ⊥) → FailsAt text r start

  some_alternative : (rs : List ℕ) (left : List ℕ) → IsFirst text rs d start e (map (node_at ns) left)
      → (k : ℕ) × (left ≡ k ∷ []) × ((node_at ns k).start ≡ start) × ((node_at ns k).end ≡ e) × EndsAt text (node_at ns k).rule start (node_at ns k).end
  some_alternative [] left h = absurd h
  some_alternative (r ∷ rs) left (inl h) =
      let n = one_node text ns d start e r left h in
      (n.0, n.1, n.2.start_is, n.3, subst (λ z. EndsAt text z start (node_at ns n.0).end) (sym n.2.rule_is) n.2.reads)
  some_alternative (r ∷ rs) left (inr h) = some_alternative rs left h.1

  pub held : (r : ℕ) (rs left : List ℕ) → IsFirst text (r ∷ rs) d start e (map (node_at ns) left) → AreBelow (length ns) left → IsHeld r left
  held r rs left (inl h) b =
      let n = one_node text ns d start e r left h in
      record {
        kind = n.0;
        are = n.1;
        within = (subst (AreBelow (length ns)) n.1 b).0;
        starts = n.2.start_is;
        ends = n.3;
        reads = subst (λ z. EndsAt text z start (node_at ns n.0).end) (sym n.2.rule_is) n.2.reads;
        fails = λ z. absurd (z n.2.rule_is);
      }
  held r rs left (inr h) b =
      let n = some_alternative rs left h.1 in
      record { kind = n.0; are = n.1; within = (subst (AreBelow (length ns)) n.1 b).0; starts = n.2; ends = n.3; reads = n.4; fails = λ z. h.0 }

module _ (dialect : Dialect) (text : List ℕ) (ns : List Node) (front : IsFrontIn dialect text ns) (i : ℕ) (l : i < length ns) where
  -- what today's piece holds
  pub piece_held : (node_at ns i).rule ≡ TODAY_PIECE → IsHeld text ns ((node_at ns i).depth + 1) (node_at ns i).start (node_at ns i).end TODAY_DEFINITION (children_of ns i)
  piece_held is =
      held text ns ((node_at ns i).depth + 1) (node_at ns i).start (node_at ns i).end TODAY_DEFINITION (TODAY_DOC ∷ TODAY_LAST_DOC ∷ TODAY_TRIVIA ∷ []) (children_of ns i)
      (subst (λ r. AreParts text (row_of r) ((node_at ns i).depth + 1) (node_at ns i).start (node_at ns i).end (map (node_at ns) (children_of ns i))) is (children_are_parts dialect text ns i front l))
      (children_within dialect text ns front i l)

  -- the parts of today's definition: docstrings, extended attributes, the choice among the kinds
  pub record FrontParts : Type 0 where
    pub docs : ℕ
    pub attributes : ℕ
    pub choice : ℕ
    pub are : children_of ns i ≡ docs ∷ attributes ∷ choice ∷ []
    pub within : choice < length ns
    pub rule : (node_at ns choice).rule ≡ TODAY_DEFINITION_KIND
    pub begins : IsBehindFront text (node_at ns i).start (node_at ns choice).start

  pub front_parts : (node_at ns i).rule ≡ TODAY_DEFINITION → FrontParts
  front_parts is =
      let parts = children_are_parts dialect text ns i front l in
      let turn = subst (λ r. AreParts text (row_of r) ((node_at ns i).depth + 1) (node_at ns i).start (node_at ns i).end (map (node_at ns) (children_of ns i))) is parts in
      by (children_of ns i) refl turn (children_within dialect text ns front i l)
    where
      by : (cs : List ℕ) → children_of ns i ≡ cs → AreInTurn text (TODAY_DOCS ∷ TODAY_ATTRIBUTE_LISTS ∷ TODAY_DEFINITION_KIND ∷ []) ((node_at ns i).depth + 1) (node_at ns i).start (node_at ns i).end (map (node_at ns) cs) → AreBelow (length ns) cs
          → FrontParts
      by [] e t b = absurd t
      by (a ∷ []) e t b = absurd t.1
      by (a ∷ c ∷ []) e t b = absurd t.1.1
      by (a ∷ c ∷ k ∷ []) e t b = record {
        docs = a;
        attributes = c;
        choice = k;
        are = e;
        within = b.1.1.0;
        rule = t.1.1.0.rule_is;
        begins = ((node_at ns a).end, t.0.reads, subst (EndsAt text TODAY_ATTRIBUTE_LISTS (node_at ns a).end) (sym t.1.1.0.start_is) t.1.0.reads);
      }
      by (a ∷ c ∷ k ∷ x ∷ more) e t b = absurd (let z = t.1.1.1.0 in let n : ⊥ = cc in n)

  pub third_is : (parts : FrontParts) (cs xs ys zs : List ℕ) (a b k : ℕ) → cs ≡ children_of ns i → cs ≡ a ∷ xs → xs ≡ b ∷ ys → ys ≡ k ∷ zs → parts.choice ≡ k
  third_is parts cs xs ys zs a b k e first second third = let are = parts.are in cc

-- the node that today's piece holds is a definition, or none begins there
module _ (text : List ℕ) (ns : List Node) (i d : ℕ) (left : List ℕ) (k : IsHeld text ns d (node_at ns i).start (node_at ns i).end TODAY_DEFINITION left) (j : ℕ) (same : k.kind ≡ j) where
  pub held_is : (node_at ns j).rule ≡ TODAY_DEFINITION → IsDefinition Today text ns i j
  held_is rule =
      let own = subst (λ z. EndsAt text (node_at ns k.kind).rule z (node_at ns k.kind).end) (sym k.starts) k.reads in
      let other = subst (λ z. EndsAt text (node_at ns z).rule (node_at ns z).start (node_at ns z).end) same own in
      record {
        within = subst (λ z. z < length ns) same k.within;
        rule = rule;
        starts = subst (λ z. (node_at ns z).start ≡ (node_at ns i).start) same k.starts;
        ends = subst (λ z. (node_at ns z).end ≡ (node_at ns i).end) same k.ends;
        reads = subst (λ r. EndsAt text r (node_at ns j).start (node_at ns j).end) rule other;
      }

  pub none_held : ((node_at ns j).rule ≡ TODAY_DEFINITION → ⊥) → FailsAt text TODAY_DEFINITION (node_at ns i).start
  none_held n = k.fails (λ h. n (subst (λ z. (node_at ns z).rule ≡ TODAY_DEFINITION) same h))
