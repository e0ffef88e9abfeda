-- Definitions that are found one after another.
use Rattle.std.proofs.Common.{◌≡◌, inl, inr, ℕ, ◌<◌, List, [], ◌∷◌, ◌++◌, length, map, sym, subst, ◌∙◌, ap, append_assoc, append-nil}
use Rattle.std.specs.Prelude.{All}
use Rattle.weedle_rules.specs.Outcomes.{EndsAt, FailsAt}
use Rattle.weedle_rules.proofs.OutcomeFacts.{not_both}
use Rattle.weedle_syntax.specs.declared.dialect.Dialect.{Dialect}
use Rattle.weedle_syntax.specs.declared.dialect.Dialect.TheVariants.{Weedle2, Today}
use Rattle.weedle_syntax.specs.declared.node.Node.{Node}
use Rattle.weedle_syntax.specs.Dialects.{start_of, item_of, definition_of, IsFrontIn, IsSyntaxIn}
use Rattle.weedle_syntax.specs.Parts.{AreItems as AreItemNodes}
use Rattle.weedle_syntax.specs.Parts.{AreParts, HasParts}
use Rattle.weedle_syntax.specs.Syntax.{a_tree, node_to}
use Rattle.weedle_syntax.specs.Tree.{node_at, children_of}
use Rattle.weedle_syntax.proofs.DialectFacts.{start_row}
use Rattle.weedle_syntax.proofs.InnerFacts.{children_are_parts}
use Rattle.weedle_syntax.proofs.StepFacts.{joined}
use Rattle.weedle_places.specs.declared.place.Place.{Place}
use Rattle.weedle_places.specs.declared.span.Span.{Span}
use Rattle.weedle_places.specs.Members.{HasMembersIn, spans_of}
use Rattle.weedle_places.specs.Placed.{AddsPlace, IsDefinition}
use Rattle.weedle_places.specs.Places.{none_passed, one_passed, IsNextIn, IsLastIn, IsPlaceIn, ArePlacesIn}
use Rattle.weedle_places.specs.Standing.{IsStandingIn, IsMemberIn, AreValuesIn}
use Rattle.weedle_places.proofs.NameFacts.{children_within}
use Rattle.weedle_places.proofs.NumberFacts.{AreBelow}
use Rattle.weedle_places.proofs.WithinFacts.{members_within}

-- a definition that begins here is the next
next_here : (dialect : Dialect) (text : List ℕ) (p q : ℕ) → q ≡ p → IsNextIn dialect text p q
next_here Weedle2 text p q e = e
next_here Today text p q e = none_passed e

-- none follows at the end of the text
last_here : (dialect : Dialect) (text : List ℕ) (p : ℕ) → p ≡ length text → IsLastIn dialect text p
last_here Weedle2 text p e = e
last_here Today text p e = none_passed (sym e)

-- a piece that holds no definition is passed; by weedle2's rules there is none
pass_piece : (dialect : Dialect) (text : List ℕ) (p e : ℕ) (rest : List Place) → FailsAt text (definition_of dialect) p → EndsAt text (item_of dialect) p e → ArePlacesIn dialect text e rest → ArePlacesIn dialect text p rest
pass_piece Weedle2 text p e rest f d a = absurd (not_both f d)
pass_piece Today text p e [] f d a = one_passed f d a
pass_piece Today text p e (x ∷ rest) f d a = (one_passed f d a.0, a.1, a.2)

-- what is known of a definition is its place
pub adds_place : (dialect : Dialect) (text : List ℕ) (ns : List Node) (i j : ℕ) (old new : List Place) (d : Place) → IsDefinition dialect text ns i j → new ≡ old ++ d ∷ [] → IsStandingIn dialect text ns j d.span d.core d.front d.name
    → HasMembersIn dialect text (node_at ns j).start (spans_of d.members.items) → All (IsMemberIn dialect text ns) d.members.items → AreValuesIn dialect text ns j d.values.items → AddsPlace dialect text ns i old new
adds_place dialect text ns i j old new d is e k m all values = inr (j, d, is, record { stands = k; members = m; each = all; values = values }, e)

module _ (dialect : Dialect) (text : List ℕ) (ns : List Node) (depth end : ℕ) where
  -- the definitions so far, and the nodes of the pieces that are left
  pub record Placing (found : List Place) (left : List ℕ) : Type 0 where
    pub at : ℕ
    pub nodes : AreItemNodes text (item_of dialect) depth at end (map (node_at ns) left)
    pub below : AreBelow (length ns) left
    pub onward : (rest : List Place) → ArePlacesIn dialect text at rest → ArePlacesIn dialect text 0 (found ++ rest)

  pub place_starts : (found : List Place) (left : List ℕ) → found ≡ [] → AreItemNodes text (item_of dialect) depth 0 end (map (node_at ns) left) → AreBelow (length ns) left → Placing found left
  place_starts found left none n b = record { at = 0; nodes = n; below = b; onward = λ rest a. subst (λ s. ArePlacesIn dialect text 0 (s ++ rest)) (sym none) a }

  module _ (found : List Place) (left more : List ℕ) (i : ℕ) (is : left ≡ i ∷ more) (h : Placing found left) where
    -- the piece that is next, and the nodes of those behind it
    pub place_next : AreItemNodes text (item_of dialect) depth h.at end (map (node_at ns) (i ∷ more))
    place_next = subst (λ z. AreItemNodes text (item_of dialect) depth h.at end (map (node_at ns) z)) is h.nodes

    pub place_within : i < length ns
    place_within = (subst (AreBelow (length ns)) is h.below).0

    pub place_rule : (node_at ns i).rule ≡ item_of dialect
    place_rule = place_next.0.rule_is

    pub place_reads : EndsAt text (item_of dialect) (node_at ns i).start (node_at ns i).end
    place_reads = subst (λ p. EndsAt text (item_of dialect) p (node_at ns i).end) (sym place_next.0.start_is) place_next.0.reads

    pub place_more : (new : List Place) → IsSyntaxIn dialect text ns → AddsPlace dialect text ns i found new → Placing new more
    place_more new tree (inl (fails, same)) =
        let n = place_next in
        record {
          at = (node_at ns i).end;
          nodes = n.1;
          below = (subst (AreBelow (length ns)) is h.below).1;
          onward = λ rest a. subst (λ z. ArePlacesIn dialect text 0 (z ++ rest)) (sym same)
              (h.onward rest (pass_piece dialect text h.at (node_at ns i).end rest (subst (FailsAt text (definition_of dialect)) n.0.start_is fails) n.0.reads a));
        }
    place_more new tree (inr (j, d, j_is, said, e)) =
        let n = place_next in
        let s = said.stands.span_is in
        let reads = subst (λ (z : Span). EndsAt text (definition_of dialect) z.start z.end) (sym s) j_is.reads in
        let members = subst (λ (z : Span). HasMembersIn dialect text z.start (spans_of d.members.items)) (sym s) said.members in
        let placed : IsPlaceIn dialect text d = record {
          reads = reads;
          members = members;
          within = members_within dialect text d.span.start d.span.end (spans_of d.members.items) members reads;
          nodes = ns;
          are = tree;
          node = j;
          rule = j_is.rule;
          stands = said.stands;
          each = said.each;
          values = said.values;
        } in
        let starts : d.span.start ≡ h.at = ap (λ z. z.start) s ∙ j_is.starts ∙ n.0.start_is in
        let ends : d.span.end ≡ (node_at ns i).end = ap (λ z. z.end) s ∙ j_is.ends in
        record {
          at = (node_at ns i).end;
          nodes = n.1;
          below = (subst (AreBelow (length ns)) is h.below).1;
          onward = λ rest a. subst (λ z. ArePlacesIn dialect text 0 (z ++ rest)) (sym e) (subst (ArePlacesIn dialect text 0) (sym (append_assoc found (d ∷ []) rest))
              (h.onward (d ∷ rest) (next_here dialect text h.at d.span.start starts, placed, subst (λ p. ArePlacesIn dialect text p rest) (sym ends) a)));
        }

  pub place_ends : (found : List Place) (left : List ℕ) → left ≡ [] → end ≡ length text → Placing found left → ArePlacesIn dialect text 0 found
  place_ends found left is whole h =
      let n = subst (λ z. AreItemNodes text (item_of dialect) depth h.at end (map (node_at ns) z)) is h.nodes in
      subst (ArePlacesIn dialect text 0) (append-nil found) (h.onward [] (last_here dialect text h.at (sym n.0 ∙ whole)))

whole_root : (dialect : Dialect) (text : List ℕ) (ns : List Node) → IsSyntaxIn dialect text ns → node_at ns 0 ≡ node_to (start_of dialect) (length text)
whole_root dialect text ns (a_tree {below = below} {behind = behind} p a b e) = ap (λ s. node_at s 0) e

-- the pieces of a text that is read whole are what its root reads directly
pub root_starts : (dialect : Dialect) (text : List ℕ) (ns : List Node) (found : List Place) (left : List ℕ) → IsSyntaxIn dialect text ns → IsFrontIn dialect text ns → found ≡ [] → left ≡ children_of ns 0 → Placing dialect text ns 1 (length text) found left
root_starts dialect text ns found left are front none e =
    let end = joined dialect text ns front in
    let root : node_at ns 0 ≡ node_to (start_of dialect) (length text) = whole_root dialect text ns are in
    let parts = subst (λ n. HasParts text n (map (node_at ns) (children_of ns 0))) root (children_are_parts dialect text ns 0 front end.2.some) in
    let items = subst (λ row. AreParts text row 1 0 (length text) (map (node_at ns) (children_of ns 0))) (start_row dialect) parts in
    subst (Placing dialect text ns 1 (length text) found) (sym e) (place_starts dialect text ns 1 (length text) found (children_of ns 0) none items (children_within dialect text ns front 0 end.2.some))
