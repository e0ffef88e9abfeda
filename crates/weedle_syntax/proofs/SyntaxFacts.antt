-- Nodes in preorder while they are found.
use Rattle.std.proofs.Common.{◌≡◌, ℕ, ◌+◌, ◌<◌, ◌≤◌, List, [], ◌∷◌, ◌++◌, length, refl, sym, subst, ◌∙◌, ap, arith, append_assoc, append-nil, length-append, Option, Some, option_to_list}
use Rattle.std.specs.Prelude.{reverse}
use Rattle.std.proofs.lemmas.List.{reverse-append}
use Rattle.weedle_grammar.specs.written.Bound.{rule_count}
use Rattle.weedle_rules.specs.Outcomes.{EndsAt}
use Rattle.weedle_syntax.specs.declared.node.Node.{Node}
use Rattle.weedle_syntax.specs.Parts.{HasParts}
use Rattle.weedle_syntax.specs.Syntax.{AreTrees}
use Rattle.weedle_syntax.proofs.TreeFacts.{AreNodes, trees_of}
use Rattle.weedle_syntax.proofs.ChildFacts.{Each, each_append, each_so, IsChild, parts_are_children}
use Rattle.weedle_syntax.proofs.LoadFacts.{weight, load, load_append, parts_are_light}

-- the node on top of a pile
pub on_top : (pile rest : List Node) (n : Node) → pile ≡ rest ++ n ∷ [] → reverse pile ≡ n ∷ reverse rest
on_top pile rest n e = ap reverse e ∙ reverse-append rest (n ∷ [])

-- what was popped
pub popped : (pile rest : List Node) (o : Option Node) (n : Node) → pile ≡ rest ++ option_to_list o → o ≡ Some n → pile ≡ rest ++ n ∷ []
popped pile rest o n e is = e ∙ ap (λ x. rest ++ option_to_list x) is

-- an empty pile
pub none_left : (pile : List Node) (many : ℕ) → many ≡ length pile → many ≡ 0 → pile ≡ []
none_left [] many l e = refl
none_left (n ∷ pile) many l e = absurd (omega arith)

-- a node is moved from the end of one list to the other
pub moved : (inner less waiting more before : List Node) (n : Node) → inner ≡ less ++ n ∷ [] → more ≡ waiting ++ n ∷ [] → inner ++ reverse waiting ≡ before → less ++ reverse more ≡ before
moved inner less waiting more before n a b h =
    ap (λ s. less ++ s) (on_top more waiting n b) ∙ sym (append_assoc less (n ∷ []) (reverse waiting)) ∙ sym (ap (λ s. s ++ reverse waiting) a) ∙ h

-- a node that waits where so many were found
pub record Waits (text : List ℕ) (many : ℕ) (n : Node) : Type 0 where
  pub low : n.rule < rule_count
  pub within : n.start ≤ length text
  pub reads : EndsAt text n.rule n.start n.end
  pub shallow : n.depth ≤ many

-- the root and all nodes below it
abbrev AreBelow : List ℕ → Node → List Node → Type 0
AreBelow text root ns = AreNodes text (root ∷ []) ns

pub record Going (text : List ℕ) (root : Node) (nodes waiting : List Node) : Type 0 where
  pub onward : (rest : List Node) → AreNodes text waiting rest → AreBelow text root (nodes ++ rest)
  pub each : Each (Waits text (length nodes)) waiting

module _ (text : List ℕ) (root : Node) where
  pub set_out : (nodes pile empty : List Node) (n : Node) → nodes ≡ [] → empty ≡ [] → pile ≡ empty ++ n ∷ [] → n ≡ root → root.rule < rule_count → root.start ≤ length text → EndsAt text root.rule root.start root.end → root.depth ≡ 0 → Going text root nodes (reverse pile)
  set_out nodes pile empty n none e is top low within reads depth =
      let alone : reverse pile ≡ root ∷ [] = on_top pile empty n is ∙ ap (λ s. n ∷ reverse s) e ∙ ap (λ m. m ∷ []) top in
      record {
        onward = λ rest a. subst (λ s. AreBelow text root (s ++ rest)) (sym none) (subst (λ s. AreNodes text s rest) alone a);
        each = subst (Each (Waits text (length nodes))) (sym alone) (record { low = low; within = within; reads = reads; shallow = omega arith }, tt);
      }

  module _ (nodes : List Node) (pile rest : List Node) (n : Node) (is : pile ≡ rest ++ n ∷ []) (g : Going text root nodes (reverse pile)) where
    all_waiting : Each (Waits text (length nodes)) (n ∷ reverse rest)
    all_waiting = subst (Each (Waits text (length nodes))) (on_top pile rest n is) g.each

    pub top_waits : Waits text (length nodes) n
    top_waits = all_waiting.0

    module _ (inner new : List Node) (parts : HasParts text n inner) (piled : reverse new ≡ inner ++ reverse rest) where
      children_wait : (more : List Node) → length more ≡ length nodes + 1 → Each (Waits text (length more)) inner
      children_wait more l =
          let t = top_waits in
          let s = t.shallow in
          each_so (IsChild text n.rule n.start (n.depth + 1)) (Waits text (length more)) inner
          (λ m c. let d = c.depth_is in record { low = c.low; within = c.within; reads = c.reads; shallow = omega arith })
          (parts_are_children text n inner t.within t.low t.reads parts)

      pub goes_on : (more : List Node) → more ≡ nodes ++ n ∷ [] → Going text root more (reverse new)
      goes_on more found =
          let l : length more ≡ length nodes + 1 = ap length found ∙ length-append nodes (n ∷ []) in
          record {
            onward = λ ns a. subst (λ s. AreBelow text root (s ++ ns)) (sym found) (subst (AreBelow text root) (sym (append_assoc nodes (n ∷ []) ns))
                (g.onward (n ∷ ns) (inner, reverse rest, on_top pile rest n is, parts, subst (λ s. AreNodes text s ns) piled a)));
            each = subst (Each (Waits text (length more))) (sym piled) (each_append (Waits text (length more)) inner (reverse rest) (children_wait more l)
                (each_so (Waits text (length nodes)) (Waits text (length more)) (reverse rest) (λ m w. let s = w.shallow in record { low = w.low; within = w.within; reads = w.reads; shallow = omega arith }) all_waiting.1));
          }

      pub less_left : load text (reverse new) < load text (reverse pile)
      less_left =
          let t = top_waits in
          let a : load text inner < weight text n = parts_are_light text n inner t.within t.low t.reads parts in
          let b : load text (reverse new) ≡ load text inner + load text (reverse rest) = ap (load text) piled ∙ load_append text inner (reverse rest) in
          let c : load text (reverse pile) ≡ weight text n + load text (reverse rest) = ap (load text) (on_top pile rest n is) in
          omega arith

  pub finish : (nodes pile : List Node) → pile ≡ [] → Going text root nodes (reverse pile) → AreBelow text root nodes
  finish nodes pile e g = subst (AreBelow text root) (append-nil nodes) (g.onward [] (ap reverse e))

  pub finish_trees : (nodes : List Node) → AreBelow text root nodes → AreTrees text (root ∷ []) nodes
  finish_trees nodes a = trees_of text nodes (root ∷ []) a
