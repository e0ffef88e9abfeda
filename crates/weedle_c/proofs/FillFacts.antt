-- A room that is filled from its front.
use Rattle.std.proofs.Common.{◌≡◌, ◌<◌, ◌+◌, ◌∙◌, ℕ, List, [], ◌∷◌, ◌++◌, length, take, drop, set, map, get_or, ap, sym, arith}
use Rattle.std.proofs.lemmas.List.{length-set, take_more_set, map_more, drop-set-lt, drop-drop, take-append-drop, take_all}
use Rattle.weedle_c.specs.Nodes.{c_node}
use Rattle.weedle_c.specs.declared.node.WeedleNode.{WeedleNode}
use Rattle.weedle_syntax.specs.declared.node.Node.{Node}

-- the first i cells have the first i nodes, and the others what they had
pub record IsFilled (found : List Node) (old now : List WeedleNode) (i : ℕ) : Type 0 where
  pub size : length now ≡ length old
  pub front : take i now ≡ map c_node (take i found)
  pub behind : drop i now ≡ drop i old

module _ {found : List Node} {old now : List WeedleNode} {i : ℕ} (h : IsFilled found old now i) where
  -- one more
  pub filled_more : (n : Node) (c : WeedleNode) → i < length found → i < length now → n ≡ get_or found i n → c ≡ c_node n → IsFilled found old (set now i c) (i + 1)
  filled_more n c within room is same =
      let cell : c ≡ c_node (get_or found i n) = same ∙ ap c_node is in
      record {
        size = length-set now i c ∙ h.size;
        front = take_more_set now i c room ∙ ap (λ xs. xs ++ c ∷ []) h.front ∙ ap (λ x. map c_node (take i found) ++ x ∷ []) cell ∙ sym (map_more c_node found i n within);
        behind = drop-set-lt (i + 1) now i c (omega arith) ∙ sym (drop-drop 1 i now) ∙ ap (drop 1) h.behind ∙ drop-drop 1 i old;
      }

-- all
pub filled_all : {found : List Node} {old now : List WeedleNode} → IsFilled found old now (length found) → now ≡ map c_node found ++ drop (length found) old
filled_all {found} {old} {now} h =
    let n = length found in
    sym (take-append-drop n now) ∙ ap (λ xs. xs ++ drop n now) (h.front ∙ ap (map c_node) (take_all n found (omega arith))) ∙ ap (λ xs. map c_node found ++ xs) h.behind
