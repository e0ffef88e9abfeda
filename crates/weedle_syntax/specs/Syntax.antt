-- The nodes of a text in preorder.
use Rattle.std.specs.Prelude.{◌≡◌, ℕ, if◌then◌else◌, nat_lt, IsCharBoundary, List, [], ◌∷◌, ◌++◌, length}
use Rattle.weedle_grammar.specs.Meaning.{between}
use Rattle.weedle_grammar.specs.written.Table.Definitions.{DEFINITIONS}
use Rattle.weedle_rules.specs.Outcomes.{EndsAt}
use Rattle.weedle_syntax.specs.declared.node.Node.{Node}
use Rattle.weedle_syntax.specs.Parts.{HasParts}

-- the grammar reads definitions from the front of the text up to this place, where the remaining
-- input begins
abbrev pub RestBegins : List ℕ → ℕ → Type 0
RestBegins text end = EndsAt text DEFINITIONS 0 end

-- it reads the whole text
abbrev pub IsWhole : List ℕ → Type 0
IsWhole text = RestBegins text (length text)

-- the nodes of these in preorder: of each the node, and then the nodes of what it reads directly
pub data AreTrees (text : List ℕ) : List Node → List Node → Type 0 where
  -- of none, none
  no_trees : {ns : List Node} → ns ≡ [] → AreTrees text [] ns
  -- the first, those of what it reads directly, and those of the others
  a_tree : {n : Node} {inner others below behind ns : List Node} → HasParts text n inner → AreTrees text inner below → AreTrees text others behind
      → ns ≡ n ∷ below ++ behind → AreTrees text (n ∷ others) ns

-- the node of the definitions up to a place: the root
abbrev pub root_to : ℕ → Node
root_to end = record { rule = DEFINITIONS; start = 0; end = end; depth = 0 }

-- the root up to a place, and all nodes below it
abbrev pub IsSyntaxTo : List ℕ → ℕ → List Node → Type 0
IsSyntaxTo text end ns = AreTrees text (root_to end ∷ []) ns

-- the node of a rule from the front of the text up to a place
abbrev pub node_to : ℕ → ℕ → Node
node_to rule end = record { rule = rule; start = 0; end = end; depth = 0 }

-- that node, and all nodes below it
abbrev pub IsRuleTo : List ℕ → ℕ → ℕ → List Node → Type 0
IsRuleTo text rule end ns = AreTrees text (node_to rule end ∷ []) ns

-- all nodes of a rule that is read at the front of the text, whatever the remaining input is
abbrev pub IsRuleFront : List ℕ → ℕ → List Node → Type 0
IsRuleFront text rule ns = (end : ℕ) × EndsAt text rule 0 end × IsRuleTo text rule end ns

-- all nodes of a text that is read whole
abbrev pub IsSyntax : List ℕ → List Node → Type 0
IsSyntax text ns = IsSyntaxTo text (length text) ns

-- all nodes of the definitions that are read, whatever the remaining input is
abbrev pub IsFront : List ℕ → List Node → Type 0
IsFront text ns = (end : ℕ) × RestBegins text end × IsSyntaxTo text end ns

-- where the root ends: there the remaining input begins
abbrev pub rest_of : List Node → ℕ
rest_of [] = 0
rest_of (n ∷ ns) = n.end

-- the node's rule was read from its start to its end, and characters begin there
pub record IsRead (text : List ℕ) (n : Node) : Type 0 where
  pub reads : EndsAt text n.rule n.start n.end
  pub starts : IsCharBoundary text n.start
  pub ends : IsCharBoundary text n.end

-- the bytes of the leaves, one after another; a node is no leaf where the one behind it is deeper
abbrev pub leaves_of : List ℕ → List Node → List ℕ
leaves_of text [] = []
leaves_of text (n ∷ []) = between text n.start n.end
leaves_of text (n ∷ m ∷ ns) = (if nat_lt n.depth m.depth then [] else between text n.start n.end) ++ leaves_of text (m ∷ ns)
