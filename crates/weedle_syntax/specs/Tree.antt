-- Which node is below which, by their numbers in preorder.
use Rattle.std.specs.Prelude.{◌≡◌, ◌≤◌, ◌<◌, ◌+◌, ◌-◌, ◌==◌, ℕ, zero, suc, Bool, cond, nat_lt, drop, length, slice_index, slice_index_or, All, List, [], ◌∷◌, Option, MatchOption}
use Rattle.std.specs.List.{prefix_len}
use Rattle.weedle_syntax.specs.declared.dialect.Dialect.{Dialect}
use Rattle.weedle_syntax.specs.declared.node.Node.{Node}
use Rattle.weedle_syntax.specs.Dialects.{IsFrontIn}
use Rattle.weedle_syntax.specs.Syntax.{root_to, IsRead}

-- node i
abbrev pub node_at : List Node → ℕ → Node
node_at ns i = slice_index_or ns i (root_to 0)

-- whether a node is deeper than this
abbrev pub is_deeper : ℕ → Node → Bool
is_deeper depth n = nat_lt depth n.depth

-- how many nodes are below node i: those behind it up to the first that is no deeper
abbrev pub below_of : List Node → ℕ → ℕ
below_of ns i = prefix_len (is_deeper (node_at ns i).depth) (drop (i + 1) ns)

-- node j is below node i, which reads it directly
pub record IsChild (ns : List Node) (i j : ℕ) : Type 0 where
  pub behind : i < j
  pub below : j ≤ i + below_of ns i
  pub depth : (node_at ns j).depth ≡ (node_at ns i).depth + 1

-- no node is below node i
abbrev pub IsLeaf : List Node → ℕ → Type 0
IsLeaf ns i = below_of ns i ≡ 0

-- node i is of this rule
abbrev pub HasRule : List Node → ℕ → ℕ → Type 0
HasRule ns rule i = (node_at ns i).rule ≡ rule

-- of so many numbers from i on, those for which the test gives true
unfoldable pub numbers_where : (ℕ → Bool) → ℕ → ℕ → List ℕ
numbers_where test i zero = []
numbers_where test i (suc many) = cond (test i) (i ∷ numbers_where test (i + 1) many) (numbers_where test (i + 1) many)

-- from node `from` up to node `end`, those that are one deeper than this
abbrev pub children_from : List Node → ℕ → ℕ → ℕ → List ℕ
children_from ns depth from end = numbers_where (λ j. (node_at ns j).depth == depth + 1) from (end - from)

-- the nodes that node i reads directly, in their order
abbrev pub children_of : List Node → ℕ → List ℕ
children_of ns i = children_from ns (node_at ns i).depth (i + 1) (i + 1 + below_of ns i)

-- the nodes that read no other, in their order
abbrev pub leaf_numbers : List Node → List ℕ
leaf_numbers ns = numbers_where (λ j. below_of ns j == 0) 0 (length ns)

-- the places from this one on at which a list has 0
abbrev pub zeros_from : List ℕ → ℕ → List ℕ
zeros_from counts from = numbers_where (λ j. slice_index counts j == 0) from (length counts - from)

-- of the numbers below n, i is the first from this one on of which P holds
pub record IsNext (P : ℕ → Type 0) (from n i : ℕ) : Type 0 where
  pub after : from ≤ i
  pub within : i < n
  pub holds : P i
  pub first : (j : ℕ) → from ≤ j → j < i → P j → ⊥

-- what is found is the first, and nothing is found where there is none
abbrev pub FindsNext : (ℕ → Type 0) → ℕ → ℕ → Option ℕ → Type 0
FindsNext P from n found = MatchOption found ((j : ℕ) → from ≤ j → j < n → P j → ⊥) (λ i. IsNext P from n i)

-- the leaf that holds a byte
pub record IsLeafAt (ns : List Node) (byte i : ℕ) : Type 0 where
  pub within : i < length ns
  pub leaf : IsLeaf ns i
  pub starts : (node_at ns i).start ≤ byte
  pub ends : byte < (node_at ns i).end

-- from node i on, each of these numbers says how many nodes are below its node
pub record AreCounts (ns : List Node) (counts : List ℕ) (from : ℕ) : Type 0 where
  pub many : length counts ≡ length ns
  pub are : (i : ℕ) → from ≤ i → i < length ns → slice_index counts i ≡ below_of ns i

-- what always holds of a `Syntax`
pub record IsTree (text : List ℕ) (dialect : Dialect) (ns : List Node) (counts : List ℕ) : Type 0 where
  pub front : IsFrontIn dialect text ns
  pub read : All (IsRead text) ns
  pub counted : AreCounts ns counts 0

-- what always holds of `Children` of a node of this depth: up to `end` all is deeper than it, and `next` is one of them
pub record AreChildren (ns : List Node) (counts : List ℕ) (depth next end : ℕ) : Type 0 where
  pub counted : AreCounts ns counts 0
  pub within : next ≤ end
  pub inside : end ≤ length ns
  pub deeper : (k : ℕ) → next ≤ k → k < end → depth < (node_at ns k).depth
  pub first : next < end → (node_at ns next).depth ≡ depth + 1
  pub stops : end < length ns → (node_at ns end).depth ≤ depth
