-- Nodes in 8 bytes each: of a run of them, places count from where it begins.
use Rattle.std.specs.Prelude.{◌≡◌, ◌^◌, ◌+◌, ◌<◌, ◌≤◌, ℕ, All, List, ◌++◌, flat_map, if◌then◌else◌, length, map, take, drop}
use Rattle.weedle_syntax.specs.declared.node.Node.{Node}
use Rattle.weedle_syntax.specs.declared.runs.Run.{Run}
use Rattle.weedle_syntax.specs.declared.runs.Runs.{Runs}
use Rattle.weedle_syntax.specs.declared.runs.Short.{Short}

-- 32 bits hold its depth and its places
pub record IsNarrow (n : Node) : Type 0 where
  pub depth : n.depth < 2 ^ 32
  pub start : n.start < 2 ^ 32
  pub end : n.end < 2 ^ 32

-- the node that a short one of a run stands for, which begins at this place
abbrev pub node_of : ℕ → Short → Node
node_of base short = record { rule = short.rule; start = base + short.start; end = base + short.end; depth = short.depth }

-- the nodes of a run: as many as it says, from its number on, of the short or of the long ones
abbrev pub run_nodes : List Short → List Node → Run → List Node
run_nodes shorts longs run =
    if run.is_long then take run.many (drop run.from longs) else map (node_of run.base) (take run.many (drop run.from shorts))

-- the nodes of all runs
abbrev pub all_nodes : List Short → List Node → List Run → List Node
all_nodes shorts longs runs = flat_map (run_nodes shorts longs) runs

-- as many are there
abbrev pub IsInside : ℕ → ℕ → Run → Type 0
IsInside shorts longs run = run.from + run.many ≤ (if run.is_long then longs else shorts)

-- the nodes of all runs
abbrev pub nodes_of : Runs → List Node
nodes_of nodes = all_nodes nodes.shorts.items nodes.longs.items nodes.runs.items

-- each run's nodes are there, 32 bits hold their numbers, and they are counted
pub record AreRuns (nodes : Runs) : Type 0 where
  pub inside : All (IsInside (length nodes.shorts.items) (length nodes.longs.items)) nodes.runs.items
  pub narrow : All IsNarrow (nodes_of nodes)
  pub many : nodes.many ≡ length (nodes_of nodes) + 1

-- short ones that stand for these nodes were put behind what was there
pub record IsShortened (base : ℕ) (found : List Node) (old new : List Short) : Type 0 where
  pub more : List Short
  pub are : new ≡ old ++ more
  pub same : map (node_of base) more ≡ found

-- these stand in a room from number `at` on, and all else as it stood
pub record IsWrittenAt {T : Type 0} (at : ℕ) (these old new : List T) : Type 0 where
  pub within : at + length these ≤ length old
  pub is : new ≡ take at old ++ these ++ drop (at + length these) old
