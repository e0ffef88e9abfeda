use Rattle.std.proofs.Common.{◌≡◌, ◌-◌, [], length}
use Rattle.weedle_grammar.specs.written.Table.Definitions.{DEFINITION, DEFINITIONS}
use Rattle.weedle_syntax.specs.Compact.{AreRuns, nodes_of}
use Rattle.weedle_syntax.proofs.RepeatFacts.{Again}
use Rattle.weedle_syntax.proofs.front.lay_definitions.Given as goal

-- the nodes of the definitions so far are packed, and one that stands for the root is left
abbrev pub invariant-loop-nodes : goal.invariant-loop-nodes
invariant-loop-nodes l =
    Again l.text DEFINITIONS DEFINITION 0 1 [] l.at (nodes_of l.below) × AreRuns l.below × (length l.nodes.items ≡ 1)

abbrev pub decreases-loop-nodes : goal.decreases-loop-nodes
decreases-loop-nodes l = length l.text - l.at
