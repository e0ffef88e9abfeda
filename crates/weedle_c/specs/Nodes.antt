-- Nodes as C has them.
use Rattle.weedle_c.specs.declared.node.WeedleNode.{WeedleNode}
use Rattle.weedle_syntax.specs.declared.node.Node.{Node}

-- a node as C has it, of the same four numbers
abbrev pub c_node : Node → WeedleNode
c_node n = record { rule = n.rule; depth = n.depth; start = n.start; end = n.end }
