-- The spans of nodes and of members.
use Rattle.std.specs.Prelude.{ℕ, List}
use Rattle.weedle_syntax.specs.declared.node.Node.{Node}
use Rattle.weedle_syntax.specs.Tree.{node_at}
use Rattle.weedle_places.specs.declared.span.Span.{Span}

-- the bytes of node i
abbrev pub span_at : List Node → ℕ → Span
span_at ns i = record { start = (node_at ns i).start; end = (node_at ns i).end }
