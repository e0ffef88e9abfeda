-- The comments within a span.
use Rattle.std.specs.Prelude.{◌&&◌, nat_lt, nat_le, ℕ, Bool, List, length, map}
use Rattle.weedle_syntax.specs.declared.node.Node.{Node}
use Rattle.weedle_syntax.specs.Kinds.{is_comment}
use Rattle.weedle_syntax.specs.Tree.{node_at, numbers_where}
use Rattle.weedle_places.specs.declared.span.Span.{Span}
use Rattle.weedle_places.specs.Spans.{span_at}

-- node i is a line comment or a block comment that begins and ends within the span
abbrev pub is_comment_in : List Node → Span → ℕ → Bool
is_comment_in ns span i =
    is_comment (node_at ns i).rule && (nat_le span.start (node_at ns i).start && (nat_lt (node_at ns i).start span.end && nat_le (node_at ns i).end span.end))

-- the bytes of each of these nodes, and of no other, in their order
abbrev pub comments_of : List Node → Span → List Span
comments_of ns span = map (span_at ns) (numbers_where (is_comment_in ns span) 0 (length ns))
