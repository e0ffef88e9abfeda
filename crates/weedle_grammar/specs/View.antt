-- The rows of the program as the grammar's.
use Rattle.std.specs.Prelude.{ℕ, List}
use Rattle.weedle_grammar.specs.declared.row.Parts.{Parts}
use Rattle.weedle_grammar.specs.declared.row.Row as rows
use Rattle.weedle_grammar.specs.declared.row.Row.TheVariants as code
use Rattle.weedle_grammar.specs.Rows.{Row, Bytes, OneOf, NotNext, Run, Past, Seq, First, Opt, Many, ListOf, List1, Tail, If}

-- the numbers of the rules that parts are
abbrev pub numbers_of : Parts → List ℕ
numbers_of parts = parts.numbers.now

-- what the program calls a row, as the grammar has it
abbrev pub row_view : rows.Row → Row
row_view (code.Bytes bytes) = Bytes bytes.now
row_view (code.OneOf class) = OneOf class
row_view (code.NotNext class) = NotNext class
row_view (code.Run class) = Run class
row_view (code.Past bytes) = Past bytes.now
row_view (code.Seq parts) = Seq (numbers_of parts)
row_view (code.First parts) = First (numbers_of parts)
row_view (code.Opt x) = Opt x
row_view (code.Many x) = Many x
row_view (code.List x t) = ListOf x t
row_view (code.List1 x t) = List1 x t
row_view (code.Tail x s) = Tail x s
row_view (code.If parts k y) = If (numbers_of parts) k y
