-- Which texts are keywords that a name could be.
use Rattle.std.specs.Prelude.{◌≡◌, ◌<◌, ℕ, List, Some}
use Rattle.weedle_grammar.specs.Rows.{Bytes, take_one}
use Rattle.weedle_grammar.specs.declared.class.Class.TheVariants.{Letter}
use Rattle.weedle_grammar.specs.written.Bound.{table_count}
use Rattle.weedle_grammar.specs.written.Table.{row_of}

-- a rule of weedle2's reads just these bytes
abbrev pub IsRead : List ℕ → Type 0
IsRead bytes = (rule : ℕ) × (rule < table_count) × (row_of rule ≡ Bytes bytes)

-- the bytes are a word of the grammar: a rule reads just them, and they begin with a letter
abbrev pub IsWord : List ℕ → Type 0
IsWord bytes = (take_one Letter bytes ≡ Some 1) × IsRead bytes
