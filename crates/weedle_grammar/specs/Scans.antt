-- Silent rules that stand for one piece of text.
use Rattle.std.specs.Prelude.{◌≡◌, ℕ, List}
use Rattle.weedle_grammar.specs.declared.class.Class.{Class}
use Rattle.weedle_grammar.specs.Rows.{Bytes, OneOf, Run}
use Rattle.weedle_grammar.specs.Meaning.{Silent}
use Rattle.weedle_grammar.specs.written.Table.{row_of, shape_of}

-- the rule takes these bytes
abbrev pub IsWord : ℕ → List ℕ → Type 0
IsWord r b = (row_of r ≡ Bytes b) × (shape_of r ≡ Silent)

-- the rule takes one byte of the class
abbrev pub IsOne : ℕ → Class → Type 0
IsOne r c = (row_of r ≡ OneOf c) × (shape_of r ≡ Silent)

-- the rule takes every byte of the class at the front
abbrev pub IsRun : ℕ → Class → Type 0
IsRun r c = (row_of r ≡ Run c) × (shape_of r ≡ Silent)
