-- How terminals, names, numbers, strings and docstrings are rendered.
use Rattle.std.specs.Prelude.{ℕ, List, string_bytes}
use Rattle.weedle_parts.specs.declared.common.docstring.Docstring.{Docstring}
use Rattle.weedle_parts.specs.declared.common.identifier.Identifier.{Identifier}
use Rattle.weedle_parts.specs.declared.literal.float.FloatValueLit.{FloatValueLit}
use Rattle.weedle_parts.specs.declared.literal.integer.DecLit.{DecLit}
use Rattle.weedle_parts.specs.declared.literal.integer.HexLit.{HexLit}
use Rattle.weedle_parts.specs.declared.literal.integer.OctLit.{OctLit}
use Rattle.weedle_parts.specs.declared.literal.string.StringLit.{StringLit}
use Rattle.weedle_spell.specs.Forms.{Form}
use Rattle.weedle_spell.specs.Tokens.{word, named, number, quoted, decimal, hexadecimal, octal, floating, documented}

-- a terminal: its bytes, whatever the value
abbrev pub terminal : List ℕ → {V : Type 0} → V → Form
terminal bytes v = word bytes

-- a name
abbrev pub identifier_spelling : Identifier → Form
identifier_spelling v = named v.0.now

-- a decimal number
abbrev pub dec_spelling : DecLit → Form
dec_spelling v = number v.0.now decimal

-- a hexadecimal number
abbrev pub hex_spelling : HexLit → Form
hex_spelling v = number v.0.now hexadecimal

-- an octal number
abbrev pub oct_spelling : OctLit → Form
oct_spelling v = number v.0.now octal

-- a number with a point or an exponent
abbrev pub float_value_spelling : FloatValueLit → Form
float_value_spelling v = number v.0.now floating

-- a text in quotes
abbrev pub string_spelling : StringLit → Form
string_spelling v = quoted v.0.now

-- a docstring: its lines
abbrev pub docstring_spelling : Docstring → Form
docstring_spelling v = documented (string_bytes v.0)
