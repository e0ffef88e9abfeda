-- The laws of names, numbers, strings and docstrings.
use Rattle.std.proofs.Common.{string_bytes}
use Rattle.weedle_parts.specs.LiteralTrees.{dec_tree, hex_tree, oct_tree, float_value_tree, string_tree}
use Rattle.weedle_parts.specs.ValueTrees.{identifier_tree, docstring_tree}
use Rattle.weedle_parts.specs.declared.common.docstring.Docstring.{Docstring}
use Rattle.weedle_grammar.specs.written.Table.Leaves.{IDENTIFIER, DEC_LIT, HEX_LIT, OCT_LIT, FLOAT_VALUE_LIT, STRING_LIT, DOCSTRING}
use Rattle.weedle_spell.specs.Leaves.{identifier_spelling, dec_spelling, hex_spelling, oct_spelling, float_value_spelling, string_spelling, docstring_spelling}
use Rattle.weedle_spell.specs.Laws.{SpellsValues, SpellsExactly}
use Rattle.weedle_spell.proofs.DocLineFacts.{doc_spelt}
use Rattle.weedle_spell.proofs.LawFacts.{loose, strict}
use Rattle.weedle_spell.proofs.LeafFacts.{name_spelt, dec_spelt, hex_spelt, oct_spelt, float_spelt, string_spelt}
use Rattle.weedle_spell.proofs.Spelt.{Spelt, IsSpelt}

pub identifier : IsSpelt IDENTIFIER identifier_tree identifier_spelling
identifier v = name_spelt v.0.now

pub dec : IsSpelt DEC_LIT dec_tree dec_spelling
dec v = dec_spelt v.0.now

pub hex : IsSpelt HEX_LIT hex_tree hex_spelling
hex v = hex_spelt v.0.now

pub oct : IsSpelt OCT_LIT oct_tree oct_spelling
oct v = oct_spelt v.0.now

pub float_value : IsSpelt FLOAT_VALUE_LIT float_value_tree float_value_spelling
float_value v = float_spelt v.0.now

pub string : IsSpelt STRING_LIT string_tree string_spelling
string v = string_spelt v.0.now

-- a docstring: whatever else may end without an LF, it does not
pub docstring : {L : Type 0} (v : Docstring) → Spelt L DOCSTRING (docstring_tree v) (docstring_spelling v)
docstring v = doc_spelt (string_bytes v.0)

-- the laws
pub identifier_law : SpellsValues IDENTIFIER identifier_tree identifier_spelling
identifier_law = loose identifier

pub dec_law : SpellsValues DEC_LIT dec_tree dec_spelling
dec_law = loose dec

pub hex_law : SpellsValues HEX_LIT hex_tree hex_spelling
hex_law = loose hex

pub oct_law : SpellsValues OCT_LIT oct_tree oct_spelling
oct_law = loose oct

pub float_value_law : SpellsValues FLOAT_VALUE_LIT float_value_tree float_value_spelling
float_value_law = loose float_value

pub string_law : SpellsValues STRING_LIT string_tree string_spelling
string_law = loose string

pub docstring_law : SpellsExactly DOCSTRING docstring_tree docstring_spelling
docstring_law = strict docstring
