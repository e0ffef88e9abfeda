-- What is between the items of a list.
use Rattle.weedle_base.specs.Own.{own}
use Rattle.weedle_base.specs.Reading.{Reading}
use Rattle.weedle_base.specs.Rules.{mark_tree}
use Rattle.weedle_base.specs.declared.term.written.symbols.Comma.{Comma}
use Rattle.weedle_base.specs.declared.term.written.type_keywords.Or.{Or}
use Rattle.weedle_grammar.specs.written.Table.Keywords.{OR}
use Rattle.weedle_grammar.specs.written.Table.Symbols.{COMMA}

-- a comma
abbrev pub comma_reading : Reading Comma
comma_reading = own COMMA mark_tree ⊥

-- `or`
abbrev pub or_reading : Reading Or
or_reading = own OR mark_tree ⊥
