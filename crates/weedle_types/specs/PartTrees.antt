-- The parts that many members and definitions have: extended attributes by one name, and the tree of a list of members.
use Rattle.std.specs.Global.{Vec}
use Rattle.std.specs.Prelude.{Option}
use Rattle.weedle_base.specs.Rules.{items_tree}
use Rattle.weedle_parts.specs.declared.common.brackets.Bracketed.{Bracketed}
use Rattle.weedle_parts.specs.declared.common.punctuated.Punctuated.{Punctuated}
use Rattle.weedle_grammar.specs.Trees.{Tree}
use Rattle.weedle_base.specs.declared.term.written.symbols.Comma.{Comma}
use Rattle.weedle_types.specs.declared.attribute.ExtendedAttribute.{ExtendedAttribute}

-- extended attributes in square brackets, or none
abbrev pub Attributes : Type 0
Attributes = Option (Bracketed (Punctuated ExtendedAttribute Comma))

-- members one after another
abbrev pub members_tree : {V : Type 0} → (V → Tree) → Vec V → Tree
members_tree tree v = items_tree tree v.items
