-- Types between angle brackets, as iterations, maps and sets have them: by one name each, and their trees.
use Rattle.std.specs.Prelude.{[], ◌∷◌}
use Rattle.weedle_parts.specs.ValueTrees.{generics_tree}
use Rattle.weedle_parts.specs.declared.common.brackets.Generics.{Generics}
use Rattle.weedle_grammar.specs.Trees.{Mark, Node, Tree, trees}
use Rattle.weedle_base.specs.declared.term.written.symbols.Comma.{Comma}
use Rattle.weedle_types.specs.Trees.{attributed_type_tree}
use Rattle.weedle_types.specs.declared.types.AttributedType.{AttributedType}

-- a type between angle brackets
abbrev pub OneType : Type 0
OneType = Generics AttributedType

-- the type, between the brackets
abbrev pub one_type_tree : OneType → Tree
one_type_tree = generics_tree attributed_type_tree

-- the types of keys and values
abbrev pub KeyAndValue : Type 0
KeyAndValue = AttributedType × Comma × AttributedType

-- a type, a comma and a type
abbrev pub key_and_value_tree : KeyAndValue → Tree
key_and_value_tree v = Node (trees (attributed_type_tree v.0 ∷ Mark ∷ attributed_type_tree v.2 ∷ []))

-- the types of keys and values between angle brackets
abbrev pub TwoTypes : Type 0
TwoTypes = Generics KeyAndValue

-- both types, between the brackets
abbrev pub two_types_tree : TwoTypes → Tree
two_types_tree = generics_tree key_and_value_tree
