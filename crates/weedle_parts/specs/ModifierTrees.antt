-- The trees of what is inherited from, and of the words before a member.
use Rattle.std.specs.Prelude.{[], ◌∷◌}
use Rattle.weedle_grammar.specs.Trees.{Alt, Mark, Node, Tree, trees}
use Rattle.weedle_parts.specs.ValueTrees.{identifier_tree}
use Rattle.weedle_parts.specs.declared.inheritance.Inheritance.{Inheritance}
use Rattle.weedle_parts.specs.declared.modifier.Special.TheVariants.{Getter as Special-Getter, Setter as Special-Setter, Deleter as Special-Deleter, LegacyCaller as Special-LegacyCaller}
use Rattle.weedle_parts.specs.declared.modifier.Special.{Special}
use Rattle.weedle_parts.specs.declared.modifier.StringifierOrInheritOrStatic.TheVariants.{Stringifier as StringifierOrInheritOrStatic-Stringifier, Inherit as StringifierOrInheritOrStatic-Inherit, Static as StringifierOrInheritOrStatic-Static}
use Rattle.weedle_parts.specs.declared.modifier.StringifierOrInheritOrStatic.{StringifierOrInheritOrStatic}
use Rattle.weedle_parts.specs.declared.modifier.StringifierOrStatic.TheVariants.{Stringifier as StringifierOrStatic-Stringifier, Static as StringifierOrStatic-Static}
use Rattle.weedle_parts.specs.declared.modifier.StringifierOrStatic.{StringifierOrStatic}

-- what an interface or a dictionary inherits from: `:`, the name of what is inherited from
abbrev pub inheritance_tree : Inheritance → Tree
inheritance_tree v = Node (trees (Mark ∷ identifier_tree v.identifier ∷ []))

-- the word of a special operation: `getter`, `setter`, `deleter`, `legacycaller`
abbrev pub special_tree : Special → Tree
special_tree (Special-Getter v) = Alt 0 Mark
special_tree (Special-Setter v) = Alt 1 Mark
special_tree (Special-Deleter v) = Alt 2 Mark
special_tree (Special-LegacyCaller v) = Alt 3 Mark

-- the word before an attribute: `stringifier`, `inherit`, `static`
abbrev pub stringifier_or_inherit_or_static_tree : StringifierOrInheritOrStatic → Tree
stringifier_or_inherit_or_static_tree (StringifierOrInheritOrStatic-Stringifier v) = Alt 0 Mark
stringifier_or_inherit_or_static_tree (StringifierOrInheritOrStatic-Inherit v) = Alt 1 Mark
stringifier_or_inherit_or_static_tree (StringifierOrInheritOrStatic-Static v) = Alt 2 Mark

-- the word before an operation: `stringifier`, `static`
abbrev pub stringifier_or_static_tree : StringifierOrStatic → Tree
stringifier_or_static_tree (StringifierOrStatic-Stringifier v) = Alt 0 Mark
stringifier_or_static_tree (StringifierOrStatic-Static v) = Alt 1 Mark
