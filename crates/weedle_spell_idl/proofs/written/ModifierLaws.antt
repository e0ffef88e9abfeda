-- The laws of what is inherited from, and of the words before a member.
-- Written by tools/spellings.py, and not edited by hand.
use Rattle.std.proofs.Common.{refl}
use Rattle.weedle_grammar.specs.written.Table.InterfaceMembers.{INHERITANCE, SPECIAL, STRINGIFIER_OR_INHERIT_OR_STATIC, STRINGIFIER_OR_STATIC}
use Rattle.weedle_parts.specs.ModifierTrees.{inheritance_tree, special_tree, stringifier_or_inherit_or_static_tree, stringifier_or_static_tree}
use Rattle.weedle_parts.specs.declared.modifier.Special.TheVariants.{Getter as Special-Getter, Setter as Special-Setter, Deleter as Special-Deleter, LegacyCaller as Special-LegacyCaller}
use Rattle.weedle_parts.specs.declared.modifier.StringifierOrInheritOrStatic.TheVariants.{Stringifier as StringifierOrInheritOrStatic-Stringifier, Inherit as StringifierOrInheritOrStatic-Inherit, Static as StringifierOrInheritOrStatic-Static}
use Rattle.weedle_parts.specs.declared.modifier.StringifierOrStatic.TheVariants.{Stringifier as StringifierOrStatic-Stringifier, Static as StringifierOrStatic-Static}
use Rattle.weedle_spell.proofs.LawFacts.{loose}
use Rattle.weedle_spell.proofs.LeafLaws.{identifier}
use Rattle.weedle_spell.proofs.Spelt.{IsSpelt, alternative, last, node, part}
use Rattle.weedle_spell.proofs.TriviaFacts.{keyword, symbol}
use Rattle.weedle_spell.specs.Laws.{SpellsValues}
use Rattle.weedle_spell_idl.specs.written.Modifiers.{inheritance_spelling, special_spelling, stringifier_or_inherit_or_static_spelling, stringifier_or_static_spelling}

pub inheritance : IsSpelt INHERITANCE inheritance_tree inheritance_spelling
inheritance v = node refl refl (part (symbol refl refl refl) (last (identifier v.identifier)))

pub special : IsSpelt SPECIAL special_tree special_spelling
special (Special-Getter v) = alternative 0 refl refl refl (keyword refl refl refl)
special (Special-Setter v) = alternative 1 refl refl refl (keyword refl refl refl)
special (Special-Deleter v) = alternative 2 refl refl refl (keyword refl refl refl)
special (Special-LegacyCaller v) = alternative 3 refl refl refl (keyword refl refl refl)

pub stringifier_or_inherit_or_static : IsSpelt STRINGIFIER_OR_INHERIT_OR_STATIC stringifier_or_inherit_or_static_tree stringifier_or_inherit_or_static_spelling
stringifier_or_inherit_or_static (StringifierOrInheritOrStatic-Stringifier v) =
    alternative 0 refl refl refl (keyword refl refl refl)
stringifier_or_inherit_or_static (StringifierOrInheritOrStatic-Inherit v) =
    alternative 1 refl refl refl (keyword refl refl refl)
stringifier_or_inherit_or_static (StringifierOrInheritOrStatic-Static v) =
    alternative 2 refl refl refl (keyword refl refl refl)

pub stringifier_or_static : IsSpelt STRINGIFIER_OR_STATIC stringifier_or_static_tree stringifier_or_static_spelling
stringifier_or_static (StringifierOrStatic-Stringifier v) =
    alternative 0 refl refl refl (keyword refl refl refl)
stringifier_or_static (StringifierOrStatic-Static v) = alternative 1 refl refl refl (keyword refl refl refl)

-- the laws
pub inheritance_law : SpellsValues INHERITANCE inheritance_tree inheritance_spelling
inheritance_law = loose inheritance

pub special_law : SpellsValues SPECIAL special_tree special_spelling
special_law = loose special

pub stringifier_or_inherit_or_static_law : SpellsValues STRINGIFIER_OR_INHERIT_OR_STATIC stringifier_or_inherit_or_static_tree stringifier_or_inherit_or_static_spelling
stringifier_or_inherit_or_static_law = loose stringifier_or_inherit_or_static

pub stringifier_or_static_law : SpellsValues STRINGIFIER_OR_STATIC stringifier_or_static_tree stringifier_or_static_spelling
stringifier_or_static_law = loose stringifier_or_static
