-- How what is inherited from is rendered, and the words before a member.
-- Written by tools/spellings.py, and not edited by hand.
use Rattle.std.specs.Prelude.{codes}
use Rattle.weedle_parts.specs.declared.inheritance.Inheritance.{Inheritance}
use Rattle.weedle_parts.specs.declared.modifier.Special.TheVariants.{Getter as Special-Getter, Setter as Special-Setter, Deleter as Special-Deleter, LegacyCaller as Special-LegacyCaller}
use Rattle.weedle_parts.specs.declared.modifier.Special.{Special}
use Rattle.weedle_parts.specs.declared.modifier.StringifierOrInheritOrStatic.TheVariants.{Stringifier as StringifierOrInheritOrStatic-Stringifier, Inherit as StringifierOrInheritOrStatic-Inherit, Static as StringifierOrInheritOrStatic-Static}
use Rattle.weedle_parts.specs.declared.modifier.StringifierOrInheritOrStatic.{StringifierOrInheritOrStatic}
use Rattle.weedle_parts.specs.declared.modifier.StringifierOrStatic.TheVariants.{Stringifier as StringifierOrStatic-Stringifier, Static as StringifierOrStatic-Static}
use Rattle.weedle_parts.specs.declared.modifier.StringifierOrStatic.{StringifierOrStatic}
use Rattle.weedle_spell.specs.Forms.{Form, ◌then◌}
use Rattle.weedle_spell.specs.Leaves.{identifier_spelling, terminal}

-- what an interface or a dictionary inherits from
abbrev pub inheritance_spelling : Inheritance → Form
inheritance_spelling v = terminal (codes ":") v.colon then identifier_spelling v.identifier

-- the word of a special operation
abbrev pub special_spelling : Special → Form
special_spelling (Special-Getter v) = terminal (codes "getter") v
special_spelling (Special-Setter v) = terminal (codes "setter") v
special_spelling (Special-Deleter v) = terminal (codes "deleter") v
special_spelling (Special-LegacyCaller v) = terminal (codes "legacycaller") v

-- the word before an attribute
abbrev pub stringifier_or_inherit_or_static_spelling : StringifierOrInheritOrStatic → Form
stringifier_or_inherit_or_static_spelling (StringifierOrInheritOrStatic-Stringifier v) =
    terminal (codes "stringifier") v
stringifier_or_inherit_or_static_spelling (StringifierOrInheritOrStatic-Inherit v) =
    terminal (codes "inherit") v
stringifier_or_inherit_or_static_spelling (StringifierOrInheritOrStatic-Static v) =
    terminal (codes "static") v

-- the word before an operation
abbrev pub stringifier_or_static_spelling : StringifierOrStatic → Form
stringifier_or_static_spelling (StringifierOrStatic-Stringifier v) = terminal (codes "stringifier") v
stringifier_or_static_spelling (StringifierOrStatic-Static v) = terminal (codes "static") v
