-- The roles of names, by the rules that read them.
use Rattle.std.specs.Prelude.{◌==◌, ℕ, Bool, true, false, Option, Some, None, if◌then◌else◌}
use Rattle.weedle_grammar.specs.written.Table.SimpleTypes.{IDENTIFIER_LIST, MAY_BE_NULL_IDENTIFIER, TAIL_IDENTIFIER_COMMA}
use Rattle.weedle_grammar.specs.written.Table.Types.{EXTENDED_ATTRIBUTE_ARG_LIST, EXTENDED_ATTRIBUTE_IDENT, EXTENDED_ATTRIBUTE_IDENT_LIST, EXTENDED_ATTRIBUTE_NAMED_ARG_LIST, EXTENDED_ATTRIBUTE_NO_ARGS, IDENTIFIER_OR_STRING, SINGLE_ARGUMENT, VARIADIC_ARGUMENT}
use Rattle.weedle_grammar.specs.written.Table.InterfaceMembers.{ATTRIBUTE_INTERFACE_MEMBER, CONST_MEMBER, INHERITANCE, OPT_IDENTIFIER}
use Rattle.weedle_grammar.specs.written.Table.OtherMembers.{ATTRIBUTE_MIXIN_MEMBER, ATTRIBUTE_NAMESPACE_MEMBER, DICTIONARY_MEMBER}
use Rattle.weedle_grammar.specs.written.Table.Definitions.{CALLBACK_DEFINITION, CALLBACK_INTERFACE_DEFINITION, DICTIONARY_DEFINITION, ENUM_DEFINITION, IMPLEMENTS_DEFINITION, INCLUDES_STATEMENT_DEFINITION, INTERFACE_DEFINITION, INTERFACE_MIXIN_DEFINITION, NAMESPACE_DEFINITION, PARTIAL_DICTIONARY_DEFINITION, PARTIAL_INTERFACE_DEFINITION, PARTIAL_INTERFACE_MIXIN_DEFINITION, PARTIAL_NAMESPACE_DEFINITION, TYPEDEF_DEFINITION}
use Rattle.weedle_grammar.specs.written.Table.TodayTypes.{TODAY_ATTRIBUTE_ARG_LIST, TODAY_ATTRIBUTE_NAMED_ARG_LIST, TODAY_ATTRIBUTE_NUMBER, TODAY_ATTRIBUTE_NUMBERS, TODAY_ATTRIBUTE_STRINGS, TODAY_ATTRIBUTE_WILDCARD, TODAY_OPTIONAL_ARGUMENT, TODAY_REQUIRED_ARGUMENT}
use Rattle.weedle_grammar.specs.written.Table.TodayMembers.{TODAY_ATTRIBUTE_MEMBER, TODAY_CONST, TODAY_DICTIONARY_MEMBER, TODAY_MIXIN_ATTRIBUTE, TODAY_NAMESPACE_ATTRIBUTE}
use Rattle.weedle_grammar.specs.written.Table.TodayDefinitions.{TODAY_CALLBACK, TODAY_CALLBACK_INTERFACE, TODAY_DICTIONARY, TODAY_ENUM, TODAY_IMPLEMENTS, TODAY_INCLUDES, TODAY_INTERFACE, TODAY_MIXIN, TODAY_NAMESPACE, TODAY_PARTIAL_DICTIONARY, TODAY_PARTIAL_INTERFACE, TODAY_PARTIAL_MIXIN, TODAY_PARTIAL_NAMESPACE, TODAY_TYPEDEF}
use Rattle.weedle_places.specs.declared.role.Role.{Role}
use Rattle.weedle_places.specs.declared.role.Role.TheVariants as role

-- of the first name that a definition's own rule reads
abbrev pub of_definition : ℕ → Option Role
of_definition r =
    if r == CALLBACK_DEFINITION then Some role.Callback else
    (if r == CALLBACK_INTERFACE_DEFINITION then Some role.CallbackInterface else
    (if r == INTERFACE_DEFINITION then Some role.Interface else
    (if r == INTERFACE_MIXIN_DEFINITION then Some role.Mixin else
    (if r == NAMESPACE_DEFINITION then Some role.Namespace else
    (if r == DICTIONARY_DEFINITION then Some role.Dictionary else
    (if r == PARTIAL_INTERFACE_DEFINITION then Some role.PartialInterface else
    (if r == PARTIAL_INTERFACE_MIXIN_DEFINITION then Some role.PartialMixin else
    (if r == PARTIAL_DICTIONARY_DEFINITION then Some role.PartialDictionary else
    (if r == PARTIAL_NAMESPACE_DEFINITION then Some role.PartialNamespace else
    (if r == ENUM_DEFINITION then Some role.Enum else
    (if r == TYPEDEF_DEFINITION then Some role.Typedef else
    (if r == INCLUDES_STATEMENT_DEFINITION then Some role.Includer else
    (if r == IMPLEMENTS_DEFINITION then Some role.Implementer else None)))))))))))))

-- of the name that a member's own rule reads; an operation may be without one
abbrev pub of_member : ℕ → Option Role
of_member r =
    if r == CONST_MEMBER then Some role.Const else
    (if r == ATTRIBUTE_INTERFACE_MEMBER then Some role.Attribute else
    (if r == ATTRIBUTE_MIXIN_MEMBER then Some role.Attribute else
    (if r == ATTRIBUTE_NAMESPACE_MEMBER then Some role.Attribute else
    (if r == OPT_IDENTIFIER then Some role.Operation else
    (if r == DICTIONARY_MEMBER then Some role.DictionaryMember else None)))))

-- of the first name that a part of a definition or of a member reads
abbrev pub of_part : ℕ → Option Role
of_part r =
    if r == SINGLE_ARGUMENT then Some role.Argument else
    (if r == VARIADIC_ARGUMENT then Some role.Argument else
    (if r == MAY_BE_NULL_IDENTIFIER then Some role.Type else
    (if r == INHERITANCE then Some role.Inherited else
    (if r == EXTENDED_ATTRIBUTE_ARG_LIST then Some role.ExtendedAttribute else
    (if r == EXTENDED_ATTRIBUTE_NAMED_ARG_LIST then Some role.ExtendedAttribute else
    (if r == EXTENDED_ATTRIBUTE_IDENT_LIST then Some role.ExtendedAttribute else
    (if r == EXTENDED_ATTRIBUTE_IDENT then Some role.ExtendedAttribute else
    (if r == EXTENDED_ATTRIBUTE_NO_ARGS then Some role.ExtendedAttribute else
    (if r == IDENTIFIER_LIST then Some role.ExtendedAttributeValue else
    (if r == TAIL_IDENTIFIER_COMMA then Some role.ExtendedAttributeValue else
    (if r == IDENTIFIER_OR_STRING then Some role.ExtendedAttributeValue else None)))))))))))

-- of the first name that a rule of today's definitions reads
abbrev pub of_today_definition : ℕ → Option Role
of_today_definition r =
    if r == TODAY_CALLBACK then Some role.Callback else
    (if r == TODAY_CALLBACK_INTERFACE then Some role.CallbackInterface else
    (if r == TODAY_INTERFACE then Some role.Interface else
    (if r == TODAY_MIXIN then Some role.Mixin else
    (if r == TODAY_NAMESPACE then Some role.Namespace else
    (if r == TODAY_DICTIONARY then Some role.Dictionary else
    (if r == TODAY_PARTIAL_INTERFACE then Some role.PartialInterface else
    (if r == TODAY_PARTIAL_MIXIN then Some role.PartialMixin else
    (if r == TODAY_PARTIAL_DICTIONARY then Some role.PartialDictionary else
    (if r == TODAY_PARTIAL_NAMESPACE then Some role.PartialNamespace else
    (if r == TODAY_ENUM then Some role.Enum else
    (if r == TODAY_TYPEDEF then Some role.Typedef else
    (if r == TODAY_INCLUDES then Some role.Includer else
    (if r == TODAY_IMPLEMENTS then Some role.Implementer else None)))))))))))))

-- of the name that a rule of today's members reads, or of the first name that a rule of their parts reads
abbrev pub of_today_part : ℕ → Option Role
of_today_part r =
    if r == TODAY_CONST then Some role.Const else
    (if r == TODAY_ATTRIBUTE_MEMBER then Some role.Attribute else
    (if r == TODAY_MIXIN_ATTRIBUTE then Some role.Attribute else
    (if r == TODAY_NAMESPACE_ATTRIBUTE then Some role.Attribute else
    (if r == TODAY_DICTIONARY_MEMBER then Some role.DictionaryMember else
    (if r == TODAY_OPTIONAL_ARGUMENT then Some role.Argument else
    (if r == TODAY_REQUIRED_ARGUMENT then Some role.Argument else
    (if r == TODAY_ATTRIBUTE_ARG_LIST then Some role.ExtendedAttribute else
    (if r == TODAY_ATTRIBUTE_NAMED_ARG_LIST then Some role.ExtendedAttribute else
    (if r == TODAY_ATTRIBUTE_WILDCARD then Some role.ExtendedAttribute else
    (if r == TODAY_ATTRIBUTE_NUMBER then Some role.ExtendedAttribute else
    (if r == TODAY_ATTRIBUTE_STRINGS then Some role.ExtendedAttribute else
    (if r == TODAY_ATTRIBUTE_NUMBERS then Some role.ExtendedAttribute else None))))))))))))

-- of a name before which the same rule has read another, where it isn't that of the first
abbrev pub of_later : ℕ → Option Role
of_later r =
    if r == EXTENDED_ATTRIBUTE_NAMED_ARG_LIST then Some role.ExtendedAttributeValue else
    (if r == INCLUDES_STATEMENT_DEFINITION then Some role.Included else
    (if r == IMPLEMENTS_DEFINITION then Some role.Implemented else
    (if r == TODAY_ATTRIBUTE_NAMED_ARG_LIST then Some role.ExtendedAttributeValue else
    (if r == TODAY_INCLUDES then Some role.Included else
    (if r == TODAY_IMPLEMENTS then Some role.Implemented else None)))))

-- the one if it is there, and else the other
abbrev pub or_else : Option Role → Option Role → Option Role
or_else (Some one) other = Some one
or_else None other = other

-- of the first name that a rule reads; None of a rule that reads none
abbrev pub first_role : ℕ → Option Role
first_role r = or_else (of_definition r) (or_else (of_member r) (or_else (of_part r) (or_else (of_today_definition r) (of_today_part r))))

-- of a name, by the rule that reads it, and by whether that has read another before
abbrev pub role_of : ℕ → Bool → Option Role
role_of r later = if later then or_else (of_later r) (first_role r) else first_role r

-- a name of this role speaks of a definition, and isn't where that has its name
abbrev pub is_reference : Role → Bool
is_reference role.Callback = false
is_reference role.CallbackInterface = false
is_reference role.Interface = false
is_reference role.Mixin = false
is_reference role.Namespace = false
is_reference role.Dictionary = false
is_reference role.PartialInterface = true
is_reference role.PartialMixin = true
is_reference role.PartialDictionary = true
is_reference role.PartialNamespace = true
is_reference role.Enum = false
is_reference role.Typedef = false
is_reference role.Includer = true
is_reference role.Included = true
is_reference role.Implementer = true
is_reference role.Implemented = true
is_reference role.Const = false
is_reference role.Attribute = false
is_reference role.Operation = false
is_reference role.DictionaryMember = false
is_reference role.Argument = false
is_reference role.Type = true
is_reference role.Inherited = true
is_reference role.ExtendedAttribute = false
is_reference role.ExtendedAttributeValue = false
