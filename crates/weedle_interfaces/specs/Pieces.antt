-- The rules of members of interfaces, a few at a time: a function reads so many.
use Rattle.std.specs.Prelude.{List, [], ℕ, ◌∷◌}
use Rattle.weedle_grammar.specs.written.Table.InterfaceMembers.{ASYNC_ITERABLE_INTERFACE_MEMBER, ATTRIBUTE_INTERFACE_MEMBER, CONSTRUCTOR_INTERFACE_MEMBER, CONST_MEMBER, ITERABLE_INTERFACE_MEMBER, MAPLIKE_INTERFACE_MEMBER, OPERATION_INTERFACE_MEMBER, SETLIKE_INTERFACE_MEMBER, STRINGIFIER_MEMBER}

-- the members up to operations
abbrev pub main_member_rules : List ℕ
main_member_rules = CONST_MEMBER ∷ ATTRIBUTE_INTERFACE_MEMBER ∷ CONSTRUCTOR_INTERFACE_MEMBER ∷ OPERATION_INTERFACE_MEMBER ∷ []

-- iterations
abbrev pub iterable_member_rules : List ℕ
iterable_member_rules = ITERABLE_INTERFACE_MEMBER ∷ ASYNC_ITERABLE_INTERFACE_MEMBER ∷ []

-- maps, sets, stringifiers
abbrev pub collection_member_rules : List ℕ
collection_member_rules = MAPLIKE_INTERFACE_MEMBER ∷ SETLIKE_INTERFACE_MEMBER ∷ STRINGIFIER_MEMBER ∷ []
