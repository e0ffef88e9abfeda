-- What definitions of many kinds have: extended attributes, a docstring, what they inherit from.
use Rattle.std.specs.Prelude.{Option, None}
use Rattle.weedle_idl.specs.declared.definition.Definition.{Definition}
use Rattle.weedle_idl.specs.declared.definition.Definition.TheVariants.{Callback as IsCallback, CallbackInterface as IsCallbackInterface, Interface as IsInterface, InterfaceMixin as IsInterfaceMixin, Namespace as IsNamespace, Dictionary as IsDictionary, PartialInterface as IsPartialInterface, PartialInterfaceMixin as IsPartialInterfaceMixin, PartialDictionary as IsPartialDictionary, PartialNamespace as IsPartialNamespace, Enum as IsEnum, Typedef as IsTypedef, IncludesStatement as IsIncludesStatement, Implements as IsImplements}
use Rattle.weedle_parts.specs.declared.inheritance.Inheritance.{Inheritance}
use Rattle.weedle_parts.specs.declared.common.docstring.Docstring.{Docstring}
use Rattle.weedle_types.specs.PartTrees.{Attributes}

-- the extended attributes of a definition, where brackets are
abbrev pub attributes_of_definition : Definition → Attributes
attributes_of_definition (IsCallback v) = v.attributes
attributes_of_definition (IsCallbackInterface v) = v.attributes
attributes_of_definition (IsInterface v) = v.attributes
attributes_of_definition (IsInterfaceMixin v) = v.attributes
attributes_of_definition (IsNamespace v) = v.attributes
attributes_of_definition (IsDictionary v) = v.attributes
attributes_of_definition (IsPartialInterface v) = v.attributes
attributes_of_definition (IsPartialInterfaceMixin v) = v.attributes
attributes_of_definition (IsPartialDictionary v) = v.attributes
attributes_of_definition (IsPartialNamespace v) = v.attributes
attributes_of_definition (IsEnum v) = v.attributes
attributes_of_definition (IsTypedef v) = v.attributes
attributes_of_definition (IsIncludesStatement v) = v.attributes
attributes_of_definition (IsImplements v) = v.attributes

-- the docstring of a definition, where its kind has that field and one is
abbrev pub docstring_of_definition : Definition → Option Docstring
docstring_of_definition (IsCallback v) = None
docstring_of_definition (IsCallbackInterface v) = v.docstring
docstring_of_definition (IsInterface v) = v.docstring
docstring_of_definition (IsInterfaceMixin v) = None
docstring_of_definition (IsNamespace v) = v.docstring
docstring_of_definition (IsDictionary v) = v.docstring
docstring_of_definition (IsPartialInterface v) = None
docstring_of_definition (IsPartialInterfaceMixin v) = None
docstring_of_definition (IsPartialDictionary v) = None
docstring_of_definition (IsPartialNamespace v) = None
docstring_of_definition (IsEnum v) = v.docstring
docstring_of_definition (IsTypedef v) = None
docstring_of_definition (IsIncludesStatement v) = None
docstring_of_definition (IsImplements v) = None

-- what a definition inherits from, where its kind has that field and says so
abbrev pub inheritance_of_definition : Definition → Option Inheritance
inheritance_of_definition (IsCallback v) = None
inheritance_of_definition (IsCallbackInterface v) = v.inheritance
inheritance_of_definition (IsInterface v) = v.inheritance
inheritance_of_definition (IsInterfaceMixin v) = None
inheritance_of_definition (IsNamespace v) = None
inheritance_of_definition (IsDictionary v) = v.inheritance
inheritance_of_definition (IsPartialInterface v) = None
inheritance_of_definition (IsPartialInterfaceMixin v) = None
inheritance_of_definition (IsPartialDictionary v) = None
inheritance_of_definition (IsPartialNamespace v) = None
inheritance_of_definition (IsEnum v) = None
inheritance_of_definition (IsTypedef v) = None
inheritance_of_definition (IsIncludesStatement v) = None
inheritance_of_definition (IsImplements v) = None
