-- The kind and the name of a definition.
use Rattle.std.specs.Prelude.{ℕ, List, codes}
use Rattle.weedle_idl.specs.declared.definition.Definition.{Definition}
use Rattle.weedle_idl.specs.declared.definition.Definition.TheVariants.{Callback as IsCallback, CallbackInterface as IsCallbackInterface, Interface as IsInterface, InterfaceMixin as IsInterfaceMixin, Namespace as IsNamespace, Dictionary as IsDictionary, PartialInterface as IsPartialInterface, PartialInterfaceMixin as IsPartialInterfaceMixin, PartialDictionary as IsPartialDictionary, PartialNamespace as IsPartialNamespace, Enum as IsEnum, Typedef as IsTypedef, IncludesStatement as IsIncludesStatement, Implements as IsImplements}

-- the word for the kind of a definition
abbrev pub kind_text : Definition → List ℕ
kind_text (IsCallback v) = codes "callback"
kind_text (IsCallbackInterface v) = codes "callback interface"
kind_text (IsInterface v) = codes "interface"
kind_text (IsInterfaceMixin v) = codes "interface mixin"
kind_text (IsNamespace v) = codes "namespace"
kind_text (IsDictionary v) = codes "dictionary"
kind_text (IsPartialInterface v) = codes "partial interface"
kind_text (IsPartialInterfaceMixin v) = codes "partial interface mixin"
kind_text (IsPartialDictionary v) = codes "partial dictionary"
kind_text (IsPartialNamespace v) = codes "partial namespace"
kind_text (IsEnum v) = codes "enum"
kind_text (IsTypedef v) = codes "typedef"
kind_text (IsIncludesStatement v) = codes "includes"
kind_text (IsImplements v) = codes "implements"

-- the name of a definition, as its identifier has it; of a statement its first identifier
abbrev pub name_text : Definition → List ℕ
name_text (IsCallback v) = v.identifier.0.now
name_text (IsCallbackInterface v) = v.identifier.0.now
name_text (IsInterface v) = v.identifier.0.now
name_text (IsInterfaceMixin v) = v.identifier.0.now
name_text (IsNamespace v) = v.identifier.0.now
name_text (IsDictionary v) = v.identifier.0.now
name_text (IsPartialInterface v) = v.identifier.0.now
name_text (IsPartialInterfaceMixin v) = v.identifier.0.now
name_text (IsPartialDictionary v) = v.identifier.0.now
name_text (IsPartialNamespace v) = v.identifier.0.now
name_text (IsEnum v) = v.identifier.0.now
name_text (IsTypedef v) = v.identifier.0.now
name_text (IsIncludesStatement v) = v.lhs_identifier.0.now
name_text (IsImplements v) = v.lhs_identifier.0.now
