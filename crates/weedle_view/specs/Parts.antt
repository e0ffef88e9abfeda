-- What belongs to a name: its definition, its parts, and what is included into it.
use Rattle.std.specs.List.{list_any}
use Rattle.std.specs.Prelude.{ℕ, Bool, true, false, ◌&&◌, List, bytes_eq}
use Rattle.weedle_idl.specs.declared.definition.Definition.{Definition}
use Rattle.weedle_idl.specs.declared.definition.Definition.TheVariants.{Callback as IsCallback, CallbackInterface as IsCallbackInterface, Interface as IsInterface, InterfaceMixin as IsInterfaceMixin, Namespace as IsNamespace, Dictionary as IsDictionary, PartialInterface as IsPartialInterface, PartialInterfaceMixin as IsPartialInterfaceMixin, PartialDictionary as IsPartialDictionary, PartialNamespace as IsPartialNamespace, Enum as IsEnum, Typedef as IsTypedef, IncludesStatement as IsIncludesStatement, Implements as IsImplements}
use Rattle.weedle_view.specs.Titles.{name_text}

-- neither a part nor a statement
abbrev pub is_whole : Definition → Bool
is_whole (IsCallback v) = true
is_whole (IsCallbackInterface v) = true
is_whole (IsInterface v) = true
is_whole (IsInterfaceMixin v) = true
is_whole (IsNamespace v) = true
is_whole (IsDictionary v) = true
is_whole (IsPartialInterface v) = false
is_whole (IsPartialInterfaceMixin v) = false
is_whole (IsPartialDictionary v) = false
is_whole (IsPartialNamespace v) = false
is_whole (IsEnum v) = true
is_whole (IsTypedef v) = true
is_whole (IsIncludesStatement v) = false
is_whole (IsImplements v) = false

-- a part
abbrev pub is_part : Definition → Bool
is_part (IsCallback v) = false
is_part (IsCallbackInterface v) = false
is_part (IsInterface v) = false
is_part (IsInterfaceMixin v) = false
is_part (IsNamespace v) = false
is_part (IsDictionary v) = false
is_part (IsPartialInterface v) = true
is_part (IsPartialInterfaceMixin v) = true
is_part (IsPartialDictionary v) = true
is_part (IsPartialNamespace v) = true
is_part (IsEnum v) = false
is_part (IsTypedef v) = false
is_part (IsIncludesStatement v) = false
is_part (IsImplements v) = false

-- a mixin or a part of one
abbrev pub is_mixin : Definition → Bool
is_mixin (IsCallback v) = false
is_mixin (IsCallbackInterface v) = false
is_mixin (IsInterface v) = false
is_mixin (IsInterfaceMixin v) = true
is_mixin (IsNamespace v) = false
is_mixin (IsDictionary v) = false
is_mixin (IsPartialInterface v) = false
is_mixin (IsPartialInterfaceMixin v) = true
is_mixin (IsPartialDictionary v) = false
is_mixin (IsPartialNamespace v) = false
is_mixin (IsEnum v) = false
is_mixin (IsTypedef v) = false
is_mixin (IsIncludesStatement v) = false
is_mixin (IsImplements v) = false

-- the statement that includes the mixin into the name
abbrev pub includes : List ℕ → List ℕ → Definition → Bool
includes name mixin (IsCallback v) = false
includes name mixin (IsCallbackInterface v) = false
includes name mixin (IsInterface v) = false
includes name mixin (IsInterfaceMixin v) = false
includes name mixin (IsNamespace v) = false
includes name mixin (IsDictionary v) = false
includes name mixin (IsPartialInterface v) = false
includes name mixin (IsPartialInterfaceMixin v) = false
includes name mixin (IsPartialDictionary v) = false
includes name mixin (IsPartialNamespace v) = false
includes name mixin (IsEnum v) = false
includes name mixin (IsTypedef v) = false
includes name mixin (IsIncludesStatement v) = bytes_eq v.lhs_identifier.0.now name && bytes_eq v.rhs_identifier.0.now mixin
includes name mixin (IsImplements v) = false

-- a definition or a part of this name
unfoldable pub is_whole_of : List ℕ → Definition → Bool
is_whole_of name d = is_whole d && bytes_eq (name_text d) name

-- a part of this name
unfoldable pub is_part_of : List ℕ → Definition → Bool
is_part_of name d = is_part d && bytes_eq (name_text d) name

-- a mixin that a statement of the list includes into the name, or a part of such a mixin
unfoldable pub is_included_in : List Definition → List ℕ → Definition → Bool
is_included_in definitions name d = is_mixin d && list_any (includes name (name_text d)) definitions
