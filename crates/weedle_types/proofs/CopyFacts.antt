-- Parts that are alike have the same tree.
use Rattle.std.proofs.Common.{ap, refl}
use Rattle.std.specs.Global.{Vec}
use Rattle.std.specs.Prelude.{List, None, Option, Some, [], map, string_bytes, ◌∷◌, ◌≡◌}
use Rattle.weedle_base.specs.Alike.{all_alike, option_alike}
use Rattle.weedle_base.specs.Rules.{option_tree}
use Rattle.weedle_parts.specs.ValueTrees.{bracket_tree, docstring_tree}
use Rattle.weedle_parts.specs.declared.common.docstring.Docstring.{Docstring}
use Rattle.weedle_grammar.specs.Trees.{Items, Lines, Present, Tree, trees}
use Rattle.weedle_types.specs.GenericsTrees.{OneType, TwoTypes, one_type_tree, two_types_tree}
use Rattle.weedle_types.specs.PartTrees.{Attributes, members_tree}
use Rattle.weedle_types.specs.Trees.{attributed_type_tree, attributes_tree, extended_attribute_list_tree, extended_attribute_tree}

-- items
pub items_alike : {V : Type 0} (tree : V → Tree) (vs ws : List V) → all_alike (λ v w. tree v ≡ tree w) vs ws → trees (map tree vs) ≡ trees (map tree ws)
items_alike tree [] [] h = refl
items_alike tree [] (w ∷ ws) h = absurd h
items_alike tree (v ∷ vs) [] h = absurd h
items_alike tree (v ∷ vs) (w ∷ ws) h = rw (h.0, items_alike tree vs ws h.1) refl

-- options
pub option_same : {V : Type 0} (tree : V → Tree) (alike : V → V → Type 0) → ((v w : V) → alike v w → tree v ≡ tree w) → (a b : Option V) → option_alike alike a b → option_tree tree a ≡ option_tree tree b
option_same tree alike same (Some v) (Some w) h = ap Present (same v w h)
option_same tree alike same (Some v) None h = absurd h
option_same tree alike same None (Some w) h = absurd h
option_same tree alike same None None h = refl

-- docstrings
pub docstring_alike : (a b : Option Docstring) → option_alike (λ v w. string_bytes v.0 ≡ string_bytes w.0) a b → option_tree docstring_tree a ≡ option_tree docstring_tree b
docstring_alike a b h = option_same docstring_tree (λ v w. string_bytes v.0 ≡ string_bytes w.0) (λ v w e. ap Lines e) a b h

-- extended attributes
pub attributes_alike : (a b : Attributes) → option_alike (λ v w. all_alike (λ x y. extended_attribute_tree x ≡ extended_attribute_tree y) v.body.list.items w.body.list.items × (v.body.separator ≡ w.body.separator)) a b → attributes_tree a ≡ attributes_tree b
attributes_alike a b h = option_same extended_attribute_list_tree _ (λ v w e. ap (λ ts. bracket_tree (Items ts)) (items_alike extended_attribute_tree v.body.list.items w.body.list.items e.0)) a b h

-- members one after another
pub members_alike : {V : Type 0} (tree : V → Tree) (a b : Vec V) → all_alike (λ v w. tree v ≡ tree w) a.items b.items → members_tree tree a ≡ members_tree tree b
members_alike tree a b h = ap Items (items_alike tree a.items b.items h)

-- a type between angle brackets
pub one_type_alike : (a b : OneType) → attributed_type_tree a.body ≡ attributed_type_tree b.body → one_type_tree a ≡ one_type_tree b
one_type_alike a b h = ap bracket_tree h

-- the types of keys and values
pub two_types_alike : (a b : TwoTypes) → (attributed_type_tree a.body.0 ≡ attributed_type_tree b.body.0) × ((a.body.1 ≡ b.body.1) × (attributed_type_tree a.body.2 ≡ attributed_type_tree b.body.2)) → two_types_tree a ≡ two_types_tree b
two_types_alike a b h = rw (h.0, h.1.1) refl
