-- An item of a list has a smaller tree than the list.
use Rattle.std.proofs.Common.{◌≡◌, ℕ, zero, suc, ◌+◌, ◌<◌, List, [], ◌∷◌, length, get_or, map, refl, ap, arith}
use Rattle.weedle_grammar.specs.Trees.{Tree, trees}
use Rattle.weedle_types.specs.TreeSize.{tree_size, trees_size}
use Rattle.weedle_types.specs.Trees.{argument_tree, extended_attribute_tree, union_member_type_tree}
use Rattle.weedle_types.specs.declared.argument.Argument.{Argument}
use Rattle.weedle_types.specs.declared.attribute.ExtendedAttribute.{ExtendedAttribute}
use Rattle.weedle_types.specs.declared.types.UnionMemberType.{UnionMemberType}

smaller : {V : Type 0} (f : V → Tree) (xs : List V) (k : ℕ) (v : V) → v ≡ get_or xs k v → k < length xs → tree_size (f v) < suc (trees_size (trees (map f xs)))
smaller f [] k v e h = absurd (omega (arith, h))
smaller f (x ∷ xs) zero v e h =
    let g : tree_size (f v) ≡ tree_size (f x) = ap (λ y. tree_size (f y)) e in
    let s : trees_size (trees (map f (x ∷ xs))) ≡ tree_size (f x) + trees_size (trees (map f xs)) = refl in
    omega (arith, g, s)
smaller f (x ∷ xs) (suc k) v e h =
    let r = smaller f xs k v e (omega (arith, h)) in
    let s : trees_size (trees (map f (x ∷ xs))) ≡ tree_size (f x) + trees_size (trees (map f xs)) = refl in
    omega (arith, r, s)

pub argument_smaller : (xs : List Argument) (k : ℕ) (v : Argument) → v ≡ get_or xs k v → k < length xs → tree_size (argument_tree v) < suc (trees_size (trees (map argument_tree xs)))
argument_smaller = smaller argument_tree

pub attribute_smaller : (xs : List ExtendedAttribute) (k : ℕ) (v : ExtendedAttribute) → v ≡ get_or xs k v → k < length xs → tree_size (extended_attribute_tree v) < suc (trees_size (trees (map extended_attribute_tree xs)))
attribute_smaller = smaller extended_attribute_tree

pub member_smaller : (xs : List UnionMemberType) (k : ℕ) (v : UnionMemberType) → v ≡ get_or xs k v → k < length xs → tree_size (union_member_type_tree v) < suc (trees_size (trees (map union_member_type_tree xs)))
member_smaller = smaller union_member_type_tree
