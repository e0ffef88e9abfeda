-- Extended attributes with a list of names are compared by their own names, and then by the texts of the listed names.
use Rattle.std.proofs.Common.{◌≡◌, ℕ, Bool, true, ◌&&◌, IsTrue, ◌↔◌, List, [], ◌∷◌, nat_eq, refl, ap, sym, ◌∙◌, map}
use Rattle.std.proofs.lemmas.Bool.Decides.{Decides-and}
use Rattle.std.specs.Cmp.Lexicographic.{pointwise, bytes_decides}
use Rattle.weedle_comparisons.specs.Keys.{texts_of}
use Rattle.weedle_comparisons.proofs.NameLists.{and_true, names_equal}
use Rattle.weedle_parts.specs.ValueTrees.{identifier_tree}
use Rattle.weedle_parts.specs.declared.common.identifier.Identifier.{Identifier}
use Rattle.weedle_grammar.specs.Trees.{Tree, Trees, Mark, Text, Node, Alt, Absent, Present, Items, Lines, Done, Then, trees}
use Rattle.weedle_types.specs.Trees.{extended_attribute_ident_list_tree}
use Rattle.weedle_types.specs.declared.attribute.ExtendedAttributeIdentList.{ExtendedAttributeIdentList}

-- `==` of two names, and then of two lists in their parentheses
pub listings_equal : (i j : List ℕ) (xs ys : List Identifier) (b : Bool)
    → b ≡ (pointwise nat_eq i j && ((pointwise (λ x y. pointwise nat_eq x.0.now y.0.now) xs ys && true) && true))
    → IsTrue b ↔ ((i ≡ j) × (texts_of xs ≡ texts_of ys))
listings_equal i j xs ys b e = rw e (Decides-and _ _ (bytes_decides i j) (names_equal xs ys _ (and_true _)))

-- the text that a tree is
abbrev text_in : Tree → List ℕ
text_in Mark = []
text_in (Text s) = s
text_in (Node ts) = []
text_in (Alt n t) = []
text_in Absent = []
text_in (Present t) = []
text_in (Items ts) = []
text_in (Lines s) = []

-- the texts that trees are
abbrev texts_in : Trees → List (List ℕ)
texts_in Done = []
texts_in (Then t ts) = text_in t ∷ texts_in ts

-- the trees in a tree
abbrev parts_of : Tree → Trees
parts_of Mark = Done
parts_of (Text s) = Done
parts_of (Node ts) = ts
parts_of (Alt n t) = Done
parts_of Absent = Done
parts_of (Present t) = Done
parts_of (Items ts) = ts
parts_of (Lines s) = Done

-- the first of trees
abbrev first_of_trees : Trees → Tree
first_of_trees Done = Mark
first_of_trees (Then t ts) = t

-- trees but the first
abbrev later : Trees → Trees
later Done = Done
later (Then t ts) = ts

texts_in_names : (xs : List Identifier) → texts_in (trees (map identifier_tree xs)) ≡ texts_of xs
texts_in_names [] = refl
texts_in_names (x ∷ xs) = ap (x.0.now ∷◌) (texts_in_names xs)

-- the name of an extended attribute in its tree
abbrev name_in : Tree → List ℕ
name_in t = text_in (first_of_trees (parts_of t))

-- the listed names of an extended attribute in its tree
abbrev listed_in : Tree → List (List ℕ)
listed_in t = texts_in (parts_of (first_of_trees (later (parts_of (first_of_trees (later (later (parts_of t))))))))

-- extended attributes of the same tree have the same name
pub alike_names : (a b : ExtendedAttributeIdentList) → extended_attribute_ident_list_tree a ≡ extended_attribute_ident_list_tree b
    → a.identifier.0.now ≡ b.identifier.0.now
alike_names a b e = ap name_in e

-- extended attributes of the same tree list the same names
pub alike_listed : (a b : ExtendedAttributeIdentList) → extended_attribute_ident_list_tree a ≡ extended_attribute_ident_list_tree b
    → texts_of a.list.body.list.items ≡ texts_of b.list.body.list.items
alike_listed a b e = sym (texts_in_names a.list.body.list.items) ∙ ap listed_in e ∙ texts_in_names b.list.body.list.items
