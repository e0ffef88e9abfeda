-- Lists of names are compared by the texts of the names.
use Rattle.std.proofs.Common.{◌≡◌, Bool, true, false, ◌&&◌, IsTrue, ◌↔◌, List, [], ◌∷◌, nat_eq, refl, sym, ◌∙◌, Ordering, Less, Equal, Greater}
use Rattle.std.specs.Cmp.Derive.Mapped.{pointwise-map, lex_map}
use Rattle.std.specs.Cmp.Lexicographic.{pointwise, pointwise_decides, bytes_decides, slice_cmp}
use Rattle.std.specs.Ordering.{ordering_then, nat_cmp}
use Rattle.weedle_base.specs.Alike.{all_alike}
use Rattle.weedle_comparisons.specs.Keys.{texts_of}
use Rattle.weedle_parts.specs.declared.common.identifier.Identifier.{Identifier}

-- what follows a list is no part of the answer
pub and_true : (b : Bool) → (b && true) ≡ b
and_true true = refl
and_true false = refl

then_equal : (o : Ordering) → ordering_then o Equal ≡ o
then_equal Less = refl
then_equal Equal = refl
then_equal Greater = refl

-- `==` of two lists, and then of their separators
pub names_equal : (xs ys : List Identifier) (b : Bool) → b ≡ (pointwise (λ x y. pointwise nat_eq x.0.now y.0.now) xs ys && true)
    → IsTrue b ↔ (texts_of xs ≡ texts_of ys)
names_equal xs ys b e =
    rw (e ∙ and_true _ ∙ sym (pointwise-map (λ name. name.0.now) (pointwise nat_eq) xs ys)) (pointwise_decides bytes_decides (texts_of xs) (texts_of ys))

-- `cmp` of two lists, and then of their separators
pub names_order : (xs ys : List Identifier) (o : Ordering)
    → o ≡ ordering_then (slice_cmp (λ x y. slice_cmp nat_cmp x.0.now y.0.now) xs ys) Equal
    → o ≡ slice_cmp (slice_cmp nat_cmp) (texts_of xs) (texts_of ys)
names_order xs ys o e = e ∙ then_equal _ ∙ sym (lex_map (λ name. name.0.now) (slice_cmp nat_cmp) xs ys)

-- names that are alike one by one have the same texts
pub alike_texts : (xs ys : List Identifier) → all_alike (λ x y. x.0.now ≡ y.0.now) xs ys → texts_of xs ≡ texts_of ys
alike_texts [] [] h = refl
alike_texts [] (y ∷ ys) h = absurd h
alike_texts (x ∷ xs) [] h = absurd h
alike_texts (x ∷ xs) (y ∷ ys) h = λ i. h.0 i ∷ alike_texts xs ys h.1 i
