-- Written by tools/orders.py, and not edited by hand.
use Rattle.std.proofs.Common.{◌≡◌, ◌∙◌, inl, inr, refl}
use denote.Hole.Carrier
use denote.Signature.{static_lft}
use Rattle.weedle_types.specs.contracts.types.UnionMemberType as type
use Rattle.weedle_types.specs.contracts.types.UnionMemberTypeOrd.TheImpl.Laws as order
use Rattle.weedle_types.specs.declared.argument.Argument.TheViews as view
use Rattle.weedle_types.specs.declared.types.UnionMemberType.{UnionMemberType}
use Rattle.weedle_types.specs.declared.types.UnionMemberType.TheVariants.{Single' as UnionMemberType-Single', Union' as UnionMemberType-Union'}
use Rattle.weedle_comparisons.specs.written.Places.{union_member_type_place}
use Rattle.weedle_comparisons.proofs.Choices.{by_after, by_before, by_same, place_of}
use Rattle.weedle_comparisons.proofs.orders.written.types.union_member_type.Goals as goal

place_is : (x : UnionMemberType) → place_of (type.the_parts static_lft) (type.as_values static_lft x) ≡ union_member_type_place x
unfolding view.out-UnionMemberType denote.Hole.Carrier.out
place_is (UnionMemberType-Single' _ _) = refl
place_is (UnionMemberType-Union' _ _ _ _ _ _) = refl

pub returns-clause-earlier : goal.returns-clause-earlier
returns-clause-earlier c a b h = order.is _ _ ∙ by_before _ _ (type.the_parts static_lft) _ (type.as_values static_lft a) (type.as_values static_lft b) (rw (place_is a, place_is b) h)

pub returns-clause-later : goal.returns-clause-later
returns-clause-later c a b h = order.is _ _ ∙ by_after _ _ (type.the_parts static_lft) _ (type.as_values static_lft a) (type.as_values static_lft b) (rw (place_is a, place_is b) h)

pub returns-clause-single : goal.returns-clause-single
returns-clause-single c a b = order.is _ _ ∙ by_same _ _ (type.the_parts static_lft) _ (view.parts_whole-UnionMemberType (inl (a, tt))) (view.parts_whole-UnionMemberType (inl (b, tt)))

pub returns-clause-union : goal.returns-clause-union
returns-clause-union c a b = order.is _ _ ∙ by_same _ _ (type.the_parts static_lft) _ (view.parts_whole-UnionMemberType (inr (inl (a, tt)))) (view.parts_whole-UnionMemberType (inr (inl (b, tt))))
