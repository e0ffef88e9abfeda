-- Written by tools/orders.py, and not edited by hand.
use Rattle.std.proofs.Common.{◌≡◌, ◌∙◌, inl, inr, refl}
use denote.Hole.Carrier
use denote.Signature.{static_lft}
use Rattle.weedle_types.specs.contracts.attribute.ExtendedAttribute as type
use Rattle.weedle_types.specs.contracts.attribute.ExtendedAttributeOrd.TheImpl.Laws as order
use Rattle.weedle_types.specs.declared.argument.Argument.TheViews as view
use Rattle.weedle_types.specs.declared.attribute.ExtendedAttribute.{ExtendedAttribute}
use Rattle.weedle_types.specs.declared.attribute.ExtendedAttribute.TheVariants.{ArgList' as ExtendedAttribute-ArgList', NamedArgList' as ExtendedAttribute-NamedArgList', IdentList as ExtendedAttribute-IdentList, Ident as ExtendedAttribute-Ident, NoArgs as ExtendedAttribute-NoArgs}
use Rattle.weedle_comparisons.specs.written.Places.{extended_attribute_place}
use Rattle.weedle_comparisons.proofs.Choices.{by_after, by_before, by_same, place_of}
use Rattle.weedle_comparisons.proofs.orders.written.attributes.extended_attribute.Goals as goal

place_is : (x : ExtendedAttribute) → place_of (type.the_parts static_lft) (type.as_values static_lft x) ≡ extended_attribute_place x
unfolding view.out-ExtendedAttribute denote.Hole.Carrier.out
place_is (ExtendedAttribute-ArgList' _ _ _ _ _ _) = refl
place_is (ExtendedAttribute-NamedArgList' _ _ _ _ _ _ _ _) = refl
place_is (ExtendedAttribute-IdentList _) = refl
place_is (ExtendedAttribute-Ident _) = refl
place_is (ExtendedAttribute-NoArgs _) = refl

pub returns-clause-earlier : goal.returns-clause-earlier
returns-clause-earlier c a b h = order.is _ _ ∙ by_before _ _ (type.the_parts static_lft) _ (type.as_values static_lft a) (type.as_values static_lft b) (rw (place_is a, place_is b) h)

pub returns-clause-later : goal.returns-clause-later
returns-clause-later c a b h = order.is _ _ ∙ by_after _ _ (type.the_parts static_lft) _ (type.as_values static_lft a) (type.as_values static_lft b) (rw (place_is a, place_is b) h)

pub returns-clause-arg_list : goal.returns-clause-arg_list
returns-clause-arg_list c a b = order.is _ _ ∙ by_same _ _ (type.the_parts static_lft) _ (view.parts_whole-ExtendedAttribute (inl (a, tt))) (view.parts_whole-ExtendedAttribute (inl (b, tt)))

pub returns-clause-named_arg_list : goal.returns-clause-named_arg_list
returns-clause-named_arg_list c a b = order.is _ _ ∙ by_same _ _ (type.the_parts static_lft) _ (view.parts_whole-ExtendedAttribute (inr (inl (a, tt)))) (view.parts_whole-ExtendedAttribute (inr (inl (b, tt))))

pub returns-clause-ident_list : goal.returns-clause-ident_list
returns-clause-ident_list c a b = order.is _ _ ∙ by_same _ _ (type.the_parts static_lft) _ (view.parts_whole-ExtendedAttribute (inr (inr (inl (a, tt))))) (view.parts_whole-ExtendedAttribute (inr (inr (inl (b, tt)))))

pub returns-clause-ident : goal.returns-clause-ident
returns-clause-ident c a b = order.is _ _ ∙ by_same _ _ (type.the_parts static_lft) _ (view.parts_whole-ExtendedAttribute (inr (inr (inr (inl (a, tt)))))) (view.parts_whole-ExtendedAttribute (inr (inr (inr (inl (b, tt))))))

pub returns-clause-no_args : goal.returns-clause-no_args
returns-clause-no_args c a b = order.is _ _ ∙ by_same _ _ (type.the_parts static_lft) _ (view.parts_whole-ExtendedAttribute (inr (inr (inr (inr (inl (a, tt))))))) (view.parts_whole-ExtendedAttribute (inr (inr (inr (inr (inl (b, tt)))))))
