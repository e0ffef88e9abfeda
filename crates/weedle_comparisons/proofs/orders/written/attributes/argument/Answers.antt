-- Written by tools/orders.py, and not edited by hand.
use Rattle.std.proofs.Common.{◌≡◌, ◌∙◌, inl, inr, refl}
use denote.Hole.Carrier
use denote.Signature.{static_lft}
use Rattle.weedle_types.specs.contracts.argument.Argument as type
use Rattle.weedle_types.specs.contracts.argument.ArgumentOrd.TheImpl.Laws as order
use Rattle.weedle_types.specs.declared.argument.Argument.TheViews as view
use Rattle.weedle_types.specs.declared.argument.Argument.{Argument}
use Rattle.weedle_types.specs.declared.argument.Argument.TheVariants.{Single' as Argument-Single', Variadic' as Argument-Variadic'}
use Rattle.weedle_comparisons.specs.written.Places.{argument_place}
use Rattle.weedle_comparisons.proofs.Choices.{by_after, by_before, by_same, place_of}
use Rattle.weedle_comparisons.proofs.orders.written.attributes.argument.Goals as goal

place_is : (x : Argument) → place_of (type.the_parts static_lft) (type.as_values static_lft x) ≡ argument_place x
unfolding view.out-Argument denote.Hole.Carrier.out
place_is (Argument-Single' _ _ _ _ _ _) = refl
place_is (Argument-Variadic' _ _ _ _) = refl

pub returns-clause-earlier : goal.returns-clause-earlier
returns-clause-earlier c a b h = order.is _ _ ∙ by_before _ _ (type.the_parts static_lft) _ (type.as_values static_lft a) (type.as_values static_lft b) (rw (place_is a, place_is b) h)

pub returns-clause-later : goal.returns-clause-later
returns-clause-later c a b h = order.is _ _ ∙ by_after _ _ (type.the_parts static_lft) _ (type.as_values static_lft a) (type.as_values static_lft b) (rw (place_is a, place_is b) h)

pub returns-clause-single : goal.returns-clause-single
returns-clause-single c a b = order.is _ _ ∙ by_same _ _ (type.the_parts static_lft) _ (view.parts_whole-Argument (inl (a, tt))) (view.parts_whole-Argument (inl (b, tt)))

pub returns-clause-variadic : goal.returns-clause-variadic
returns-clause-variadic c a b = order.is _ _ ∙ by_same _ _ (type.the_parts static_lft) _ (view.parts_whole-Argument (inr (inl (a, tt)))) (view.parts_whole-Argument (inr (inl (b, tt))))
