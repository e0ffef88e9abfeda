-- Each part is due where the ones before it were built, and the whole is built of its parts.
use Rattle.std.proofs.Common.{refl, arith, ap}
use Rattle.weedle_grammar.specs.written.Table.SimpleTypes.{OPT_Q_MARK}
use Rattle.weedle_grammar.specs.written.Table.Types.{OPT_DEFAULT, OPT_OPTIONAL}
use Rattle.weedle_types.specs.Trees.{argument_tree, extended_attribute_tree, record_key_type_tree, return_type_tree, type_tree, union_member_type_tree}
use Rattle.weedle_build_types.proofs.Calls.{behind, builds_as, kept, listing_behind, not_before, option_of, item_tried, rest_of_if}
use Rattle.weedle_build_types.proofs.Conditions.{if_due, if_not_there, if_there}
use Rattle.weedle_types.proofs.TreeLaws.{arg_list_of, argument_single_of, argument_variadic_of, named_arg_list_of, promise_of, record_of, single_type_of, union_of}
use Rattle.weedle_build_base.proofs.Choices.{chosen}
use Rattle.weedle_build_base.proofs.Finding.{absent, present}
use Rattle.weedle_build_base.proofs.Repeats.{map_push}
use Rattle.weedle_build_base.proofs.Options.{option_none, option_some}
use Rattle.weedle_build_base.proofs.Separated.{behind_due, behind_tried, due_list, list_built, list_empty, listing_back, listing_end, listing_next, listing_start, separator_tried}
use Rattle.weedle_build_base.proofs.Sequences.{front, next, node, rest_of_row, run_more, run_one}
use Rattle.weedle_build_base.proofs.WantedFacts.{list_tried, option_tried}
use Rattle.weedle_build_types.proofs.types.written.+group.Goals as goal

pub kinds::attributed_type-attributes-requires : goal.kinds::attributed_type-attributes-requires
kinds::attributed_type-attributes-requires t c = let d = front (rest_of_row c.requires refl) in (omega (arith, d.boundary.0), d)

pub kinds::attributed_type-type_-requires : goal.kinds::attributed_type-type_-requires
kinds::attributed_type-type_-requires t c = let d = front (next c.in_ok-attributes.ensures (rest_of_row c.requires refl)) in let b0 = not_before c.in_ok-attributes.ensures in (omega (arith, d.boundary.0), d)

pub kinds::attributed_type-returns : goal.kinds::attributed_type-returns
kinds::attributed_type-returns t c = node refl refl refl (run_more c.in_ok-attributes.ensures (run_one c.in_ok-type_.ensures)) c.visit.ensures

pub kinds::attributed_non_any_type-attributes-requires : goal.kinds::attributed_non_any_type-attributes-requires
kinds::attributed_non_any_type-attributes-requires t c = let d = front (rest_of_row c.requires refl) in (omega (arith, d.boundary.0), d)

pub kinds::attributed_non_any_type-non_any_type-requires : goal.kinds::attributed_non_any_type-non_any_type-requires
kinds::attributed_non_any_type-non_any_type-requires t c = let d = front (next c.in_ok-attributes.ensures (rest_of_row c.requires refl)) in let b0 = not_before c.in_ok-attributes.ensures in (omega (arith, d.boundary.0), d)

pub kinds::attributed_non_any_type-returns : goal.kinds::attributed_non_any_type-returns
kinds::attributed_non_any_type-returns t c = node refl refl refl (run_more c.in_ok-attributes.ensures (run_one c.in_ok-type_.ensures)) c.visit.ensures

pub generic_types::sequence_type-build-requires : goal.generic_types::sequence_type-build-requires
generic_types::sequence_type-build-requires t c = (refl, front (rest_of_row c.requires refl))

pub generic_types::sequence_type-generics_type-requires : goal.generic_types::sequence_type-generics_type-requires
generic_types::sequence_type-generics_type-requires t c = let d = front (next c.in_ok-sequence.ensures (rest_of_row c.requires refl)) in let b0 = behind refl c.in_ok-sequence.ensures in (omega (arith, d.boundary.0), d)

pub generic_types::sequence_type-returns : goal.generic_types::sequence_type-returns
generic_types::sequence_type-returns t c = node refl refl refl (run_more c.in_ok-sequence.ensures (run_one c.in_ok-generics.ensures)) c.visit.ensures

pub generic_types::frozen_array_type-build-requires : goal.generic_types::frozen_array_type-build-requires
generic_types::frozen_array_type-build-requires t c = (refl, front (rest_of_row c.requires refl))

pub generic_types::frozen_array_type-generics_type-requires : goal.generic_types::frozen_array_type-generics_type-requires
generic_types::frozen_array_type-generics_type-requires t c = let d = front (next c.in_ok-frozen_array.ensures (rest_of_row c.requires refl)) in let b0 = behind refl c.in_ok-frozen_array.ensures in (omega (arith, d.boundary.0), d)

pub generic_types::frozen_array_type-returns : goal.generic_types::frozen_array_type-returns
generic_types::frozen_array_type-returns t c = node refl refl refl (run_more c.in_ok-frozen_array.ensures (run_one c.in_ok-generics.ensures)) c.visit.ensures

pub generic_types::promise_type-build-requires : goal.generic_types::promise_type-build-requires
generic_types::promise_type-build-requires t c = (refl, front (rest_of_row c.requires refl))

pub generic_types::promise_type-generics_return_type-requires : goal.generic_types::promise_type-generics_return_type-requires
generic_types::promise_type-generics_return_type-requires t c = let d = front (next c.in_ok-promise.ensures (rest_of_row c.requires refl)) in let b0 = behind refl c.in_ok-promise.ensures in (omega (arith, d.boundary.0), d)

pub generic_types::promise_type-returns : goal.generic_types::promise_type-returns
generic_types::promise_type-returns t c = node refl refl refl (run_more c.in_ok-promise.ensures (run_one c.in_ok-generics.ensures)) c.visit.ensures

pub generic_types::record_type-build-requires : goal.generic_types::record_type-build-requires
generic_types::record_type-build-requires t c = (refl, front (rest_of_row c.requires refl))

pub generic_types::record_type-generics_record_types-requires : goal.generic_types::record_type-generics_record_types-requires
generic_types::record_type-generics_record_types-requires t c = let d = front (next c.in_ok-record_.ensures (rest_of_row c.requires refl)) in let b0 = behind refl c.in_ok-record_.ensures in (omega (arith, d.boundary.0), d)

pub generic_types::record_type-returns : goal.generic_types::record_type-returns
generic_types::record_type-returns t c = node refl refl refl (run_more c.in_ok-record_.ensures (run_one c.in_ok-generics.ensures)) c.visit.ensures

pub generic_types::nullable_sequence_type-sequence_type-requires : goal.generic_types::nullable_sequence_type-sequence_type-requires
generic_types::nullable_sequence_type-sequence_type-requires t c = let d = front (rest_of_row c.requires refl) in (omega (arith, d.boundary.0), d)

pub generic_types::nullable_sequence_type-optional-requires : goal.generic_types::nullable_sequence_type-optional-requires
generic_types::nullable_sequence_type-optional-requires t c = λ k. ((refl, tt), (refl, item_tried refl (front (next c.in_ok-type_.ensures (rest_of_row c.requires refl)))))

pub generic_types::nullable_sequence_type-returns : goal.generic_types::nullable_sequence_type-returns
generic_types::nullable_sequence_type-returns t c = node refl refl refl (run_more c.in_ok-type_.ensures (run_one (c.in_ok-q_mark.ensures OPT_Q_MARK (option_of refl refl)))) c.visit.ensures

pub generic_types::nullable_frozen_array_type-frozen_array_type-requires : goal.generic_types::nullable_frozen_array_type-frozen_array_type-requires
generic_types::nullable_frozen_array_type-frozen_array_type-requires t c = let d = front (rest_of_row c.requires refl) in (omega (arith, d.boundary.0), d)

pub generic_types::nullable_frozen_array_type-optional-requires : goal.generic_types::nullable_frozen_array_type-optional-requires
generic_types::nullable_frozen_array_type-optional-requires t c = λ k. ((refl, tt), (refl, item_tried refl (front (next c.in_ok-type_.ensures (rest_of_row c.requires refl)))))

pub generic_types::nullable_frozen_array_type-returns : goal.generic_types::nullable_frozen_array_type-returns
generic_types::nullable_frozen_array_type-returns t c = node refl refl refl (run_more c.in_ok-type_.ensures (run_one (c.in_ok-q_mark.ensures OPT_Q_MARK (option_of refl refl)))) c.visit.ensures

pub generic_types::nullable_record_type-record_type-requires : goal.generic_types::nullable_record_type-record_type-requires
generic_types::nullable_record_type-record_type-requires t c = let d = front (rest_of_row c.requires refl) in (omega (arith, d.boundary.0), d)

pub generic_types::nullable_record_type-optional-requires : goal.generic_types::nullable_record_type-optional-requires
generic_types::nullable_record_type-optional-requires t c = λ k. ((refl, tt), (refl, item_tried refl (front (next c.in_ok-type_.ensures (rest_of_row c.requires refl)))))

pub generic_types::nullable_record_type-returns : goal.generic_types::nullable_record_type-returns
generic_types::nullable_record_type-returns t c = node refl refl refl (run_more c.in_ok-type_.ensures (run_one (c.in_ok-q_mark.ensures OPT_Q_MARK (option_of refl refl)))) c.visit.ensures

pub generic_types::generics_type-build-requires : goal.generic_types::generics_type-build-requires
generic_types::generics_type-build-requires t c = (refl, front (rest_of_row c.requires refl))

pub generic_types::generics_type-type_-requires : goal.generic_types::generics_type-type_-requires
generic_types::generics_type-type_-requires t c = let d = front (next c.in_ok-open_angle.ensures (rest_of_row c.requires refl)) in let b0 = behind refl c.in_ok-open_angle.ensures in (omega (arith, d.boundary.0), d)

pub generic_types::generics_type-build-requires-2 : goal.generic_types::generics_type-build-requires-2
generic_types::generics_type-build-requires-2 t c = (refl, front (next (builds_as (ap type_tree c.in_ok-body-2.ensures.ok) c.in_ok-body.ensures) (next c.in_ok-open_angle.ensures (rest_of_row c.requires refl))))

pub generic_types::generics_type-returns : goal.generic_types::generics_type-returns
generic_types::generics_type-returns t c = node refl refl refl (run_more c.in_ok-open_angle.ensures (run_more (builds_as (ap type_tree c.in_ok-body-2.ensures.ok) c.in_ok-body.ensures) (run_one c.in_ok-close_angle.ensures))) c.visit.ensures

pub generic_types::generics_return_type-build-requires : goal.generic_types::generics_return_type-build-requires
generic_types::generics_return_type-build-requires t c = (refl, front (rest_of_row c.requires refl))

pub generic_types::generics_return_type-return_type-requires : goal.generic_types::generics_return_type-return_type-requires
generic_types::generics_return_type-return_type-requires t c = let d = front (next c.in_ok-open_angle.ensures (rest_of_row c.requires refl)) in let b0 = behind refl c.in_ok-open_angle.ensures in (omega (arith, d.boundary.0), d)

pub generic_types::generics_return_type-build-requires-2 : goal.generic_types::generics_return_type-build-requires-2
generic_types::generics_return_type-build-requires-2 t c = (refl, front (next (builds_as (ap return_type_tree c.in_ok-body-2.ensures.ok) c.in_ok-body.ensures) (next c.in_ok-open_angle.ensures (rest_of_row c.requires refl))))

pub generic_types::generics_return_type-returns : goal.generic_types::generics_return_type-returns
generic_types::generics_return_type-returns t c = node refl refl refl (run_more c.in_ok-open_angle.ensures (run_more (builds_as (ap return_type_tree c.in_ok-body-2.ensures.ok) c.in_ok-body.ensures) (run_one c.in_ok-close_angle.ensures))) c.visit.ensures

pub generic_types::generics_record_types-build-requires : goal.generic_types::generics_record_types-build-requires
generic_types::generics_record_types-build-requires t c = (refl, front (rest_of_row c.requires refl))

pub generic_types::generics_record_types-record_types-requires : goal.generic_types::generics_record_types-record_types-requires
generic_types::generics_record_types-record_types-requires t c = let d = front (next c.in_ok-open_angle.ensures (rest_of_row c.requires refl)) in let b0 = behind refl c.in_ok-open_angle.ensures in (omega (arith, d.boundary.0), d)

pub generic_types::generics_record_types-build-requires-2 : goal.generic_types::generics_record_types-build-requires-2
generic_types::generics_record_types-build-requires-2 t c = (refl, front (next c.in_ok-body.ensures (next c.in_ok-open_angle.ensures (rest_of_row c.requires refl))))

pub generic_types::generics_record_types-returns : goal.generic_types::generics_record_types-returns
generic_types::generics_record_types-returns t c = node refl refl refl (run_more c.in_ok-open_angle.ensures (run_more c.in_ok-body.ensures (run_one c.in_ok-close_angle.ensures))) c.visit.ensures

pub generic_types::record_types-record_key_type-requires : goal.generic_types::record_types-record_key_type-requires
generic_types::record_types-record_key_type-requires t c = let d = front (rest_of_row c.requires refl) in (omega (arith, d.boundary.0), d)

pub generic_types::record_types-build-requires : goal.generic_types::record_types-build-requires
generic_types::record_types-build-requires t c = (refl, front (next (builds_as (ap record_key_type_tree c.in_ok-key-2.ensures.ok) c.in_ok-key.ensures) (rest_of_row c.requires refl)))

pub generic_types::record_types-type_-requires : goal.generic_types::record_types-type_-requires
generic_types::record_types-type_-requires t c = let d = front (next c.in_ok-comma.ensures (next (builds_as (ap record_key_type_tree c.in_ok-key-2.ensures.ok) c.in_ok-key.ensures) (rest_of_row c.requires refl))) in let b0 = behind refl (builds_as (ap record_key_type_tree c.in_ok-key-2.ensures.ok) c.in_ok-key.ensures) in let b1 = behind refl c.in_ok-comma.ensures in (omega (arith, d.boundary.0), d)

pub generic_types::record_types-returns : goal.generic_types::record_types-returns
generic_types::record_types-returns t c = node refl refl refl (run_more (builds_as (ap record_key_type_tree c.in_ok-key-2.ensures.ok) c.in_ok-key.ensures) (run_more c.in_ok-comma.ensures (run_one (builds_as (ap type_tree c.in_ok-value-2.ensures.ok) c.in_ok-value.ensures)))) c.visit.ensures

pub unions::union_type-build-requires : goal.unions::union_type-build-requires
unions::union_type-build-requires t c = (refl, front (rest_of_row c.requires refl))

pub unions::union_type-union_member_types-requires : goal.unions::union_type-union_member_types-requires
unions::union_type-union_member_types-requires t c = let d = front (next c.in_ok-open_paren.ensures (rest_of_row c.requires refl)) in let b0 = behind refl c.in_ok-open_paren.ensures in (omega (arith, d.boundary.0), d)

pub unions::union_type-build-requires-2 : goal.unions::union_type-build-requires-2
unions::union_type-build-requires-2 t c = (refl, front (next c.in_ok-body.ensures (next c.in_ok-open_paren.ensures (rest_of_row c.requires refl))))

pub unions::union_type-returns : goal.unions::union_type-returns
unions::union_type-returns t c = node refl refl refl (run_more c.in_ok-open_paren.ensures (run_more c.in_ok-body.ensures (run_one c.in_ok-close_paren.ensures))) c.visit.ensures

pub unions::nullable_union_type-union_type-requires : goal.unions::nullable_union_type-union_type-requires
unions::nullable_union_type-union_type-requires t c = let d = front (rest_of_row c.requires refl) in (omega (arith, d.boundary.0), d)

pub unions::nullable_union_type-optional-requires : goal.unions::nullable_union_type-optional-requires
unions::nullable_union_type-optional-requires t c = λ k. ((refl, tt), (refl, item_tried refl (front (next c.in_ok-type_.ensures (rest_of_row c.requires refl)))))

pub unions::nullable_union_type-returns : goal.unions::nullable_union_type-returns
unions::nullable_union_type-returns t c = node refl refl refl (run_more c.in_ok-type_.ensures (run_one (c.in_ok-q_mark.ensures OPT_Q_MARK (option_of refl refl)))) c.visit.ensures

pub attributes::extended_attribute_list-build-requires : goal.attributes::extended_attribute_list-build-requires
attributes::extended_attribute_list-build-requires t c = (refl, front (rest_of_row c.requires refl))

pub attributes::extended_attribute_list-extended_attributes-requires : goal.attributes::extended_attribute_list-extended_attributes-requires
attributes::extended_attribute_list-extended_attributes-requires t c = let d = front (next c.in_ok-open_bracket.ensures (rest_of_row c.requires refl)) in let b0 = behind refl c.in_ok-open_bracket.ensures in (omega (arith, d.boundary.0), d)

pub attributes::extended_attribute_list-build-requires-2 : goal.attributes::extended_attribute_list-build-requires-2
attributes::extended_attribute_list-build-requires-2 t c = (refl, front (next c.in_ok-body.ensures (next c.in_ok-open_bracket.ensures (rest_of_row c.requires refl))))

pub attributes::extended_attribute_list-returns : goal.attributes::extended_attribute_list-returns
attributes::extended_attribute_list-returns t c = node refl refl refl (run_more c.in_ok-open_bracket.ensures (run_more c.in_ok-body.ensures (run_one c.in_ok-close_bracket.ensures))) c.visit.ensures

pub attributes::extended_attribute_arg_list-build-requires : goal.attributes::extended_attribute_arg_list-build-requires
attributes::extended_attribute_arg_list-build-requires t c = (refl, front (rest_of_row c.requires refl))

pub attributes::extended_attribute_arg_list-arguments-requires : goal.attributes::extended_attribute_arg_list-arguments-requires
attributes::extended_attribute_arg_list-arguments-requires t c = let d = front (next c.in_ok-identifier.ensures (rest_of_row c.requires refl)) in let b0 = behind refl c.in_ok-identifier.ensures in (omega (arith, d.boundary.0), d)

pub attributes::extended_attribute_arg_list-returns : goal.attributes::extended_attribute_arg_list-returns
attributes::extended_attribute_arg_list-returns t c = node refl refl refl (run_more c.in_ok-identifier.ensures (run_one c.in_ok-args.ensures)) c.visit.ensures

pub attributes::extended_attribute_named_arg_list-build-requires : goal.attributes::extended_attribute_named_arg_list-build-requires
attributes::extended_attribute_named_arg_list-build-requires t c = (refl, front (rest_of_row c.requires refl))

pub attributes::extended_attribute_named_arg_list-build-requires-2 : goal.attributes::extended_attribute_named_arg_list-build-requires-2
attributes::extended_attribute_named_arg_list-build-requires-2 t c = (refl, front (next c.in_ok-lhs_identifier.ensures (rest_of_row c.requires refl)))

pub attributes::extended_attribute_named_arg_list-build-requires-3 : goal.attributes::extended_attribute_named_arg_list-build-requires-3
attributes::extended_attribute_named_arg_list-build-requires-3 t c = (refl, front (next c.in_ok-assign.ensures (next c.in_ok-lhs_identifier.ensures (rest_of_row c.requires refl))))

pub attributes::extended_attribute_named_arg_list-arguments-requires : goal.attributes::extended_attribute_named_arg_list-arguments-requires
attributes::extended_attribute_named_arg_list-arguments-requires t c = let d = front (next c.in_ok-rhs_identifier.ensures (next c.in_ok-assign.ensures (next c.in_ok-lhs_identifier.ensures (rest_of_row c.requires refl)))) in let b0 = behind refl c.in_ok-lhs_identifier.ensures in let b1 = behind refl c.in_ok-assign.ensures in let b2 = behind refl c.in_ok-rhs_identifier.ensures in (omega (arith, d.boundary.0), d)

pub attributes::extended_attribute_named_arg_list-returns : goal.attributes::extended_attribute_named_arg_list-returns
attributes::extended_attribute_named_arg_list-returns t c = node refl refl refl (run_more c.in_ok-lhs_identifier.ensures (run_more c.in_ok-assign.ensures (run_more c.in_ok-rhs_identifier.ensures (run_one c.in_ok-args.ensures)))) c.visit.ensures

pub arguments::variadic_argument-attributes-requires : goal.arguments::variadic_argument-attributes-requires
arguments::variadic_argument-attributes-requires t c = let d = front (rest_of_row c.requires refl) in (omega (arith, d.boundary.0), d)

pub arguments::variadic_argument-type_-requires : goal.arguments::variadic_argument-type_-requires
arguments::variadic_argument-type_-requires t c = let d = front (next c.in_ok-attributes.ensures (rest_of_row c.requires refl)) in let b0 = not_before c.in_ok-attributes.ensures in (omega (arith, d.boundary.0), d)

pub arguments::variadic_argument-build-requires : goal.arguments::variadic_argument-build-requires
arguments::variadic_argument-build-requires t c = (refl, front (next c.in_ok-type_.ensures (next c.in_ok-attributes.ensures (rest_of_row c.requires refl))))

pub arguments::variadic_argument-build-requires-2 : goal.arguments::variadic_argument-build-requires-2
arguments::variadic_argument-build-requires-2 t c = (refl, front (next c.in_ok-ellipsis.ensures (next c.in_ok-type_.ensures (next c.in_ok-attributes.ensures (rest_of_row c.requires refl)))))

pub arguments::variadic_argument-returns : goal.arguments::variadic_argument-returns
arguments::variadic_argument-returns t c = node refl refl refl (run_more c.in_ok-attributes.ensures (run_more c.in_ok-type_.ensures (run_more c.in_ok-ellipsis.ensures (run_one c.in_ok-identifier.ensures)))) c.visit.ensures

pub arguments::arguments-build-requires : goal.arguments::arguments-build-requires
arguments::arguments-build-requires t c = (refl, front (rest_of_row c.requires refl))

pub arguments::arguments-argument_list-requires : goal.arguments::arguments-argument_list-requires
arguments::arguments-argument_list-requires t c = let d = front (next c.in_ok-open_paren.ensures (rest_of_row c.requires refl)) in let b0 = behind refl c.in_ok-open_paren.ensures in (omega (arith, d.boundary.0), d)

pub arguments::arguments-build-requires-2 : goal.arguments::arguments-build-requires-2
arguments::arguments-build-requires-2 t c = (refl, front (next c.in_ok-body.ensures (next c.in_ok-open_paren.ensures (rest_of_row c.requires refl))))

pub arguments::arguments-returns : goal.arguments::arguments-returns
arguments::arguments-returns t c = node refl refl refl (run_more c.in_ok-open_paren.ensures (run_more c.in_ok-body.ensures (run_one c.in_ok-close_paren.ensures))) c.visit.ensures

pub kinds::type_-single_type-requires : goal.kinds::type_-single_type-requires
kinds::type_-single_type-requires t c = let h = rw c.in-0.is at c.choice.ensures in (omega arith, h.due)

pub kinds::type_-returns-in_ok-member-in-0 : goal.kinds::type_-returns-in_ok-member-in-0
kinds::type_-returns-in_ok-member-in-0 t c = builds_as (single_type_of c.in_ok-member-in-0.member) (chosen (rw c.in-0.is at c.choice.ensures) c.in_ok-member-in-0.ensures c.visit.ensures)

pub kinds::type_-nullable_union_type-requires : goal.kinds::type_-nullable_union_type-requires
kinds::type_-nullable_union_type-requires t c = let h = rw c.in-1.is at c.choice.ensures in (omega arith, h.due)

pub kinds::type_-returns-in_ok-member-in-1 : goal.kinds::type_-returns-in_ok-member-in-1
kinds::type_-returns-in_ok-member-in-1 t c = builds_as (union_of c.in_ok-member-in-1.member) (chosen (rw c.in-1.is at c.choice.ensures) c.in_ok-member-in-1.ensures c.visit-in-1.ensures)

pub kinds::single_type-non_any_type-requires : goal.kinds::single_type-non_any_type-requires
kinds::single_type-non_any_type-requires t c = let h = rw c.in-1.is at c.choice.ensures in (omega arith, h.due)

pub kinds::non_any_type-promise_type-requires : goal.kinds::non_any_type-promise_type-requires
kinds::non_any_type-promise_type-requires t c = let h = rw c.in-0.is at c.choice.ensures in (omega arith, h.due)

pub kinds::non_any_type-returns-in_ok-member-in-0 : goal.kinds::non_any_type-returns-in_ok-member-in-0
kinds::non_any_type-returns-in_ok-member-in-0 t c = builds_as (promise_of c.in_ok-member-in-0.member) (chosen (rw c.in-0.is at c.choice.ensures) c.in_ok-member-in-0.ensures c.visit.ensures)

pub kinds::non_any_type-nullable_sequence_type-requires : goal.kinds::non_any_type-nullable_sequence_type-requires
kinds::non_any_type-nullable_sequence_type-requires t c = let h = rw c.in-9.is at c.choice.ensures in (omega arith, h.due)

pub kinds::non_any_type-returns-in_ok-member-in-9 : goal.kinds::non_any_type-returns-in_ok-member-in-9
kinds::non_any_type-returns-in_ok-member-in-9 t c = builds_as refl (chosen (rw c.in-9.is at c.choice.ensures) c.in_ok-member-in-9.ensures c.visit-in-9.ensures)

pub kinds::non_any_type-nullable_frozen_array_type-requires : goal.kinds::non_any_type-nullable_frozen_array_type-requires
kinds::non_any_type-nullable_frozen_array_type-requires t c = let h = rw c.in-26.is at c.choice.ensures in (omega arith, h.due)

pub kinds::non_any_type-returns-in_ok-member-in-26 : goal.kinds::non_any_type-returns-in_ok-member-in-26
kinds::non_any_type-returns-in_ok-member-in-26 t c = builds_as refl (chosen (rw c.in-26.is at c.choice.ensures) c.in_ok-member-in-26.ensures c.visit-in-26.ensures)

pub kinds::non_any_type-nullable_record_type-requires : goal.kinds::non_any_type-nullable_record_type-requires
kinds::non_any_type-nullable_record_type-requires t c = let h = rw c.in-27.is at c.choice.ensures in (omega arith, h.due)

pub kinds::non_any_type-returns-in_ok-member-in-27 : goal.kinds::non_any_type-returns-in_ok-member-in-27
kinds::non_any_type-returns-in_ok-member-in-27 t c = builds_as (record_of c.in_ok-member-in-27.member) (chosen (rw c.in-27.is at c.choice.ensures) c.in_ok-member-in-27.ensures c.visit-in-27.ensures)

pub kinds::record_key_type-non_any_type-requires : goal.kinds::record_key_type-non_any_type-requires
kinds::record_key_type-non_any_type-requires t c = let h = rw c.in-3.is at c.choice.ensures in (omega arith, h.due)

pub kinds::return_type-type_-requires : goal.kinds::return_type-type_-requires
kinds::return_type-type_-requires t c = let h = rw c.in-1.is at c.choice.ensures in (omega arith, h.due)

pub unions::add_union_member_type-attributed_non_any_type-requires : goal.unions::add_union_member_type-attributed_non_any_type-requires
unions::add_union_member_type-attributed_non_any_type-requires t c = let h = rw c.in-0.is at c.choice.ensures in (omega arith, h.due)

pub unions::add_union_member_type-nullable_union_type-requires : goal.unions::add_union_member_type-nullable_union_type-requires
unions::add_union_member_type-nullable_union_type-requires t c = let h = rw c.in-1.is at c.choice.ensures in (omega arith, h.due)

pub attributes::extended_attribute-extended_attribute_arg_list-requires : goal.attributes::extended_attribute-extended_attribute_arg_list-requires
attributes::extended_attribute-extended_attribute_arg_list-requires t c = let h = rw c.in-0.is at c.choice.ensures in (omega arith, h.due)

pub attributes::extended_attribute-returns-in_ok-member-in-0 : goal.attributes::extended_attribute-returns-in_ok-member-in-0
attributes::extended_attribute-returns-in_ok-member-in-0 t c = builds_as (arg_list_of c.in_ok-member-in-0.member) (chosen (rw c.in-0.is at c.choice.ensures) c.in_ok-member-in-0.ensures c.visit.ensures)

pub attributes::extended_attribute-extended_attribute_named_arg_list-requires : goal.attributes::extended_attribute-extended_attribute_named_arg_list-requires
attributes::extended_attribute-extended_attribute_named_arg_list-requires t c = let h = rw c.in-1.is at c.choice.ensures in (omega arith, h.due)

pub attributes::extended_attribute-returns-in_ok-member-in-1 : goal.attributes::extended_attribute-returns-in_ok-member-in-1
attributes::extended_attribute-returns-in_ok-member-in-1 t c = builds_as (named_arg_list_of c.in_ok-member-in-1.member) (chosen (rw c.in-1.is at c.choice.ensures) c.in_ok-member-in-1.ensures c.visit-in-1.ensures)

pub arguments::argument-single_argument-requires : goal.arguments::argument-single_argument-requires
arguments::argument-single_argument-requires t c = let h = rw c.in-0.is at c.choice.ensures in (omega arith, h.due)

pub arguments::argument-returns-in_ok-member-in-0 : goal.arguments::argument-returns-in_ok-member-in-0
arguments::argument-returns-in_ok-member-in-0 t c = builds_as (argument_single_of c.in_ok-member-in-0.member) (chosen (rw c.in-0.is at c.choice.ensures) c.in_ok-member-in-0.ensures c.visit.ensures)

pub arguments::argument-variadic_argument-requires : goal.arguments::argument-variadic_argument-requires
arguments::argument-variadic_argument-requires t c = let h = rw c.in-1.is at c.choice.ensures in (omega arith, h.due)

pub arguments::argument-returns-in_ok-member-in-1 : goal.arguments::argument-returns-in_ok-member-in-1
arguments::argument-returns-in_ok-member-in-1 t c = builds_as (argument_variadic_of c.in_ok-member-in-1.member) (chosen (rw c.in-1.is at c.choice.ensures) c.in_ok-member-in-1.ensures c.visit-in-1.ensures)

pub unions::union_member_types-end-requires : goal.unions::union_member_types-end-requires
unions::union_member_types-end-requires t c = list_tried c.requires refl

pub unions::union_member_types-returns-in_default : goal.unions::union_member_types-returns-in_default
unions::union_member_types-returns-in_default t c = rw c.new-list.ensures.items (list_empty refl refl (absent c.in_default.ensures.right) c.visit.ensures)

pub unions::union_member_types-add_union_member_type-requires : goal.unions::union_member_types-add_union_member_type-requires
unions::union_member_types-add_union_member_type-requires t c = (omega arith, present (list_tried c.requires refl) c.in-Some.ensures.right)

pub unions::union_member_types-loop-behind-init : goal.unions::union_member_types-loop-behind-init
unions::union_member_types-loop-behind-init t c = rw (c.in_ok-here.ensures.items, c.new-list.ensures.items) (listing_start (due_list c.requires refl (present (list_tried c.requires refl) c.in-Some.ensures.right)) refl c.in_ok-here.ensures.built)

pub unions::union_member_types-end-requires-in-loop-behind : goal.unions::union_member_types-end-requires-in-loop-behind
unions::union_member_types-end-requires-in-loop-behind t c = separator_tried c.loop-behind.invariant.tail

pub unions::union_member_types-end-requires-in-Some-end : goal.unions::union_member_types-end-requires-in-Some-end
unions::union_member_types-end-requires-in-Some-end t c = behind_tried c.loop-behind.invariant.tail c.in-Some-end.ensures.right

pub unions::union_member_types-returns-in_default-end-2 : goal.unions::union_member_types-returns-in_default-end-2
unions::union_member_types-returns-in_default-end-2 t c = list_built refl refl (listing_back c.loop-behind.invariant refl refl c.in-Some-end.ensures.right c.in_default-end-2.ensures.right) c.visit-in_default-end-2.ensures

pub unions::union_member_types-add_union_member_type-requires-in-Some-end : goal.unions::union_member_types-add_union_member_type-requires-in-Some-end
unions::union_member_types-add_union_member_type-requires-in-Some-end t c = let d = behind_due c.loop-behind.invariant.tail c.in-Some-end.ensures.right c.in-Some-end-2.ensures.right in let b = listing_behind refl c.loop-behind.invariant c.in-Some-end.ensures.right in (omega (arith, d.boundary.0), d)

pub unions::union_member_types-loop-behind-smaller : goal.unions::union_member_types-loop-behind-smaller
unions::union_member_types-loop-behind-smaller t c = let n = listing_next c.loop-behind.invariant c.in-Some-end.ensures.right c.in_ok-here-2.ensures.built in omega (arith, n.1, n.0.tail.due.boundary.0)

pub unions::union_member_types-loop-behind-preserved : goal.unions::union_member_types-loop-behind-preserved
unions::union_member_types-loop-behind-preserved t c = rw (c.in_ok-here-2.ensures.items, map_push union_member_type_tree c.loop-behind.list.items c.in_ok-here-2.ensures.value) (listing_next c.loop-behind.invariant c.in-Some-end.ensures.right c.in_ok-here-2.ensures.built).0

pub unions::union_member_types-returns : goal.unions::union_member_types-returns
unions::union_member_types-returns t c = list_built refl refl (listing_end c.loop-behind.invariant refl refl c.in_default-end.ensures.right) c.visit-2.ensures

pub attributes::extended_attributes-end-requires : goal.attributes::extended_attributes-end-requires
attributes::extended_attributes-end-requires t c = list_tried c.requires refl

pub attributes::extended_attributes-returns-in_default : goal.attributes::extended_attributes-returns-in_default
attributes::extended_attributes-returns-in_default t c = rw c.new-list.ensures.items (list_empty refl refl (absent c.in_default.ensures.right) c.visit.ensures)

pub attributes::extended_attributes-extended_attribute-requires : goal.attributes::extended_attributes-extended_attribute-requires
attributes::extended_attributes-extended_attribute-requires t c = (omega arith, present (list_tried c.requires refl) c.in-Some.ensures.right)

pub attributes::extended_attributes-loop-behind-init : goal.attributes::extended_attributes-loop-behind-init
attributes::extended_attributes-loop-behind-init t c = rw (c.in_ok-here.ensures.items, c.new-list.ensures.items) (listing_start (due_list c.requires refl (present (list_tried c.requires refl) c.in-Some.ensures.right)) refl (kept extended_attribute_tree c.in_ok-here.ensures c.extended_attribute.ensures))

pub attributes::extended_attributes-end-requires-in-loop-behind : goal.attributes::extended_attributes-end-requires-in-loop-behind
attributes::extended_attributes-end-requires-in-loop-behind t c = separator_tried c.loop-behind.invariant.tail

pub attributes::extended_attributes-end-requires-in-Some-end : goal.attributes::extended_attributes-end-requires-in-Some-end
attributes::extended_attributes-end-requires-in-Some-end t c = behind_tried c.loop-behind.invariant.tail c.in-Some-end.ensures.right

pub attributes::extended_attributes-returns-in_default-end-2 : goal.attributes::extended_attributes-returns-in_default-end-2
attributes::extended_attributes-returns-in_default-end-2 t c = list_built refl refl (listing_back c.loop-behind.invariant refl refl c.in-Some-end.ensures.right c.in_default-end-2.ensures.right) c.visit-in_default-end-2.ensures

pub attributes::extended_attributes-extended_attribute-requires-in-Some-end : goal.attributes::extended_attributes-extended_attribute-requires-in-Some-end
attributes::extended_attributes-extended_attribute-requires-in-Some-end t c = let d = behind_due c.loop-behind.invariant.tail c.in-Some-end.ensures.right c.in-Some-end-2.ensures.right in let b = listing_behind refl c.loop-behind.invariant c.in-Some-end.ensures.right in (omega (arith, d.boundary.0), d)

pub attributes::extended_attributes-loop-behind-smaller : goal.attributes::extended_attributes-loop-behind-smaller
attributes::extended_attributes-loop-behind-smaller t c = let n = listing_next c.loop-behind.invariant c.in-Some-end.ensures.right (kept extended_attribute_tree c.in_ok-here-2.ensures c.extended_attribute-in-Some-end.ensures) in omega (arith, n.1, n.0.tail.due.boundary.0)

pub attributes::extended_attributes-loop-behind-preserved : goal.attributes::extended_attributes-loop-behind-preserved
attributes::extended_attributes-loop-behind-preserved t c = rw (c.in_ok-here-2.ensures.items, map_push extended_attribute_tree c.loop-behind.list.items c.in_ok-here-2.ensures.value) (listing_next c.loop-behind.invariant c.in-Some-end.ensures.right (kept extended_attribute_tree c.in_ok-here-2.ensures c.extended_attribute-in-Some-end.ensures)).0

pub attributes::extended_attributes-returns : goal.attributes::extended_attributes-returns
attributes::extended_attributes-returns t c = list_built refl refl (listing_end c.loop-behind.invariant refl refl c.in_default-end.ensures.right) c.visit-2.ensures

pub arguments::argument_list-end-requires : goal.arguments::argument_list-end-requires
arguments::argument_list-end-requires t c = list_tried c.requires refl

pub arguments::argument_list-returns-in_default : goal.arguments::argument_list-returns-in_default
arguments::argument_list-returns-in_default t c = rw c.new-list.ensures.items (list_empty refl refl (absent c.in_default.ensures.right) c.visit.ensures)

pub arguments::argument_list-argument-requires : goal.arguments::argument_list-argument-requires
arguments::argument_list-argument-requires t c = (omega arith, present (list_tried c.requires refl) c.in-Some.ensures.right)

pub arguments::argument_list-loop-behind-init : goal.arguments::argument_list-loop-behind-init
arguments::argument_list-loop-behind-init t c = rw (c.in_ok-here.ensures.items, c.new-list.ensures.items) (listing_start (due_list c.requires refl (present (list_tried c.requires refl) c.in-Some.ensures.right)) refl (kept argument_tree c.in_ok-here.ensures c.argument.ensures))

pub arguments::argument_list-end-requires-in-loop-behind : goal.arguments::argument_list-end-requires-in-loop-behind
arguments::argument_list-end-requires-in-loop-behind t c = separator_tried c.loop-behind.invariant.tail

pub arguments::argument_list-end-requires-in-Some-end : goal.arguments::argument_list-end-requires-in-Some-end
arguments::argument_list-end-requires-in-Some-end t c = behind_tried c.loop-behind.invariant.tail c.in-Some-end.ensures.right

pub arguments::argument_list-returns-in_default-end-2 : goal.arguments::argument_list-returns-in_default-end-2
arguments::argument_list-returns-in_default-end-2 t c = list_built refl refl (listing_back c.loop-behind.invariant refl refl c.in-Some-end.ensures.right c.in_default-end-2.ensures.right) c.visit-in_default-end-2.ensures

pub arguments::argument_list-argument-requires-in-Some-end : goal.arguments::argument_list-argument-requires-in-Some-end
arguments::argument_list-argument-requires-in-Some-end t c = let d = behind_due c.loop-behind.invariant.tail c.in-Some-end.ensures.right c.in-Some-end-2.ensures.right in let b = listing_behind refl c.loop-behind.invariant c.in-Some-end.ensures.right in (omega (arith, d.boundary.0), d)

pub arguments::argument_list-loop-behind-smaller : goal.arguments::argument_list-loop-behind-smaller
arguments::argument_list-loop-behind-smaller t c = let n = listing_next c.loop-behind.invariant c.in-Some-end.ensures.right (kept argument_tree c.in_ok-here-2.ensures c.argument-in-Some-end.ensures) in omega (arith, n.1, n.0.tail.due.boundary.0)

pub arguments::argument_list-loop-behind-preserved : goal.arguments::argument_list-loop-behind-preserved
arguments::argument_list-loop-behind-preserved t c = rw (c.in_ok-here-2.ensures.items, map_push argument_tree c.loop-behind.list.items c.in_ok-here-2.ensures.value) (listing_next c.loop-behind.invariant c.in-Some-end.ensures.right (kept argument_tree c.in_ok-here-2.ensures c.argument-in-Some-end.ensures)).0

pub arguments::argument_list-returns : goal.arguments::argument_list-returns
arguments::argument_list-returns t c = list_built refl refl (listing_end c.loop-behind.invariant refl refl c.in_default-end.ensures.right) c.visit-2.ensures

pub attributes::attributes-end-requires : goal.attributes::attributes-end-requires
attributes::attributes-end-requires t c = option_tried c.requires refl

pub attributes::attributes-extended_attribute_list-requires : goal.attributes::attributes-extended_attribute_list-requires
attributes::attributes-extended_attribute_list-requires t c = (omega arith, present (option_tried c.requires refl) c.in-Some.ensures.right)

pub attributes::attributes-returns-in_ok-list-in-Some : goal.attributes::attributes-returns-in_ok-list-in-Some
attributes::attributes-returns-in_ok-list-in-Some t c = option_some refl refl c.in_ok-list-in-Some.ensures c.visit.ensures

pub attributes::attributes-returns-in-None : goal.attributes::attributes-returns-in-None
attributes::attributes-returns-in-None t c = option_none refl refl (absent c.in-None.ensures.right) c.visit-in-None.ensures

pub arguments::single_argument-attributes-requires : goal.arguments::single_argument-attributes-requires
arguments::single_argument-attributes-requires t c = let d = front (rest_of_if c.requires refl) in (omega (arith, d.boundary.0), d)

pub arguments::single_argument-optional-requires : goal.arguments::single_argument-optional-requires
arguments::single_argument-optional-requires t c = λ k. ((refl, tt), (refl, item_tried refl (front (next c.in_ok-attributes.ensures (rest_of_if c.requires refl)))))

pub arguments::single_argument-attributed_type-requires : goal.arguments::single_argument-attributed_type-requires
arguments::single_argument-attributed_type-requires t c = let d = front (next (c.in_ok-modifier.ensures OPT_OPTIONAL (option_of refl refl)) (next c.in_ok-attributes.ensures (rest_of_if c.requires refl))) in let b0 = not_before c.in_ok-attributes.ensures in let b1 = not_before (c.in_ok-modifier.ensures OPT_OPTIONAL (option_of refl refl)) in (omega (arith, d.boundary.0), d)

pub arguments::single_argument-build-requires : goal.arguments::single_argument-build-requires
arguments::single_argument-build-requires t c = (refl, front (next c.in_ok-type_.ensures (next (c.in_ok-modifier.ensures OPT_OPTIONAL (option_of refl refl)) (next c.in_ok-attributes.ensures (rest_of_if c.requires refl)))))

pub arguments::single_argument-optional-requires-in-Some : goal.arguments::single_argument-optional-requires-in-Some
arguments::single_argument-optional-requires-in-Some t c = λ k. ((refl, tt), (refl, item_tried refl (if_due c.in_ok-attributes.ensures (rw c.in-Some.is at c.in_ok-modifier.ensures OPT_OPTIONAL (option_of refl refl)) c.in_ok-type_.ensures c.in_ok-identifier.ensures refl refl c.requires)))

pub arguments::single_argument-returns-in_ok-default-in-Some : goal.arguments::single_argument-returns-in_ok-default-in-Some
arguments::single_argument-returns-in_ok-default-in-Some t c = if_there c.in_ok-attributes.ensures (rw c.in-Some.is at c.in_ok-modifier.ensures OPT_OPTIONAL (option_of refl refl)) c.in_ok-type_.ensures c.in_ok-identifier.ensures refl refl refl (c.in_ok-default-in-Some.ensures OPT_DEFAULT (option_of refl refl)) c.visit.ensures

pub arguments::single_argument-returns-in-None : goal.arguments::single_argument-returns-in-None
arguments::single_argument-returns-in-None t c = if_not_there c.in_ok-attributes.ensures (rw c.in-None.is at c.in_ok-modifier.ensures OPT_OPTIONAL (option_of refl refl)) c.in_ok-type_.ensures c.in_ok-identifier.ensures refl refl refl c.visit-in-None.ensures c.visit-in-None-2.ensures
