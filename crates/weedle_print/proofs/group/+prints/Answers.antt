use Rattle.std.proofs.Common.{◌≤◌, length, arith}
use Rattle.std.proofs.lemmas.Result.{on_ok_weaker}
use Rattle.weedle_print.proofs.AddsFacts.{adds_then}
use Rattle.weedle_print.proofs.SeparatedFacts.{separated_all}
use Rattle.weedle_print.proofs.group.+prints.Goals as goal

-- the default follows the rest of the argument
pub arguments::print_single_argument-returns : goal.arguments::print_single_argument-returns
arguments::print_single_argument-returns t c =
    let typed = adds_then c.in_ok-print.ensures (adds_then c.in_ok-print_attributed_type.ensures c.in_ok-print-2.ensures) in
    adds_then (adds_then c.in_ok-print_attributes.ensures typed) c.in_ok-print_default.ensures

-- the bracket follows all items
pub arguments::push_arguments-returns : goal.arguments::push_arguments-returns
arguments::push_arguments-returns t c =
    let past : length c.args.arguments.now.items ≤ c.loop-argument.argument-index =
    omega (arith, c.loop-argument-test.false, c.loop-argument.auto.argument-index-end, c.deref-argument-items.ensures.len) in
    on_ok_weaker c.close_list.result (adds_then (separated_all past c.loop-argument.invariant)) c.close_list.ensures

pub unions::push_members-returns : goal.unions::push_members-returns
unions::push_members-returns t c =
    let past : length c.args.members.now.items ≤ c.loop-member.member-index =
    omega (arith, c.loop-member-test.false, c.loop-member.auto.member-index-end, c.deref-member-items.ensures.len) in
    on_ok_weaker c.close_list.result (adds_then (separated_all past c.loop-member.invariant)) c.close_list.ensures
