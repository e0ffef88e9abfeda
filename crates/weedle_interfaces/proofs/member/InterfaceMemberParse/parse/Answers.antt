-- Alternatives, each where those before it were a mismatch. Written by tools/idl_proofs.py, and not edited by hand.
use Rattle.weedle_interfaces.proofs.written.MemberRules.{interface_member_fault, interface_member_got_0, interface_member_got_1, interface_member_got_2}
use Rattle.weedle_interfaces.proofs.member.InterfaceMemberParse.parse.Goals as goal
use Rattle.weedle_base.proofs.Direct.{hand_on, stop_first, stop_next, take_first, take_next}

pub returns-in-Ok : goal.returns-in-Ok
returns-in-Ok c = interface_member_got_0 (take_first _ _ c.in-Ok.ensures)

pub returns-in-Err-Failure : goal.returns-in-Err-Failure
returns-in-Err-Failure c = interface_member_fault (stop_first _ _ c.in-Err-Failure.ensures c.in-Err-Failure.field-0-is)

pub returns-in-Ok-iterable_member : goal.returns-in-Ok-iterable_member
returns-in-Ok-iterable_member c = interface_member_got_1 (take_next _ _ c.in-Err-Error.ensures c.in-Err-Error.field-0-is (take_first _ _ c.in-Ok-iterable_member.ensures))

pub returns-in-Err-Failure-iterable_member : goal.returns-in-Err-Failure-iterable_member
returns-in-Err-Failure-iterable_member c = interface_member_fault (stop_next _ _ c.in-Err-Error.ensures c.in-Err-Error.field-0-is (stop_first _ _ c.in-Err-Failure-iterable_member.ensures c.in-Err-Failure-iterable_member.field-0-is))

pub returns : goal.returns
returns c = hand_on c.collection_member.result (λ rest v g. interface_member_got_2 (take_next _ _ c.in-Err-Error.ensures c.in-Err-Error.field-0-is (take_next _ _ c.in-Err-Error-iterable_member.ensures c.in-Err-Error-iterable_member.field-0-is g))) (λ e f. interface_member_fault (stop_next _ _ c.in-Err-Error.ensures c.in-Err-Error.field-0-is (stop_next _ _ c.in-Err-Error-iterable_member.ensures c.in-Err-Error-iterable_member.field-0-is f))) c.collection_member.ensures
