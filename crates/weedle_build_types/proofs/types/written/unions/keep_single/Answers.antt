use Rattle.weedle_types.proofs.TreeLaws.{member_single_of}
use Rattle.weedle_build_types.proofs.types.written.unions.keep_single.Goals as goal

pub returns : goal.returns
returns c = record {
  member = c.in_ok-member.member;
  from = c.in_ok-member.at;
  was = c.in_ok-member.was;
  value = _;
  is = member_single_of c.in_ok-member.member;
  items = c.in_ok-push.ensures.items;
  visited = c.visit.ensures;
}
