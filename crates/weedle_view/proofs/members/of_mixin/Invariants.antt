use Rattle.std.proofs.Common.{◌≡◌, map, take}
use Rattle.weedle_view.specs.Members.{mixin_member_view, seen}
use Rattle.weedle_view.proofs.members.of_mixin.Given as goal

abbrev pub invariant-loop-member : goal.invariant-loop-member
invariant-loop-member l = map seen l.views.items ≡ map mixin_member_view (take l.member-index l.member-items)
