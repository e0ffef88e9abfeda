-- Members of an interface between braces that are alike have the same tree.
use Rattle.std.proofs.Common.{ap}
use Rattle.std.specs.Global.{Vec}
use Rattle.std.specs.Prelude.{◌≡◌}
use Rattle.weedle_base.specs.Alike.{all_alike}
use Rattle.weedle_interfaces.specs.declared.member.InterfaceMember.{InterfaceMember}
use Rattle.weedle_interfaces.specs.written.Trees.{interface_member_tree}
use Rattle.weedle_parts.specs.ValueTrees.{braced_tree, bracket_tree}
use Rattle.weedle_parts.specs.declared.common.brackets.Braced.{Braced}
use Rattle.weedle_types.proofs.CopyFacts.{members_alike}
use Rattle.weedle_types.specs.PartTrees.{members_tree}

-- the members of an interface
pub interface_members_alike : (a b : Braced (Vec InterfaceMember)) → all_alike (λ x y. interface_member_tree x ≡ interface_member_tree y) a.body.items b.body.items → braced_tree (members_tree interface_member_tree) a ≡ braced_tree (members_tree interface_member_tree) b
interface_members_alike a b h = ap bracket_tree (members_alike interface_member_tree a.body b.body h)
