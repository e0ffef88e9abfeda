-- Members of a mixin between braces that are alike have the same tree.
use Rattle.std.proofs.Common.{ap}
use Rattle.std.specs.Global.{Vec}
use Rattle.std.specs.Prelude.{◌≡◌}
use Rattle.weedle_base.specs.Alike.{all_alike}
use Rattle.weedle_mixins.specs.declared.mixin.MixinMember.{MixinMember}
use Rattle.weedle_mixins.specs.written.Trees.{mixin_member_tree}
use Rattle.weedle_parts.specs.ValueTrees.{braced_tree, bracket_tree}
use Rattle.weedle_parts.specs.declared.common.brackets.Braced.{Braced}
use Rattle.weedle_types.proofs.CopyFacts.{members_alike}
use Rattle.weedle_types.specs.PartTrees.{members_tree}

-- the members of a mixin
pub mixin_members_alike : (a b : Braced (Vec MixinMember)) → all_alike (λ x y. mixin_member_tree x ≡ mixin_member_tree y) a.body.items b.body.items → braced_tree (members_tree mixin_member_tree) a ≡ braced_tree (members_tree mixin_member_tree) b
mixin_members_alike a b h = ap bracket_tree (members_alike mixin_member_tree a.body b.body h)
