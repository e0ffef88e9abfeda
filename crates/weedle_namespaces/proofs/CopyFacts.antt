-- Members of namespaces and dictionaries between braces that are alike have the same tree.
use Rattle.std.proofs.Common.{ap}
use Rattle.std.specs.Global.{Vec}
use Rattle.std.specs.Prelude.{◌≡◌}
use Rattle.weedle_base.specs.Alike.{all_alike}
use Rattle.weedle_namespaces.specs.declared.dictionary.DictionaryMember.{DictionaryMember}
use Rattle.weedle_namespaces.specs.declared.namespace.NamespaceMember.{NamespaceMember}
use Rattle.weedle_namespaces.specs.written.Trees.{dictionary_member_tree, namespace_member_tree}
use Rattle.weedle_parts.specs.ValueTrees.{braced_tree, bracket_tree}
use Rattle.weedle_parts.specs.declared.common.brackets.Braced.{Braced}
use Rattle.weedle_types.proofs.CopyFacts.{members_alike}
use Rattle.weedle_types.specs.PartTrees.{members_tree}

-- the members of a namespace
pub namespace_members_alike : (a b : Braced (Vec NamespaceMember)) → all_alike (λ x y. namespace_member_tree x ≡ namespace_member_tree y) a.body.items b.body.items → braced_tree (members_tree namespace_member_tree) a ≡ braced_tree (members_tree namespace_member_tree) b
namespace_members_alike a b h = ap bracket_tree (members_alike namespace_member_tree a.body b.body h)

-- the members of a dictionary
pub dictionary_members_alike : (a b : Braced (Vec DictionaryMember)) → all_alike (λ x y. dictionary_member_tree x ≡ dictionary_member_tree y) a.body.items b.body.items → braced_tree (members_tree dictionary_member_tree) a ≡ braced_tree (members_tree dictionary_member_tree) b
dictionary_members_alike a b h = ap bracket_tree (members_alike dictionary_member_tree a.body b.body h)
