-- Generic parts over arguments and members read what their rules read. `known` is what is known of a list's separator.
use Rattle.std.proofs.Common.{inl, inr, refl}
use Rattle.weedle_base.proofs.RuleFacts.{own_rule, wider_rule}
use Rattle.weedle_base.specs.Generic.{pair_reading, seen_reading}
use Rattle.weedle_base.specs.Own.{own}
use Rattle.weedle_base.specs.Rules.{HasRule}
use Rattle.weedle_base.specs.declared.term.written.symbols.Comma.{Comma}
use Rattle.weedle_grammar.specs.written.Table.InterfaceMembers.{BRACED_INTERFACE_MEMBERS, INTERFACE_MEMBER, INTERFACE_MEMBERS}
use Rattle.weedle_grammar.specs.written.Table.OtherMembers.{BRACED_DICTIONARY_MEMBERS, BRACED_MIXIN_MEMBERS, BRACED_NAMESPACE_MEMBERS, DICTIONARY_MEMBER, DICTIONARY_MEMBERS, MIXIN_MEMBER, MIXIN_MEMBERS, NAMESPACE_MEMBER, NAMESPACE_MEMBERS}
use Rattle.weedle_grammar.specs.written.Table.Types.{PARENTHESIZED_ARGUMENT_LIST}
use Rattle.weedle_interfaces.specs.written.Trees.{interface_member_tree}
use Rattle.weedle_mixins.specs.written.Trees.{mixin_member_tree}
use Rattle.weedle_namespaces.specs.written.Trees.{dictionary_member_tree, namespace_member_tree}
use Rattle.weedle_parts.proofs.PartRules.{braced_rule, parenthesized_rule}
use Rattle.weedle_parts.specs.Brackets.{braced_reading, parenthesized_reading}
use Rattle.weedle_parts.specs.Lists.{punctuated_reading}
use Rattle.weedle_parts.specs.ValueTrees.{braced_tree, parenthesized_tree}
use Rattle.weedle_parts.specs.declared.common.punctuated.Punctuated.{Punctuated}
use Rattle.weedle_types.proofs.AliasRules.{argument_list_law, argument_list_reading}
use Rattle.weedle_types.proofs.SharedRules.{members_reading, members_rule}
use Rattle.weedle_types.specs.PartTrees.{members_tree}
use Rattle.weedle_types.specs.Trees.{argument_list_tree}
use Rattle.weedle_types.specs.declared.argument.Argument.{Argument}

module _ (known : Punctuated Argument Comma → Type 0) where
  pub arguments_has_rule : HasRule (parenthesized_reading (argument_list_reading known)) PARENTHESIZED_ARGUMENT_LIST (parenthesized_tree argument_list_tree)
  unfolding punctuated_reading pair_reading seen_reading
  arguments_has_rule = wider_rule (λ g. inr (inl g)) (parenthesized_rule (argument_list_law known) PARENTHESIZED_ARGUMENT_LIST refl refl)

pub interface_members_has_rule : HasRule (braced_reading (members_reading (own INTERFACE_MEMBER interface_member_tree (Unit {0})))) BRACED_INTERFACE_MEMBERS (braced_tree (members_tree interface_member_tree))
unfolding pair_reading seen_reading
interface_members_has_rule = wider_rule (λ g. inr (inl g)) (braced_rule (members_rule (own_rule INTERFACE_MEMBER interface_member_tree (Unit {0})) INTERFACE_MEMBERS refl refl) BRACED_INTERFACE_MEMBERS refl refl)

pub mixin_members_has_rule : HasRule (braced_reading (members_reading (own MIXIN_MEMBER mixin_member_tree (Unit {0})))) BRACED_MIXIN_MEMBERS (braced_tree (members_tree mixin_member_tree))
unfolding pair_reading seen_reading
mixin_members_has_rule = wider_rule (λ g. inr (inl g)) (braced_rule (members_rule (own_rule MIXIN_MEMBER mixin_member_tree (Unit {0})) MIXIN_MEMBERS refl refl) BRACED_MIXIN_MEMBERS refl refl)

pub namespace_members_has_rule : HasRule (braced_reading (members_reading (own NAMESPACE_MEMBER namespace_member_tree (Unit {0})))) BRACED_NAMESPACE_MEMBERS (braced_tree (members_tree namespace_member_tree))
unfolding pair_reading seen_reading
namespace_members_has_rule = wider_rule (λ g. inr (inl g)) (braced_rule (members_rule (own_rule NAMESPACE_MEMBER namespace_member_tree (Unit {0})) NAMESPACE_MEMBERS refl refl) BRACED_NAMESPACE_MEMBERS refl refl)

pub dictionary_members_has_rule : HasRule (braced_reading (members_reading (own DICTIONARY_MEMBER dictionary_member_tree (Unit {0})))) BRACED_DICTIONARY_MEMBERS (braced_tree (members_tree dictionary_member_tree))
unfolding pair_reading seen_reading
dictionary_members_has_rule = wider_rule (λ g. inr (inl g)) (braced_rule (members_rule (own_rule DICTIONARY_MEMBER dictionary_member_tree (Unit {0})) DICTIONARY_MEMBERS refl refl) BRACED_DICTIONARY_MEMBERS refl refl)
