-- Mixins, whole and in parts. Written by tools/idl_proofs.py, and not edited by hand.
use Rattle.std.proofs.Common.{refl}
use Rattle.std.specs.Borrow.{Bor}
use Rattle.std.specs.Global.{Vec}
use Rattle.std.specs.Prelude.{ℕ, List, [], ◌∷◌}
use Rattle.weedle_base.proofs.RuleFacts.{fault_rule, got_rule, mark, own_rule, seq_last, seq_next, seq_rule, still_rule}
use Rattle.weedle_base.specs.Generic.{pair_reading}
use Rattle.weedle_base.specs.Own.{own}
use Rattle.weedle_base.specs.Reading.{Faults, Got, Reading}
use Rattle.weedle_base.specs.Rules.{IsRule}
use Rattle.weedle_base.specs.declared.fault.Err.{Err as Fault}
use Rattle.weedle_base.specs.declared.fault.Error.{Error}
use Rattle.weedle_base.specs.declared.term.written.definition_keywords.Interface.{Interface}
use Rattle.weedle_base.specs.declared.term.written.definition_keywords.Mixin.{Mixin}
use Rattle.weedle_base.specs.declared.term.written.definition_keywords.Partial.{Partial}
use Rattle.weedle_base.specs.declared.term.written.symbols.SemiColon.{SemiColon}
use Rattle.weedle_grammar.specs.Trees.{Mark, Node, trees}
use Rattle.weedle_grammar.specs.written.Table.Definitions.{INTERFACE_MIXIN_DEFINITION, PARTIAL_INTERFACE_MIXIN_DEFINITION}
use Rattle.weedle_grammar.specs.written.Table.Keywords.{INTERFACE, MIXIN, PARTIAL}
use Rattle.weedle_grammar.specs.written.Table.Leaves.{IDENTIFIER}
use Rattle.weedle_grammar.specs.written.Table.OtherMembers.{BRACED_MIXIN_MEMBERS, MIXIN_MEMBER, MIXIN_MEMBERS}
use Rattle.weedle_grammar.specs.written.Table.Symbols.{SEMI_COLON}
use Rattle.weedle_mixins.specs.declared.mixin.MixinMember.{MixinMember}
use Rattle.weedle_mixins.specs.declared.mixin_definition.InterfaceMixinDefinition.{InterfaceMixinDefinition}
use Rattle.weedle_mixins.specs.declared.mixin_definition.PartialInterfaceMixinDefinition.{PartialInterfaceMixinDefinition}
use Rattle.weedle_mixins.specs.written.Trees.{interface_mixin_definition_tree, mixin_member_tree, partial_interface_mixin_definition_tree}
use Rattle.weedle_parts.proofs.PartRules.{braced_rule}
use Rattle.weedle_parts.specs.Brackets.{braced_reading}
use Rattle.weedle_parts.specs.ValueTrees.{braced_tree, identifier_tree}
use Rattle.weedle_parts.specs.declared.common.brackets.Braced.{Braced}
use Rattle.weedle_parts.specs.declared.common.identifier.Identifier.{Identifier}
use Rattle.weedle_types.proofs.SharedRules.{attributes_reading, attributes_rule, members_reading, members_rule, word}
use Rattle.weedle_types.specs.PartTrees.{Attributes, members_tree}
use Rattle.weedle_types.specs.Steps.{members}
use Rattle.weedle_types.specs.Trees.{attributes_tree}

-- a mixin
abbrev interface_mixin_definition_parts : Reading (Attributes × (Interface × (Mixin × (Identifier × ((Braced (Vec MixinMember)) × SemiColon)))))
interface_mixin_definition_parts = pair_reading attributes_reading (pair_reading (mark INTERFACE) (pair_reading (mark MIXIN) (pair_reading (own IDENTIFIER identifier_tree ⊥) (pair_reading (braced_reading (members_reading (own MIXIN_MEMBER mixin_member_tree (Unit {0})))) (mark SEMI_COLON)))))

interface_mixin_definition_rule : IsRule interface_mixin_definition_parts INTERFACE_MIXIN_DEFINITION (λ x. Node (trees (attributes_tree x.0 ∷ Mark ∷ Mark ∷ identifier_tree x.1.1.1.0 ∷ braced_tree (members_tree mixin_member_tree) x.1.1.1.1.0 ∷ Mark ∷ []))) (Unit {0})
interface_mixin_definition_rule = seq_rule (seq_next attributes_rule (seq_next (word INTERFACE) (seq_next (word MIXIN) (seq_next (still_rule (own_rule IDENTIFIER identifier_tree ⊥)) (seq_next (braced_rule (members_rule (own_rule MIXIN_MEMBER mixin_member_tree (Unit {0})) MIXIN_MEMBERS refl refl) BRACED_MIXIN_MEMBERS refl refl) (seq_last (word SEMI_COLON))))))) INTERFACE_MIXIN_DEFINITION refl refl

-- the parts give what the rule gives
pub interface_mixin_definition_got : {s rest : List ℕ} (x : InterfaceMixinDefinition) → Got interface_mixin_definition_parts s (x.attributes, (x.interface, (x.mixin, (x.identifier, (x.members, x.semi_colon))))) rest → Got (own INTERFACE_MIXIN_DEFINITION interface_mixin_definition_tree (Unit {0})) s x rest
interface_mixin_definition_got x h = got_rule interface_mixin_definition_rule interface_mixin_definition_tree x h refl

-- a fault of the parts is one of the rule
pub interface_mixin_definition_fault : {s : List ℕ} {e : Fault (Error (Bor (List ℕ)))} → Faults interface_mixin_definition_parts s e → Faults (own INTERFACE_MIXIN_DEFINITION interface_mixin_definition_tree (Unit {0})) s e
interface_mixin_definition_fault h = fault_rule interface_mixin_definition_rule interface_mixin_definition_tree h

-- a part of a mixin
abbrev partial_interface_mixin_definition_parts : Reading (Attributes × (Partial × (Interface × (Mixin × (Identifier × ((Braced (Vec MixinMember)) × SemiColon))))))
partial_interface_mixin_definition_parts = pair_reading attributes_reading (pair_reading (mark PARTIAL) (pair_reading (mark INTERFACE) (pair_reading (mark MIXIN) (pair_reading (own IDENTIFIER identifier_tree ⊥) (pair_reading (braced_reading (members_reading (own MIXIN_MEMBER mixin_member_tree (Unit {0})))) (mark SEMI_COLON))))))

partial_interface_mixin_definition_rule : IsRule partial_interface_mixin_definition_parts PARTIAL_INTERFACE_MIXIN_DEFINITION (λ x. Node (trees (attributes_tree x.0 ∷ Mark ∷ Mark ∷ Mark ∷ identifier_tree x.1.1.1.1.0 ∷ braced_tree (members_tree mixin_member_tree) x.1.1.1.1.1.0 ∷ Mark ∷ []))) (Unit {0})
partial_interface_mixin_definition_rule = seq_rule (seq_next attributes_rule (seq_next (word PARTIAL) (seq_next (word INTERFACE) (seq_next (word MIXIN) (seq_next (still_rule (own_rule IDENTIFIER identifier_tree ⊥)) (seq_next (braced_rule (members_rule (own_rule MIXIN_MEMBER mixin_member_tree (Unit {0})) MIXIN_MEMBERS refl refl) BRACED_MIXIN_MEMBERS refl refl) (seq_last (word SEMI_COLON)))))))) PARTIAL_INTERFACE_MIXIN_DEFINITION refl refl

-- the parts give what the rule gives
pub partial_interface_mixin_definition_got : {s rest : List ℕ} (x : PartialInterfaceMixinDefinition) → Got partial_interface_mixin_definition_parts s (x.attributes, (x.partial, (x.interface, (x.mixin, (x.identifier, (x.members, x.semi_colon)))))) rest → Got (own PARTIAL_INTERFACE_MIXIN_DEFINITION partial_interface_mixin_definition_tree (Unit {0})) s x rest
partial_interface_mixin_definition_got x h = got_rule partial_interface_mixin_definition_rule partial_interface_mixin_definition_tree x h refl

-- a fault of the parts is one of the rule
pub partial_interface_mixin_definition_fault : {s : List ℕ} {e : Fault (Error (Bor (List ℕ)))} → Faults partial_interface_mixin_definition_parts s e → Faults (own PARTIAL_INTERFACE_MIXIN_DEFINITION partial_interface_mixin_definition_tree (Unit {0})) s e
partial_interface_mixin_definition_fault h = fault_rule partial_interface_mixin_definition_rule partial_interface_mixin_definition_tree h

-- what the search for the proof of its `parse` uses
pub ruleset interface_mixin_definition_steps = (interface_mixin_definition_got, interface_mixin_definition_fault)

-- what the search for the proof of its `parse` uses
pub ruleset partial_interface_mixin_definition_steps = (partial_interface_mixin_definition_got, partial_interface_mixin_definition_fault)
