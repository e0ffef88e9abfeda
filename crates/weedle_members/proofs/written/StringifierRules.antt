-- Stringifiers. Written by tools/idl_proofs.py, and not edited by hand.
use Rattle.std.proofs.Common.{refl}
use Rattle.std.specs.Borrow.{Bor}
use Rattle.std.specs.Prelude.{ℕ, List, [], ◌∷◌}
use Rattle.weedle_base.proofs.RuleFacts.{fault_rule, got_rule, mark, seq_last, seq_next, seq_rule}
use Rattle.weedle_base.proofs.Steps.{part_steps}
use Rattle.weedle_base.specs.Generic.{pair_reading}
use Rattle.weedle_base.specs.Own.{own}
use Rattle.weedle_base.specs.Reading.{Faults, Got, Reading}
use Rattle.weedle_base.specs.Rules.{IsRule}
use Rattle.weedle_base.specs.declared.fault.Err.{Err as Fault}
use Rattle.weedle_base.specs.declared.fault.Error.{Error}
use Rattle.weedle_base.specs.declared.term.written.definition_keywords.Stringifier.{Stringifier}
use Rattle.weedle_base.specs.declared.term.written.symbols.SemiColon.{SemiColon}
use Rattle.weedle_grammar.specs.Trees.{Mark, Node, trees}
use Rattle.weedle_grammar.specs.written.Table.InterfaceMembers.{STRINGIFIER_MEMBER}
use Rattle.weedle_grammar.specs.written.Table.Keywords.{STRINGIFIER}
use Rattle.weedle_grammar.specs.written.Table.Symbols.{SEMI_COLON}
use Rattle.weedle_members.specs.declared.stringifier.StringifierMember.{StringifierMember}
use Rattle.weedle_members.specs.written.Trees.{stringifier_member_tree}
use Rattle.weedle_types.proofs.SharedRules.{attributes_reading, attributes_rule, word}
use Rattle.weedle_types.specs.PartTrees.{Attributes}
use Rattle.weedle_types.specs.Trees.{attributes_tree}

-- a stringifier
abbrev stringifier_member_parts : Reading (Attributes × (Stringifier × SemiColon))
stringifier_member_parts = pair_reading attributes_reading (pair_reading (mark STRINGIFIER) (mark SEMI_COLON))

stringifier_member_rule : IsRule stringifier_member_parts STRINGIFIER_MEMBER (λ x. Node (trees (attributes_tree x.0 ∷ Mark ∷ Mark ∷ []))) (Unit {0})
stringifier_member_rule = seq_rule (seq_next attributes_rule (seq_next (word STRINGIFIER) (seq_last (word SEMI_COLON)))) STRINGIFIER_MEMBER refl refl

-- the parts give what the rule gives
pub stringifier_member_got : {s rest : List ℕ} (x : StringifierMember) → Got stringifier_member_parts s (x.attributes, (x.stringifier, x.semi_colon)) rest → Got (own STRINGIFIER_MEMBER stringifier_member_tree (Unit {0})) s x rest
stringifier_member_got x h = got_rule stringifier_member_rule stringifier_member_tree x h refl

-- a fault of the parts is one of the rule
pub stringifier_member_fault : {s : List ℕ} {e : Fault (Error (Bor (List ℕ)))} → Faults stringifier_member_parts s e → Faults (own STRINGIFIER_MEMBER stringifier_member_tree (Unit {0})) s e
stringifier_member_fault h = fault_rule stringifier_member_rule stringifier_member_tree h

-- what the search for the proof of its `parse` uses
pub ruleset stringifier_member_steps = (part_steps, stringifier_member_got, stringifier_member_fault)
