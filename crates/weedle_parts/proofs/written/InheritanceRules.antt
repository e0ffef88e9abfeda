-- What interfaces and dictionaries inherit from. Written by tools/idl_proofs.py, and not edited by hand.
use Rattle.std.proofs.Common.{refl}
use Rattle.std.specs.Borrow.{Bor}
use Rattle.std.specs.Prelude.{ℕ, List, [], ◌∷◌}
use Rattle.weedle_base.proofs.RuleFacts.{fault_rule, got_rule, mark, mark_rule, own_rule, seq_last, seq_next, seq_rule}
use Rattle.weedle_base.specs.Generic.{pair_reading}
use Rattle.weedle_base.specs.Own.{own}
use Rattle.weedle_base.specs.Reading.{Faults, Got, Reading}
use Rattle.weedle_base.specs.Rules.{IsRule}
use Rattle.weedle_base.specs.declared.fault.Err.{Err as Fault}
use Rattle.weedle_base.specs.declared.fault.Error.{Error}
use Rattle.weedle_base.specs.declared.term.written.symbols.Colon.{Colon}
use Rattle.weedle_grammar.specs.Trees.{Mark, Node, trees}
use Rattle.weedle_grammar.specs.written.Table.InterfaceMembers.{INHERITANCE}
use Rattle.weedle_grammar.specs.written.Table.Leaves.{IDENTIFIER}
use Rattle.weedle_grammar.specs.written.Table.Symbols.{COLON}
use Rattle.weedle_parts.specs.ModifierTrees.{inheritance_tree}
use Rattle.weedle_parts.specs.ValueTrees.{identifier_tree}
use Rattle.weedle_parts.specs.declared.common.identifier.Identifier.{Identifier}
use Rattle.weedle_parts.specs.declared.inheritance.Inheritance.{Inheritance}

-- a colon and a name
abbrev inheritance_parts : Reading (Colon × Identifier)
inheritance_parts = pair_reading (mark COLON) (own IDENTIFIER identifier_tree ⊥)

inheritance_rule : IsRule inheritance_parts INHERITANCE (λ x. Node (trees (Mark ∷ identifier_tree x.1 ∷ []))) ⊥
inheritance_rule = seq_rule (seq_next (mark_rule COLON) (seq_last (own_rule IDENTIFIER identifier_tree ⊥))) INHERITANCE refl refl

-- the parts give what the rule gives
pub inheritance_got : {s rest : List ℕ} (x : Inheritance) → Got inheritance_parts s (x.colon, x.identifier) rest → Got (own INHERITANCE inheritance_tree ⊥) s x rest
inheritance_got x h = got_rule inheritance_rule inheritance_tree x h refl

-- a fault of the parts is one of the rule
pub inheritance_fault : {s : List ℕ} {e : Fault (Error (Bor (List ℕ)))} → Faults inheritance_parts s e → Faults (own INHERITANCE inheritance_tree ⊥) s e
inheritance_fault h = fault_rule inheritance_rule inheritance_tree h

-- what the search for the proof of its `parse` uses
pub ruleset inheritance_steps = (inheritance_got, inheritance_fault)
