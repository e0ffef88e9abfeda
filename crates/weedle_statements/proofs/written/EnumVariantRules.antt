-- The values of enums. Written by tools/idl_proofs.py, and not edited by hand.
use Rattle.std.proofs.Common.{refl}
use Rattle.std.specs.Borrow.{Bor}
use Rattle.std.specs.Prelude.{ℕ, List, [], ◌∷◌, Option}
use Rattle.weedle_base.proofs.RuleFacts.{fault_rule, got_rule, option_rule, own_rule, seq_last, seq_next, seq_rule, still_rule}
use Rattle.weedle_base.specs.Generic.{option_reading, pair_reading}
use Rattle.weedle_base.specs.Own.{own}
use Rattle.weedle_base.specs.Reading.{Faults, Got, Reading}
use Rattle.weedle_base.specs.Rules.{IsRule, option_tree}
use Rattle.weedle_base.specs.declared.fault.Err.{Err as Fault}
use Rattle.weedle_base.specs.declared.fault.Error.{Error}
use Rattle.weedle_grammar.specs.Trees.{Node, trees}
use Rattle.weedle_grammar.specs.written.Table.InterfaceMembers.{OPT_DOCSTRING}
use Rattle.weedle_grammar.specs.written.Table.Leaves.{DOCSTRING, STRING_LIT}
use Rattle.weedle_grammar.specs.written.Table.OtherMembers.{ENUM_VARIANT}
use Rattle.weedle_parts.specs.LiteralTrees.{string_tree}
use Rattle.weedle_parts.specs.ValueTrees.{docstring_tree}
use Rattle.weedle_parts.specs.declared.common.docstring.Docstring.{Docstring}
use Rattle.weedle_parts.specs.declared.literal.string.StringLit.{StringLit}
use Rattle.weedle_statements.specs.declared.enums.EnumVariant.{EnumVariant}
use Rattle.weedle_statements.specs.written.Trees.{enum_variant_tree}

-- a value
abbrev enum_variant_parts : Reading ((Option Docstring) × StringLit)
enum_variant_parts = pair_reading (option_reading (own DOCSTRING docstring_tree (Unit {0}))) (own STRING_LIT string_tree ⊥)

enum_variant_rule : IsRule enum_variant_parts ENUM_VARIANT (λ x. Node (trees (option_tree docstring_tree x.0 ∷ string_tree x.1 ∷ []))) (Unit {0})
enum_variant_rule = seq_rule (seq_next (option_rule (own_rule DOCSTRING docstring_tree (Unit {0})) OPT_DOCSTRING refl refl) (seq_last (still_rule (own_rule STRING_LIT string_tree ⊥)))) ENUM_VARIANT refl refl

-- the parts give what the rule gives
pub enum_variant_got : {s rest : List ℕ} (x : EnumVariant) → Got enum_variant_parts s (x.docstring, x.value) rest → Got (own ENUM_VARIANT enum_variant_tree (Unit {0})) s x rest
enum_variant_got x h = got_rule enum_variant_rule enum_variant_tree x h refl

-- a fault of the parts is one of the rule
pub enum_variant_fault : {s : List ℕ} {e : Fault (Error (Bor (List ℕ)))} → Faults enum_variant_parts s e → Faults (own ENUM_VARIANT enum_variant_tree (Unit {0})) s e
enum_variant_fault h = fault_rule enum_variant_rule enum_variant_tree h

-- what the search for the proof of its `parse` uses
pub ruleset enum_variant_steps = (enum_variant_got, enum_variant_fault)
