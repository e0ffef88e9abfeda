-- The rule of defaults.
use Rattle.std.specs.Prelude.{ℕ, List, [], ◌∷◌}
use Rattle.std.specs.Borrow.{Bor}
use Rattle.std.proofs.Common.{refl}
use Rattle.weedle_grammar.specs.Trees.{Mark, Node, trees}
use Rattle.weedle_grammar.specs.written.Table.Symbols.{ASSIGN}
use Rattle.weedle_grammar.specs.written.Table.Literals.{DEFAULT_VALUE, DEFAULT}
use Rattle.weedle_base.specs.declared.fault.Err.{Err as Fault}
use Rattle.weedle_base.specs.declared.fault.Error.{Error}
use Rattle.weedle_base.specs.declared.term.written.symbols.Assign.{Assign}
use Rattle.weedle_base.specs.Own.{own}
use Rattle.weedle_base.specs.Reading.{Reading, Got, Faults}
use Rattle.weedle_base.specs.Rules.{IsRule}
use Rattle.weedle_base.specs.Generic.{pair_reading}
use Rattle.weedle_base.proofs.Steps.{part_steps}
use Rattle.weedle_base.proofs.RuleFacts.{own_rule, pair_rule, got_rule, fault_rule}
use Rattle.weedle_parts.specs.declared.literal.value.DefaultValue.{DefaultValue}
use Rattle.weedle_parts.specs.LiteralTrees.{default_value_tree, default_tree}

abbrev pub default_parts : Reading (Assign × DefaultValue)
default_parts = pair_reading (own ASSIGN (λ v. Mark) ⊥) (own DEFAULT_VALUE default_value_tree ⊥)

default_rule : IsRule default_parts DEFAULT (λ x. Node (trees (Mark ∷ default_value_tree x.1 ∷ []))) ⊥
default_rule = pair_rule (own_rule ASSIGN (λ v. Mark) ⊥) (own_rule DEFAULT_VALUE default_value_tree ⊥) DEFAULT refl refl

module _ {s : List ℕ} where
  pub default_got : {rest : List ℕ} {assign : Assign} {value : DefaultValue} → Got default_parts s (assign, value) rest → Got (own DEFAULT default_tree ⊥) s (record { assign = assign; value = value }) rest
  default_got h = got_rule default_rule default_tree _ h refl

  pub default_fault : {e : Fault (Error (Bor (List ℕ)))} → Faults default_parts s e → Faults (own DEFAULT default_tree ⊥) s e
  default_fault h = fault_rule default_rule default_tree h

-- what the search for a proof of its `parse` is to use
pub ruleset default_steps = (part_steps, default_fault, default_got)
