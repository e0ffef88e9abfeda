-- The rule of booleans.
use Rattle.std.specs.Prelude.{ℕ, List, ◌⊎◌, true, false, Some, None}
use Rattle.std.specs.Borrow.{Bor}
use Rattle.std.proofs.Common.{refl}
use Rattle.weedle_grammar.specs.Trees.{Mark, Alt}
use Rattle.weedle_grammar.specs.written.Table.Keywords.{TRUE, FALSE}
use Rattle.weedle_grammar.specs.written.Table.Literals.{BOOLEAN_LIT}
use Rattle.weedle_base.specs.declared.fault.Error.{Error}
use Rattle.weedle_base.specs.declared.fault.Err.{Err as Fault}
use Rattle.weedle_base.specs.declared.term.written.type_keywords.True.{True}
use Rattle.weedle_base.specs.declared.term.written.type_keywords.False.{False}
use Rattle.weedle_base.specs.Reading.{Reading, Got, Faults}
use Rattle.weedle_base.specs.Generic.{choice_reading, option_reading}
use Rattle.weedle_base.proofs.ChoiceFacts.{choice_tree, choose_left, choose_right, end_left, end_right, first_last, first_more, first_rule}
use Rattle.weedle_base.specs.Own.{own}
use Rattle.weedle_base.specs.Rules.{IsRule}
use Rattle.weedle_base.proofs.RuleFacts.{own_rule, got_rule, fault_rule}
use Rattle.weedle_parts.specs.LiteralTrees.{boolean_tree}

abbrev pub boolean_parts : Reading (True ⊎ False)
boolean_parts = choice_reading (own TRUE (λ v. Mark) ⊥) (own FALSE (λ v. Mark) ⊥)

boolean_rule : IsRule boolean_parts BOOLEAN_LIT (choice_tree (λ v. Alt 0 Mark) (λ v. Alt 1 Mark)) ⊥
boolean_rule = first_rule (first_more 0 (own_rule TRUE (λ v. Mark) ⊥) (first_last 1 (own_rule FALSE (λ v. Mark) ⊥))) BOOLEAN_LIT refl refl

module _ {s : List ℕ} where
  pub boolean_fault : {e : Fault (Error (Bor (List ℕ)))} → Faults boolean_parts s e → Faults (own BOOLEAN_LIT boolean_tree ⊥) s e
  boolean_fault h = fault_rule boolean_rule boolean_tree h

  pub chose_true : {rest : List ℕ} {v : True} → Got (option_reading (own TRUE (λ v. Mark) ⊥)) s (Some v) rest → Got (own BOOLEAN_LIT boolean_tree ⊥) s (record { 0 = true }) rest
  chose_true h = got_rule boolean_rule boolean_tree _ (choose_left (own TRUE (λ v. Mark) ⊥) (own FALSE (λ v. Mark) ⊥) h) refl

  pub chose_false : {rest end : List ℕ} {w : False} → Got (option_reading (own {V = True} TRUE (λ v. Mark) ⊥)) s None rest → Got (own FALSE (λ v. Mark) ⊥) s w end → Got (own BOOLEAN_LIT boolean_tree ⊥) s (record { 0 = false }) end
  chose_false h m = got_rule boolean_rule boolean_tree _ (choose_right (own TRUE (λ v. Mark) ⊥) (own FALSE (λ v. Mark) ⊥) h m) refl

-- what the search for a proof of its `parse` is to use
pub ruleset boolean_steps = (end_left, end_right, boolean_fault, chose_true, chose_false)
