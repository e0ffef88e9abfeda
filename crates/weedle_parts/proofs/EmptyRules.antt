-- The rules of empty lists and dictionaries.
use Rattle.std.specs.Prelude.{ℕ, List, [], ◌∷◌}
use Rattle.std.specs.Borrow.{Bor}
use Rattle.std.proofs.Common.{refl}
use Rattle.weedle_grammar.specs.Trees.{Mark, Node, trees}
use Rattle.weedle_grammar.specs.written.Table.Symbols.{OPEN_BRACKET, CLOSE_BRACKET, OPEN_BRACE, CLOSE_BRACE}
use Rattle.weedle_grammar.specs.written.Table.Literals.{EMPTY_ARRAY_LIT, EMPTY_DICTIONARY_LIT}
use Rattle.weedle_base.specs.declared.fault.Err.{Err as Fault}
use Rattle.weedle_base.specs.declared.fault.Error.{Error}
use Rattle.weedle_base.specs.declared.term.written.symbols.OpenBracket.{OpenBracket}
use Rattle.weedle_base.specs.declared.term.written.symbols.CloseBracket.{CloseBracket}
use Rattle.weedle_base.specs.declared.term.written.symbols.OpenBrace.{OpenBrace}
use Rattle.weedle_base.specs.declared.term.written.symbols.CloseBrace.{CloseBrace}
use Rattle.weedle_base.specs.Own.{own}
use Rattle.weedle_base.specs.Reading.{Reading, Got, Faults}
use Rattle.weedle_base.specs.Rules.{IsRule}
use Rattle.weedle_base.specs.Generic.{pair_reading}
use Rattle.weedle_base.proofs.Steps.{part_steps}
use Rattle.weedle_base.proofs.RuleFacts.{own_rule, pair_rule, got_rule, fault_rule}
use Rattle.weedle_parts.specs.LiteralTrees.{empty_array_tree, empty_dictionary_tree}

abbrev pub empty_array_parts : Reading (OpenBracket × CloseBracket)
empty_array_parts = pair_reading (own OPEN_BRACKET (λ v. Mark) ⊥) (own CLOSE_BRACKET (λ v. Mark) ⊥)

empty_array_rule : IsRule empty_array_parts EMPTY_ARRAY_LIT (λ x. Node (trees (Mark ∷ Mark ∷ []))) ⊥
empty_array_rule = pair_rule (own_rule OPEN_BRACKET (λ v. Mark) ⊥) (own_rule CLOSE_BRACKET (λ v. Mark) ⊥) EMPTY_ARRAY_LIT refl refl

module _ {s : List ℕ} where
  pub empty_array_got : {rest : List ℕ} {open_bracket : OpenBracket} {close_bracket : CloseBracket} → Got empty_array_parts s (open_bracket, close_bracket) rest → Got (own EMPTY_ARRAY_LIT empty_array_tree ⊥) s (record { open_bracket = open_bracket; close_bracket = close_bracket }) rest
  empty_array_got h = got_rule empty_array_rule empty_array_tree _ h refl

  pub empty_array_fault : {e : Fault (Error (Bor (List ℕ)))} → Faults empty_array_parts s e → Faults (own EMPTY_ARRAY_LIT empty_array_tree ⊥) s e
  empty_array_fault h = fault_rule empty_array_rule empty_array_tree h

-- what the search for a proof of its `parse` is to use
pub ruleset empty_array_steps = (part_steps, empty_array_fault, empty_array_got)

abbrev pub empty_dictionary_parts : Reading (OpenBrace × CloseBrace)
empty_dictionary_parts = pair_reading (own OPEN_BRACE (λ v. Mark) ⊥) (own CLOSE_BRACE (λ v. Mark) ⊥)

empty_dictionary_rule : IsRule empty_dictionary_parts EMPTY_DICTIONARY_LIT (λ x. Node (trees (Mark ∷ Mark ∷ []))) ⊥
empty_dictionary_rule = pair_rule (own_rule OPEN_BRACE (λ v. Mark) ⊥) (own_rule CLOSE_BRACE (λ v. Mark) ⊥) EMPTY_DICTIONARY_LIT refl refl

module _ {s : List ℕ} where
  pub empty_dictionary_got : {rest : List ℕ} {open_brace : OpenBrace} {close_brace : CloseBrace} → Got empty_dictionary_parts s (open_brace, close_brace) rest → Got (own EMPTY_DICTIONARY_LIT empty_dictionary_tree ⊥) s (record { open_brace = open_brace; close_brace = close_brace }) rest
  empty_dictionary_got h = got_rule empty_dictionary_rule empty_dictionary_tree _ h refl

  pub empty_dictionary_fault : {e : Fault (Error (Bor (List ℕ)))} → Faults empty_dictionary_parts s e → Faults (own EMPTY_DICTIONARY_LIT empty_dictionary_tree ⊥) s e
  empty_dictionary_fault h = fault_rule empty_dictionary_rule empty_dictionary_tree h

-- what the search for a proof of its `parse` is to use
pub ruleset empty_dictionary_steps = (part_steps, empty_dictionary_fault, empty_dictionary_got)
