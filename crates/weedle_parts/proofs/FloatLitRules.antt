-- The rule of floats.
use Rattle.std.specs.Prelude.{ℕ, List, ◌⊎◌}
use Rattle.std.specs.Borrow.{Bor}
use Rattle.std.proofs.Common.{refl, inl, inr}
use Rattle.weedle_grammar.specs.Trees.{Mark, Alt}
use Rattle.weedle_grammar.specs.written.Table.CapitalizedKeywords.{INFINITY, NAN, NEG_INFINITY}
use Rattle.weedle_grammar.specs.written.Table.Leaves.{FLOAT_VALUE_LIT}
use Rattle.weedle_grammar.specs.written.Table.Literals.{FLOAT_LIT}
use Rattle.weedle_base.specs.declared.fault.Err.{Err as Fault}
use Rattle.weedle_base.specs.declared.fault.Error.{Error}
use Rattle.weedle_base.specs.declared.term.written.capitalized_keywords.Infinity.{Infinity}
use Rattle.weedle_base.specs.declared.term.written.capitalized_keywords.NaN.{NaN}
use Rattle.weedle_base.specs.declared.term.written.capitalized_keywords.NegInfinity.{NegInfinity}
use Rattle.weedle_base.specs.Own.{own}
use Rattle.weedle_base.specs.Reading.{Reading, Got, Faults}
use Rattle.weedle_base.specs.Rules.{IsRule}
use Rattle.weedle_base.proofs.ChoiceFacts.{choice_tree, first_last, first_more, first_rule, choice_steps}
use Rattle.weedle_base.specs.Generic.{choice_reading}
use Rattle.weedle_base.proofs.RuleFacts.{own_rule, got_rule, fault_rule}
use Rattle.weedle_parts.specs.declared.literal.float.FloatValueLit.{FloatValueLit}
use Rattle.weedle_parts.specs.declared.literal.float.FloatLit.{FloatLit}
use Rattle.weedle_parts.specs.declared.literal.float.FloatLit.TheVariants.{Value, NegInfinity as IsNegInfinity, Infinity as IsInfinity, NaN as IsNaN}
use Rattle.weedle_parts.specs.LiteralTrees.{float_value_tree, float_tree}

abbrev pub float_parts : Reading (FloatValueLit ⊎ (NegInfinity ⊎ (Infinity ⊎ NaN)))
float_parts =
    choice_reading (own FLOAT_VALUE_LIT float_value_tree ⊥)
    (choice_reading (own NEG_INFINITY (λ v. Mark) ⊥)
    (choice_reading (own INFINITY (λ v. Mark) ⊥) (own NAN (λ v. Mark) ⊥)))

float_rule : IsRule float_parts FLOAT_LIT
    (choice_tree (λ v. Alt 0 (float_value_tree v))
    (choice_tree (λ v. Alt 1 Mark)
    (choice_tree (λ v. Alt 2 Mark) (λ v. Alt 3 Mark)))) ⊥
float_rule =
    first_rule
    (first_more 0 (own_rule FLOAT_VALUE_LIT float_value_tree ⊥)
    (first_more 1 (own_rule NEG_INFINITY (λ v. Mark) ⊥)
    (first_more 2 (own_rule INFINITY (λ v. Mark) ⊥)
    (first_last 3 (own_rule NAN (λ v. Mark) ⊥)))))
    FLOAT_LIT refl refl

-- which of the alternatives a value is
abbrev float_view : FloatLit → FloatValueLit ⊎ (NegInfinity ⊎ (Infinity ⊎ NaN))
float_view (Value v) = inl v
float_view (IsNegInfinity v) = inr (inl v)
float_view (IsInfinity v) = inr (inr (inl v))
float_view (IsNaN v) = inr (inr (inr v))

-- the parts give what the rule gives
pub float_got : {s rest : List ℕ} (x : FloatLit) → Got float_parts s (float_view x) rest → Got (own FLOAT_LIT float_tree ⊥) s x rest
float_got (Value v) h = got_rule float_rule float_tree _ h refl
float_got (IsNegInfinity v) h = got_rule float_rule float_tree _ h refl
float_got (IsInfinity v) h = got_rule float_rule float_tree _ h refl
float_got (IsNaN v) h = got_rule float_rule float_tree _ h refl

-- a fault of the parts is one of the rule
pub float_fault : {s : List ℕ} {e : Fault (Error (Bor (List ℕ)))} → Faults float_parts s e → Faults (own FLOAT_LIT float_tree ⊥) s e
float_fault h = fault_rule float_rule float_tree h

-- what the search for the proof of its `parse` uses
pub ruleset float_steps = (choice_steps, float_got, float_fault)
