-- The types of floating-point numbers, and their rules.
use Rattle.weedle_base.proofs.Steps.{part_steps}
use Rattle.std.proofs.Common.{refl, inl, inr}
use Rattle.std.specs.Borrow.{Bor}
use Rattle.std.specs.Prelude.{ℕ, List, [], ◌∷◌, ◌⊎◌, Option}
use Rattle.weedle_base.proofs.ChoiceFacts.{choice_tree, first_last, first_more, first_rule, choice_steps}
use Rattle.weedle_base.specs.Generic.{choice_reading, option_reading, pair_reading}
use Rattle.weedle_base.proofs.RuleFacts.{mark, mark_rule, own_rule, option_rule, pair_rule, got_rule, fault_rule}
use Rattle.weedle_base.specs.Own.{own}
use Rattle.weedle_base.specs.Reading.{Reading, Got, Faults}
use Rattle.weedle_base.specs.Rules.{IsRule, option_tree, mark_tree}
use Rattle.weedle_base.specs.declared.fault.Err.{Err as Fault}
use Rattle.weedle_base.specs.declared.fault.Error.{Error}
use Rattle.weedle_base.specs.declared.term.written.type_keywords.Double.{Double}
use Rattle.weedle_base.specs.declared.term.written.type_keywords.Float.{Float}
use Rattle.weedle_base.specs.declared.term.written.type_keywords.Unrestricted.{Unrestricted}
use Rattle.weedle_parts.specs.ValueTrees.{float_type_tree, double_type_tree, floating_point_type_tree}
use Rattle.weedle_parts.specs.declared.types.floating_point.DoubleType.{DoubleType}
use Rattle.weedle_parts.specs.declared.types.floating_point.FloatType.{FloatType}
use Rattle.weedle_parts.specs.declared.types.floating_point.FloatingPointType.{FloatingPointType}
use Rattle.weedle_parts.specs.declared.types.floating_point.FloatingPointType.TheVariants.{Float as IsFloat, Double as IsDouble}
use Rattle.weedle_grammar.specs.written.Table.Keywords.{DOUBLE, FLOAT, UNRESTRICTED}
use Rattle.weedle_grammar.specs.written.Table.SimpleTypes.{OPT_UNRESTRICTED, FLOAT_TYPE, DOUBLE_TYPE, FLOATING_POINT_TYPE}
use Rattle.weedle_grammar.specs.Trees.{Mark, Node, Alt, trees}

abbrev unrestricted_reading : Reading (Option Unrestricted)
unrestricted_reading = option_reading (mark UNRESTRICTED)

unrestricted_rule : IsRule unrestricted_reading OPT_UNRESTRICTED (option_tree mark_tree) ⊥
unrestricted_rule = option_rule (mark_rule UNRESTRICTED) OPT_UNRESTRICTED refl refl

-- `float`
abbrev float_type_parts : Reading (Option Unrestricted × Float)
float_type_parts = pair_reading unrestricted_reading (mark FLOAT)

float_type_rule : IsRule float_type_parts FLOAT_TYPE (λ x. Node (trees (option_tree mark_tree x.0 ∷ Mark ∷ []))) ⊥
float_type_rule = pair_rule unrestricted_rule (mark_rule FLOAT) FLOAT_TYPE refl refl

-- the parts give what the rule gives
pub float_type_got : {s rest : List ℕ} (x : FloatType) → Got float_type_parts s (x.unrestricted, x.float) rest → Got (own FLOAT_TYPE float_type_tree ⊥) s x rest
float_type_got x h = got_rule float_type_rule float_type_tree x h refl

-- a fault of the parts is one of the rule
pub float_type_fault : {s : List ℕ} {e : Fault (Error (Bor (List ℕ)))} → Faults float_type_parts s e → Faults (own FLOAT_TYPE float_type_tree ⊥) s e
float_type_fault h = fault_rule float_type_rule float_type_tree h

-- `double`
abbrev double_type_parts : Reading (Option Unrestricted × Double)
double_type_parts = pair_reading unrestricted_reading (mark DOUBLE)

double_type_rule : IsRule double_type_parts DOUBLE_TYPE (λ x. Node (trees (option_tree mark_tree x.0 ∷ Mark ∷ []))) ⊥
double_type_rule = pair_rule unrestricted_rule (mark_rule DOUBLE) DOUBLE_TYPE refl refl

-- the parts give what the rule gives
pub double_type_got : {s rest : List ℕ} (x : DoubleType) → Got double_type_parts s (x.unrestricted, x.double) rest → Got (own DOUBLE_TYPE double_type_tree ⊥) s x rest
double_type_got x h = got_rule double_type_rule double_type_tree x h refl

-- a fault of the parts is one of the rule
pub double_type_fault : {s : List ℕ} {e : Fault (Error (Bor (List ℕ)))} → Faults double_type_parts s e → Faults (own DOUBLE_TYPE double_type_tree ⊥) s e
double_type_fault h = fault_rule double_type_rule double_type_tree h

-- either of them
abbrev floating_point_type_parts : Reading (FloatType ⊎ DoubleType)
floating_point_type_parts = choice_reading (own FLOAT_TYPE float_type_tree ⊥) (own DOUBLE_TYPE double_type_tree ⊥)

-- which of the alternatives a value is
abbrev floating_point_type_view : FloatingPointType → FloatType ⊎ DoubleType
floating_point_type_view (IsFloat v) = inl v
floating_point_type_view (IsDouble v) = inr v

floating_point_type_rule : IsRule floating_point_type_parts FLOATING_POINT_TYPE
    (choice_tree (λ v. Alt 0 (float_type_tree v)) (λ v. Alt 1 (double_type_tree v))) ⊥
floating_point_type_rule =
    first_rule
    (first_more 0 (own_rule FLOAT_TYPE float_type_tree ⊥)
    (first_last 1 (own_rule DOUBLE_TYPE double_type_tree ⊥)))
    FLOATING_POINT_TYPE refl refl

-- the parts give what the rule gives
pub floating_point_type_got : {s rest : List ℕ} (x : FloatingPointType) → Got floating_point_type_parts s (floating_point_type_view x) rest → Got (own FLOATING_POINT_TYPE floating_point_type_tree ⊥) s x rest
floating_point_type_got (IsFloat v) h = got_rule floating_point_type_rule floating_point_type_tree _ h refl
floating_point_type_got (IsDouble v) h = got_rule floating_point_type_rule floating_point_type_tree _ h refl

-- a fault of the parts is one of the rule
pub floating_point_type_fault : {s : List ℕ} {e : Fault (Error (Bor (List ℕ)))} → Faults floating_point_type_parts s e → Faults (own FLOATING_POINT_TYPE floating_point_type_tree ⊥) s e
floating_point_type_fault h = fault_rule floating_point_type_rule floating_point_type_tree h

-- what the search for the proof of its `parse` uses
pub ruleset float_type_steps = (part_steps, float_type_got, float_type_fault)

-- what the search for the proof of its `parse` uses
pub ruleset double_type_steps = (part_steps, double_type_got, double_type_fault)

-- what the search for the proof of its `parse` uses
pub ruleset floating_point_type_steps = (choice_steps, floating_point_type_got, floating_point_type_fault)
