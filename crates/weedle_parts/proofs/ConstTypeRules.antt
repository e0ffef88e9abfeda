-- The types of constants, and their rule.
use Rattle.std.proofs.Common.{refl, inl, inr}
use Rattle.std.specs.Borrow.{Bor}
use Rattle.std.specs.Prelude.{ℕ, List, ◌⊎◌}
use Rattle.weedle_base.proofs.ChoiceFacts.{choice_tree, first_last, first_more, first_rule, choice_steps}
use Rattle.weedle_base.specs.Generic.{choice_reading}
use Rattle.weedle_base.proofs.RuleFacts.{mark, mark_rule, own_rule, got_rule, fault_rule}
use Rattle.weedle_base.specs.Own.{own}
use Rattle.weedle_base.specs.Reading.{Reading, Got, Faults}
use Rattle.weedle_base.specs.Rules.{IsRule, mark_tree}
use Rattle.weedle_base.specs.declared.fault.Err.{Err as Fault}
use Rattle.weedle_base.specs.declared.fault.Error.{Error}
use Rattle.weedle_base.specs.declared.term.written.type_keywords.Boolean.{Boolean}
use Rattle.weedle_base.specs.declared.term.written.type_keywords.Byte.{Byte}
use Rattle.weedle_base.specs.declared.term.written.type_keywords.Octet.{Octet}
use Rattle.weedle_parts.proofs.PartRules.{may_be_null_rule}
use Rattle.weedle_parts.specs.MayBeNull.{may_be_null_reading}
use Rattle.weedle_parts.specs.ValueTrees.{identifier_tree, may_be_null_tree, integer_type_tree, floating_point_type_tree, const_type_tree}
use Rattle.weedle_parts.specs.declared.common.identifier.Identifier.{Identifier}
use Rattle.weedle_parts.specs.declared.types.const_type.ConstType.{ConstType}
use Rattle.weedle_parts.specs.declared.types.const_type.ConstType.TheVariants.{Integer, FloatingPoint, Boolean as IsBoolean, Byte as IsByte, Octet as IsOctet, Identifier as IsIdentifier}
use Rattle.weedle_parts.specs.declared.types.floating_point.FloatingPointType.{FloatingPointType}
use Rattle.weedle_parts.specs.declared.types.integer.IntegerType.{IntegerType}
use Rattle.weedle_parts.specs.declared.types.may_be_null.MayBeNull.{MayBeNull}
use Rattle.weedle_grammar.specs.written.Table.Keywords.{BOOLEAN, BYTE, OCTET}
use Rattle.weedle_grammar.specs.written.Table.Leaves.{IDENTIFIER}
use Rattle.weedle_grammar.specs.written.Table.SimpleTypes.{INTEGER_TYPE, FLOATING_POINT_TYPE, MAY_BE_NULL_INTEGER_TYPE, MAY_BE_NULL_FLOATING_POINT_TYPE, MAY_BE_NULL_BOOLEAN, MAY_BE_NULL_BYTE, MAY_BE_NULL_OCTET, MAY_BE_NULL_IDENTIFIER, CONST_TYPE}
use Rattle.weedle_grammar.specs.Trees.{Tree, Alt}

-- the readings of the six, one after the other fails
abbrev const_type_parts : Reading (MayBeNull IntegerType ⊎ (MayBeNull FloatingPointType ⊎ (MayBeNull Boolean ⊎ (MayBeNull Byte ⊎ (MayBeNull Octet ⊎ MayBeNull Identifier)))))
const_type_parts =
    choice_reading (may_be_null_reading (own INTEGER_TYPE integer_type_tree ⊥))
    (choice_reading (may_be_null_reading (own FLOATING_POINT_TYPE floating_point_type_tree ⊥))
    (choice_reading (may_be_null_reading (mark BOOLEAN))
    (choice_reading (may_be_null_reading (mark BYTE))
    (choice_reading (may_be_null_reading (mark OCTET))
    (may_be_null_reading (own IDENTIFIER identifier_tree ⊥))))))

-- which of the alternatives a value is
abbrev const_type_view : ConstType → MayBeNull IntegerType ⊎ (MayBeNull FloatingPointType ⊎ (MayBeNull Boolean ⊎ (MayBeNull Byte ⊎ (MayBeNull Octet ⊎ MayBeNull Identifier))))
const_type_view (Integer v) = inl v
const_type_view (FloatingPoint v) = inr (inl v)
const_type_view (IsBoolean v) = inr (inr (inl v))
const_type_view (IsByte v) = inr (inr (inr (inl v)))
const_type_view (IsOctet v) = inr (inr (inr (inr (inl v))))
const_type_view (IsIdentifier v) = inr (inr (inr (inr (inr v))))

abbrev const_type_parts_tree : MayBeNull IntegerType ⊎ (MayBeNull FloatingPointType ⊎ (MayBeNull Boolean ⊎ (MayBeNull Byte ⊎ (MayBeNull Octet ⊎ MayBeNull Identifier)))) → Tree
const_type_parts_tree =
    choice_tree (λ v. Alt 0 (may_be_null_tree integer_type_tree v))
    (choice_tree (λ v. Alt 1 (may_be_null_tree floating_point_type_tree v))
    (choice_tree (λ v. Alt 2 (may_be_null_tree mark_tree v))
    (choice_tree (λ v. Alt 3 (may_be_null_tree mark_tree v))
    (choice_tree (λ v. Alt 4 (may_be_null_tree mark_tree v))
    (λ v. Alt 5 (may_be_null_tree identifier_tree v))))))

const_type_rule : IsRule const_type_parts CONST_TYPE const_type_parts_tree ⊥
const_type_rule =
    first_rule
    (first_more 0 (may_be_null_rule (own_rule INTEGER_TYPE integer_type_tree ⊥) MAY_BE_NULL_INTEGER_TYPE refl refl)
    (first_more 1 (may_be_null_rule (own_rule FLOATING_POINT_TYPE floating_point_type_tree ⊥) MAY_BE_NULL_FLOATING_POINT_TYPE refl refl)
    (first_more 2 (may_be_null_rule (mark_rule BOOLEAN) MAY_BE_NULL_BOOLEAN refl refl)
    (first_more 3 (may_be_null_rule (mark_rule BYTE) MAY_BE_NULL_BYTE refl refl)
    (first_more 4 (may_be_null_rule (mark_rule OCTET) MAY_BE_NULL_OCTET refl refl)
    (first_last 5 (may_be_null_rule (own_rule IDENTIFIER identifier_tree ⊥) MAY_BE_NULL_IDENTIFIER refl refl)))))))
    CONST_TYPE refl refl

-- the parts give what the rule gives
pub const_type_got : {s rest : List ℕ} (x : ConstType) → Got const_type_parts s (const_type_view x) rest → Got (own CONST_TYPE const_type_tree ⊥) s x rest
const_type_got (Integer v) h = got_rule const_type_rule const_type_tree _ h refl
const_type_got (FloatingPoint v) h = got_rule const_type_rule const_type_tree _ h refl
const_type_got (IsBoolean v) h = got_rule const_type_rule const_type_tree _ h refl
const_type_got (IsByte v) h = got_rule const_type_rule const_type_tree _ h refl
const_type_got (IsOctet v) h = got_rule const_type_rule const_type_tree _ h refl
const_type_got (IsIdentifier v) h = got_rule const_type_rule const_type_tree _ h refl

-- a fault of the parts is one of the rule
pub const_type_fault : {s : List ℕ} {e : Fault (Error (Bor (List ℕ)))} → Faults const_type_parts s e → Faults (own CONST_TYPE const_type_tree ⊥) s e
const_type_fault h = fault_rule const_type_rule const_type_tree h

-- what the search for the proof of its `parse` uses
pub ruleset const_type_steps = (choice_steps, const_type_got, const_type_fault)
