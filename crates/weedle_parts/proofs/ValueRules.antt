-- The rules of values: of defaults, and of constants.
use Rattle.std.specs.Prelude.{ℕ, List, ◌⊎◌}
use Rattle.std.specs.Borrow.{Bor}
use Rattle.std.proofs.Common.{refl, inl, inr}
use Rattle.weedle_grammar.specs.Trees.{Mark, Alt}
use Rattle.weedle_grammar.specs.written.Table.Keywords.{NULL}
use Rattle.weedle_grammar.specs.written.Table.Leaves.{STRING_LIT}
use Rattle.weedle_grammar.specs.written.Table.Literals.{BOOLEAN_LIT, INTEGER_LIT, FLOAT_LIT, EMPTY_ARRAY_LIT, EMPTY_DICTIONARY_LIT, DEFAULT_VALUE, CONST_VALUE}
use Rattle.weedle_base.specs.declared.fault.Err.{Err as Fault}
use Rattle.weedle_base.specs.declared.fault.Error.{Error}
use Rattle.weedle_base.specs.declared.term.written.type_keywords.Null.{Null}
use Rattle.weedle_base.specs.Own.{own}
use Rattle.weedle_base.specs.Reading.{Reading, Got, Faults}
use Rattle.weedle_base.specs.Rules.{IsRule}
use Rattle.weedle_base.proofs.ChoiceFacts.{choice_tree, first_last, first_more, first_rule, choice_steps}
use Rattle.weedle_base.specs.Generic.{choice_reading}
use Rattle.weedle_base.proofs.RuleFacts.{own_rule, got_rule, fault_rule}
use Rattle.weedle_parts.specs.declared.literal.boolean.BooleanLit.{BooleanLit}
use Rattle.weedle_parts.specs.declared.literal.empty.EmptyArrayLit.{EmptyArrayLit}
use Rattle.weedle_parts.specs.declared.literal.empty.EmptyDictionaryLit.{EmptyDictionaryLit}
use Rattle.weedle_parts.specs.declared.literal.float.FloatLit.{FloatLit}
use Rattle.weedle_parts.specs.declared.literal.integer.IntegerLit.{IntegerLit}
use Rattle.weedle_parts.specs.declared.literal.string.StringLit.{StringLit}
use Rattle.weedle_parts.specs.declared.literal.value.DefaultValue.{DefaultValue}
use Rattle.weedle_parts.specs.declared.literal.value.DefaultValue.TheVariants.{Boolean as DefaultBoolean, EmptyArray, EmptyDictionary, Float as DefaultFloat, Integer as DefaultInteger, Null as DefaultNull, String as DefaultString}
use Rattle.weedle_parts.specs.declared.literal.value.ConstValue.{ConstValue}
use Rattle.weedle_parts.specs.declared.literal.value.ConstValue.TheVariants.{Boolean as ConstBoolean, Float as ConstFloat, Integer as ConstInteger, Null as ConstNull}
use Rattle.weedle_parts.specs.LiteralTrees.{boolean_tree, empty_array_tree, empty_dictionary_tree, float_tree, integer_tree, string_tree, default_value_tree, const_value_tree}

-- a default's value
abbrev pub default_value_parts : Reading (BooleanLit ⊎ (EmptyArrayLit ⊎ (EmptyDictionaryLit ⊎ (FloatLit ⊎ (IntegerLit ⊎ (Null ⊎ StringLit))))))
default_value_parts =
    choice_reading (own BOOLEAN_LIT boolean_tree ⊥)
    (choice_reading (own EMPTY_ARRAY_LIT empty_array_tree ⊥)
    (choice_reading (own EMPTY_DICTIONARY_LIT empty_dictionary_tree ⊥)
    (choice_reading (own FLOAT_LIT float_tree ⊥)
    (choice_reading (own INTEGER_LIT integer_tree ⊥)
    (choice_reading (own NULL (λ v. Mark) ⊥) (own STRING_LIT string_tree ⊥))))))

default_value_rule : IsRule default_value_parts DEFAULT_VALUE
    (choice_tree (λ v. Alt 0 (boolean_tree v))
    (choice_tree (λ v. Alt 1 (empty_array_tree v))
    (choice_tree (λ v. Alt 2 (empty_dictionary_tree v))
    (choice_tree (λ v. Alt 3 (float_tree v))
    (choice_tree (λ v. Alt 4 (integer_tree v))
    (choice_tree (λ v. Alt 5 Mark) (λ v. Alt 6 (string_tree v)))))))) ⊥
default_value_rule =
    first_rule
    (first_more 0 (own_rule BOOLEAN_LIT boolean_tree ⊥)
    (first_more 1 (own_rule EMPTY_ARRAY_LIT empty_array_tree ⊥)
    (first_more 2 (own_rule EMPTY_DICTIONARY_LIT empty_dictionary_tree ⊥)
    (first_more 3 (own_rule FLOAT_LIT float_tree ⊥)
    (first_more 4 (own_rule INTEGER_LIT integer_tree ⊥)
    (first_more 5 (own_rule NULL (λ v. Mark) ⊥)
    (first_last 6 (own_rule STRING_LIT string_tree ⊥))))))))
    DEFAULT_VALUE refl refl

-- which of the alternatives a value is
abbrev default_value_view : DefaultValue → BooleanLit ⊎ (EmptyArrayLit ⊎ (EmptyDictionaryLit ⊎ (FloatLit ⊎ (IntegerLit ⊎ (Null ⊎ StringLit)))))
default_value_view (DefaultBoolean v) = inl v
default_value_view (EmptyArray v) = inr (inl v)
default_value_view (EmptyDictionary v) = inr (inr (inl v))
default_value_view (DefaultFloat v) = inr (inr (inr (inl v)))
default_value_view (DefaultInteger v) = inr (inr (inr (inr (inl v))))
default_value_view (DefaultNull v) = inr (inr (inr (inr (inr (inl v)))))
default_value_view (DefaultString v) = inr (inr (inr (inr (inr (inr v)))))

-- the parts give what the rule gives
pub default_value_got : {s rest : List ℕ} (x : DefaultValue) → Got default_value_parts s (default_value_view x) rest → Got (own DEFAULT_VALUE default_value_tree ⊥) s x rest
default_value_got (DefaultBoolean v) h = got_rule default_value_rule default_value_tree _ h refl
default_value_got (EmptyArray v) h = got_rule default_value_rule default_value_tree _ h refl
default_value_got (EmptyDictionary v) h = got_rule default_value_rule default_value_tree _ h refl
default_value_got (DefaultFloat v) h = got_rule default_value_rule default_value_tree _ h refl
default_value_got (DefaultInteger v) h = got_rule default_value_rule default_value_tree _ h refl
default_value_got (DefaultNull v) h = got_rule default_value_rule default_value_tree _ h refl
default_value_got (DefaultString v) h = got_rule default_value_rule default_value_tree _ h refl

-- a fault of the parts is one of the rule
pub default_value_fault : {s : List ℕ} {e : Fault (Error (Bor (List ℕ)))} → Faults default_value_parts s e → Faults (own DEFAULT_VALUE default_value_tree ⊥) s e
default_value_fault h = fault_rule default_value_rule default_value_tree h

-- what the search for the proof of its `parse` uses
pub ruleset default_value_steps = (choice_steps, default_value_got, default_value_fault)

-- a constant's value
abbrev pub const_value_parts : Reading (BooleanLit ⊎ (FloatLit ⊎ (IntegerLit ⊎ Null)))
const_value_parts =
    choice_reading (own BOOLEAN_LIT boolean_tree ⊥)
    (choice_reading (own FLOAT_LIT float_tree ⊥)
    (choice_reading (own INTEGER_LIT integer_tree ⊥) (own NULL (λ v. Mark) ⊥)))

const_value_rule : IsRule const_value_parts CONST_VALUE
    (choice_tree (λ v. Alt 0 (boolean_tree v))
    (choice_tree (λ v. Alt 1 (float_tree v))
    (choice_tree (λ v. Alt 2 (integer_tree v)) (λ v. Alt 3 Mark)))) ⊥
const_value_rule =
    first_rule
    (first_more 0 (own_rule BOOLEAN_LIT boolean_tree ⊥)
    (first_more 1 (own_rule FLOAT_LIT float_tree ⊥)
    (first_more 2 (own_rule INTEGER_LIT integer_tree ⊥)
    (first_last 3 (own_rule NULL (λ v. Mark) ⊥)))))
    CONST_VALUE refl refl

-- which of the alternatives a value is
abbrev const_value_view : ConstValue → BooleanLit ⊎ (FloatLit ⊎ (IntegerLit ⊎ Null))
const_value_view (ConstBoolean v) = inl v
const_value_view (ConstFloat v) = inr (inl v)
const_value_view (ConstInteger v) = inr (inr (inl v))
const_value_view (ConstNull v) = inr (inr (inr v))

-- the parts give what the rule gives
pub const_value_got : {s rest : List ℕ} (x : ConstValue) → Got const_value_parts s (const_value_view x) rest → Got (own CONST_VALUE const_value_tree ⊥) s x rest
const_value_got (ConstBoolean v) h = got_rule const_value_rule const_value_tree _ h refl
const_value_got (ConstFloat v) h = got_rule const_value_rule const_value_tree _ h refl
const_value_got (ConstInteger v) h = got_rule const_value_rule const_value_tree _ h refl
const_value_got (ConstNull v) h = got_rule const_value_rule const_value_tree _ h refl

-- a fault of the parts is one of the rule
pub const_value_fault : {s : List ℕ} {e : Fault (Error (Bor (List ℕ)))} → Faults const_value_parts s e → Faults (own CONST_VALUE const_value_tree ⊥) s e
const_value_fault h = fault_rule const_value_rule const_value_tree h

-- what the search for the proof of its `parse` uses
pub ruleset const_value_steps = (choice_steps, const_value_got, const_value_fault)
