-- The types of integers, and their rules.
use Rattle.weedle_base.proofs.Steps.{part_steps}
use Rattle.std.proofs.Common.{refl, inl, inr}
use Rattle.std.specs.Borrow.{Bor}
use Rattle.std.specs.Prelude.{ℕ, List, [], ◌∷◌, ◌⊎◌, Option}
use Rattle.weedle_base.proofs.ChoiceFacts.{choice_tree, first_last, first_more, first_rule, choice_steps}
use Rattle.weedle_base.specs.Generic.{choice_reading, option_reading, pair_reading}
use Rattle.weedle_base.proofs.RuleFacts.{mark, mark_rule, own_rule, option_rule, pair_rule, got_rule, fault_rule}
use Rattle.weedle_base.specs.Own.{own}
use Rattle.weedle_base.specs.Reading.{Reading, Got, Faults}
use Rattle.weedle_base.specs.Rules.{IsRule, option_tree, mark_tree}
use Rattle.weedle_base.specs.declared.fault.Err.{Err as Fault}
use Rattle.weedle_base.specs.declared.fault.Error.{Error}
use Rattle.weedle_base.specs.declared.term.written.type_keywords.Long.{Long}
use Rattle.weedle_base.specs.declared.term.written.type_keywords.Short.{Short}
use Rattle.weedle_base.specs.declared.term.written.type_keywords.Unsigned.{Unsigned}
use Rattle.weedle_parts.specs.ValueTrees.{long_long_type_tree, long_type_tree, short_type_tree, integer_type_tree}
use Rattle.weedle_parts.specs.declared.types.integer.IntegerType.{IntegerType}
use Rattle.weedle_parts.specs.declared.types.integer.IntegerType.TheVariants.{LongLong, Long as IsLong, Short as IsShort}
use Rattle.weedle_parts.specs.declared.types.integer.LongLongType.{LongLongType}
use Rattle.weedle_parts.specs.declared.types.integer.LongType.{LongType}
use Rattle.weedle_parts.specs.declared.types.integer.ShortType.{ShortType}
use Rattle.weedle_grammar.specs.written.Table.Keywords.{LONG, SHORT, UNSIGNED}
use Rattle.weedle_grammar.specs.written.Table.SimpleTypes.{OPT_UNSIGNED, LONG_LONG, LONG_LONG_TYPE, LONG_TYPE, SHORT_TYPE, INTEGER_TYPE}
use Rattle.weedle_grammar.specs.Trees.{Mark, Node, Alt, trees}

abbrev unsigned_reading : Reading (Option Unsigned)
unsigned_reading = option_reading (mark UNSIGNED)

unsigned_rule : IsRule unsigned_reading OPT_UNSIGNED (option_tree mark_tree) ⊥
unsigned_rule = option_rule (mark_rule UNSIGNED) OPT_UNSIGNED refl refl

-- `long long`
abbrev long_long_type_parts : Reading (Option Unsigned × (Long × Long))
long_long_type_parts = pair_reading unsigned_reading (pair_reading (mark LONG) (mark LONG))

long_long_type_rule : IsRule long_long_type_parts LONG_LONG_TYPE (λ x. Node (trees (option_tree mark_tree x.0 ∷ Node (trees (Mark ∷ Mark ∷ [])) ∷ []))) ⊥
long_long_type_rule = pair_rule unsigned_rule (pair_rule (mark_rule LONG) (mark_rule LONG) LONG_LONG refl refl) LONG_LONG_TYPE refl refl

-- the parts give what the rule gives
pub long_long_type_got : {s rest : List ℕ} (x : LongLongType) → Got long_long_type_parts s (x.unsigned, x.long_long) rest → Got (own LONG_LONG_TYPE long_long_type_tree ⊥) s x rest
long_long_type_got x h = got_rule long_long_type_rule long_long_type_tree x h refl

-- a fault of the parts is one of the rule
pub long_long_type_fault : {s : List ℕ} {e : Fault (Error (Bor (List ℕ)))} → Faults long_long_type_parts s e → Faults (own LONG_LONG_TYPE long_long_type_tree ⊥) s e
long_long_type_fault h = fault_rule long_long_type_rule long_long_type_tree h

-- `long`
abbrev long_type_parts : Reading (Option Unsigned × Long)
long_type_parts = pair_reading unsigned_reading (mark LONG)

long_type_rule : IsRule long_type_parts LONG_TYPE (λ x. Node (trees (option_tree mark_tree x.0 ∷ Mark ∷ []))) ⊥
long_type_rule = pair_rule unsigned_rule (mark_rule LONG) LONG_TYPE refl refl

-- the parts give what the rule gives
pub long_type_got : {s rest : List ℕ} (x : LongType) → Got long_type_parts s (x.unsigned, x.long) rest → Got (own LONG_TYPE long_type_tree ⊥) s x rest
long_type_got x h = got_rule long_type_rule long_type_tree x h refl

-- a fault of the parts is one of the rule
pub long_type_fault : {s : List ℕ} {e : Fault (Error (Bor (List ℕ)))} → Faults long_type_parts s e → Faults (own LONG_TYPE long_type_tree ⊥) s e
long_type_fault h = fault_rule long_type_rule long_type_tree h

-- `short`
abbrev short_type_parts : Reading (Option Unsigned × Short)
short_type_parts = pair_reading unsigned_reading (mark SHORT)

short_type_rule : IsRule short_type_parts SHORT_TYPE (λ x. Node (trees (option_tree mark_tree x.0 ∷ Mark ∷ []))) ⊥
short_type_rule = pair_rule unsigned_rule (mark_rule SHORT) SHORT_TYPE refl refl

-- the parts give what the rule gives
pub short_type_got : {s rest : List ℕ} (x : ShortType) → Got short_type_parts s (x.unsigned, x.short) rest → Got (own SHORT_TYPE short_type_tree ⊥) s x rest
short_type_got x h = got_rule short_type_rule short_type_tree x h refl

-- a fault of the parts is one of the rule
pub short_type_fault : {s : List ℕ} {e : Fault (Error (Bor (List ℕ)))} → Faults short_type_parts s e → Faults (own SHORT_TYPE short_type_tree ⊥) s e
short_type_fault h = fault_rule short_type_rule short_type_tree h

-- any of them
abbrev integer_type_parts : Reading (LongLongType ⊎ (LongType ⊎ ShortType))
integer_type_parts =
    choice_reading (own LONG_LONG_TYPE long_long_type_tree ⊥)
    (choice_reading (own LONG_TYPE long_type_tree ⊥) (own SHORT_TYPE short_type_tree ⊥))

-- which of the alternatives a value is
abbrev integer_type_view : IntegerType → LongLongType ⊎ (LongType ⊎ ShortType)
integer_type_view (LongLong v) = inl v
integer_type_view (IsLong v) = inr (inl v)
integer_type_view (IsShort v) = inr (inr v)

integer_type_rule : IsRule integer_type_parts INTEGER_TYPE
    (choice_tree (λ v. Alt 0 (long_long_type_tree v))
    (choice_tree (λ v. Alt 1 (long_type_tree v)) (λ v. Alt 2 (short_type_tree v)))) ⊥
integer_type_rule =
    first_rule
    (first_more 0 (own_rule LONG_LONG_TYPE long_long_type_tree ⊥)
    (first_more 1 (own_rule LONG_TYPE long_type_tree ⊥)
    (first_last 2 (own_rule SHORT_TYPE short_type_tree ⊥))))
    INTEGER_TYPE refl refl

-- the parts give what the rule gives
pub integer_type_got : {s rest : List ℕ} (x : IntegerType) → Got integer_type_parts s (integer_type_view x) rest → Got (own INTEGER_TYPE integer_type_tree ⊥) s x rest
integer_type_got (LongLong v) h = got_rule integer_type_rule integer_type_tree _ h refl
integer_type_got (IsLong v) h = got_rule integer_type_rule integer_type_tree _ h refl
integer_type_got (IsShort v) h = got_rule integer_type_rule integer_type_tree _ h refl

-- a fault of the parts is one of the rule
pub integer_type_fault : {s : List ℕ} {e : Fault (Error (Bor (List ℕ)))} → Faults integer_type_parts s e → Faults (own INTEGER_TYPE integer_type_tree ⊥) s e
integer_type_fault h = fault_rule integer_type_rule integer_type_tree h

-- what the search for the proof of its `parse` uses
pub ruleset long_long_type_steps = (part_steps, long_long_type_got, long_long_type_fault)

-- what the search for the proof of its `parse` uses
pub ruleset long_type_steps = (part_steps, long_type_got, long_type_fault)

-- what the search for the proof of its `parse` uses
pub ruleset short_type_steps = (part_steps, short_type_got, short_type_fault)

-- what the search for the proof of its `parse` uses
pub ruleset integer_type_steps = (choice_steps, integer_type_got, integer_type_fault)
