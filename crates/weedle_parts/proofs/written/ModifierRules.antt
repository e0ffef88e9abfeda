-- The words that may stand before a member. Written by tools/idl_proofs.py, and not edited by hand.
use Rattle.std.proofs.Common.{refl}
use Rattle.std.specs.Borrow.{Bor}
use Rattle.std.specs.Prelude.{ℕ, List}
use Rattle.weedle_base.proofs.ChoiceFacts.{choice_tree, first_last, first_more, first_rule}
use Rattle.weedle_base.proofs.ChoiceSteps.{first_seen}
use Rattle.weedle_base.proofs.RuleFacts.{fault_rule, got_rule, mark, mark_rule}
use Rattle.weedle_base.specs.Choices.{choice_view}
use Rattle.weedle_base.specs.Generic.{choice_reading, seen_reading}
use Rattle.weedle_base.specs.Own.{own}
use Rattle.weedle_base.specs.Reading.{Faults, Got, Reading}
use Rattle.weedle_base.specs.Rules.{IsRule}
use Rattle.weedle_base.specs.declared.choice.Choice.TheVariants.{First, Second}
use Rattle.weedle_base.specs.declared.choice.Choice.{Choice}
use Rattle.weedle_base.specs.declared.fault.Err.{Err as Fault}
use Rattle.weedle_base.specs.declared.fault.Error.{Error}
use Rattle.weedle_base.specs.declared.term.written.definition_keywords.Deleter.{Deleter}
use Rattle.weedle_base.specs.declared.term.written.definition_keywords.Getter.{Getter}
use Rattle.weedle_base.specs.declared.term.written.definition_keywords.Inherit.{Inherit}
use Rattle.weedle_base.specs.declared.term.written.definition_keywords.LegacyCaller.{LegacyCaller}
use Rattle.weedle_base.specs.declared.term.written.definition_keywords.Setter.{Setter}
use Rattle.weedle_base.specs.declared.term.written.definition_keywords.Static.{Static}
use Rattle.weedle_base.specs.declared.term.written.definition_keywords.Stringifier.{Stringifier}
use Rattle.weedle_grammar.specs.Trees.{Alt, Mark}
use Rattle.weedle_grammar.specs.written.Table.InterfaceMembers.{SPECIAL, STRINGIFIER_OR_INHERIT_OR_STATIC, STRINGIFIER_OR_STATIC}
use Rattle.weedle_grammar.specs.written.Table.Keywords.{DELETER, GETTER, INHERIT, LEGACY_CALLER, SETTER, STATIC, STRINGIFIER}
use Rattle.weedle_parts.specs.ModifierTrees.{special_tree, stringifier_or_inherit_or_static_tree, stringifier_or_static_tree}
use Rattle.weedle_parts.specs.declared.modifier.Special.TheVariants.{Getter as IsGetter, Setter as IsSetter, Deleter as IsDeleter, LegacyCaller as IsLegacyCaller}
use Rattle.weedle_parts.specs.declared.modifier.Special.{Special}
use Rattle.weedle_parts.specs.declared.modifier.StringifierOrInheritOrStatic.TheVariants.{Stringifier as IsStringifier, Inherit as IsInherit, Static as IsStatic}
use Rattle.weedle_parts.specs.declared.modifier.StringifierOrInheritOrStatic.{StringifierOrInheritOrStatic}
use Rattle.weedle_parts.specs.declared.modifier.StringifierOrStatic.TheVariants.{Stringifier as IsStringifier, Static as IsStatic}
use Rattle.weedle_parts.specs.declared.modifier.StringifierOrStatic.{StringifierOrStatic}

-- one of four words
abbrev special_parts : Reading (Choice Getter (Choice Setter (Choice Deleter LegacyCaller)))
special_parts = seen_reading choice_view (choice_reading (mark GETTER) (seen_reading choice_view (choice_reading (mark SETTER) (seen_reading choice_view (choice_reading (mark DELETER) (mark LEGACY_CALLER))))))

-- which of the alternatives a value is
abbrev special_view : Special → Choice Getter (Choice Setter (Choice Deleter LegacyCaller))
special_view (IsGetter v) = First v
special_view (IsSetter v) = Second (First v)
special_view (IsDeleter v) = Second (Second (First v))
special_view (IsLegacyCaller v) = Second (Second (Second v))

special_rule : IsRule special_parts SPECIAL (λ x. choice_tree (λ v. Alt 0 Mark) (λ x. choice_tree (λ v. Alt 1 Mark) (λ x. choice_tree (λ v. Alt 2 Mark) (λ v. Alt 3 Mark) (choice_view x)) (choice_view x)) (choice_view x)) ⊥
special_rule = first_rule (first_seen choice_view (first_more 0 (mark_rule GETTER) (first_seen choice_view (first_more 1 (mark_rule SETTER) (first_seen choice_view (first_more 2 (mark_rule DELETER) (first_last 3 (mark_rule LEGACY_CALLER)))))))) SPECIAL refl refl

-- the parts give what the rule gives
pub special_got : {s rest : List ℕ} (x : Special) → Got special_parts s (special_view x) rest → Got (own SPECIAL special_tree ⊥) s x rest
special_got (IsGetter v) h = got_rule special_rule special_tree _ h refl
special_got (IsSetter v) h = got_rule special_rule special_tree _ h refl
special_got (IsDeleter v) h = got_rule special_rule special_tree _ h refl
special_got (IsLegacyCaller v) h = got_rule special_rule special_tree _ h refl

-- a fault of the parts is one of the rule
pub special_fault : {s : List ℕ} {e : Fault (Error (Bor (List ℕ)))} → Faults special_parts s e → Faults (own SPECIAL special_tree ⊥) s e
special_fault h = fault_rule special_rule special_tree h

-- one of three words
abbrev stringifier_or_inherit_or_static_parts : Reading (Choice Stringifier (Choice Inherit Static))
stringifier_or_inherit_or_static_parts = seen_reading choice_view (choice_reading (mark STRINGIFIER) (seen_reading choice_view (choice_reading (mark INHERIT) (mark STATIC))))

-- which of the alternatives a value is
abbrev stringifier_or_inherit_or_static_view : StringifierOrInheritOrStatic → Choice Stringifier (Choice Inherit Static)
stringifier_or_inherit_or_static_view (IsStringifier v) = First v
stringifier_or_inherit_or_static_view (IsInherit v) = Second (First v)
stringifier_or_inherit_or_static_view (IsStatic v) = Second (Second v)

stringifier_or_inherit_or_static_rule : IsRule stringifier_or_inherit_or_static_parts STRINGIFIER_OR_INHERIT_OR_STATIC (λ x. choice_tree (λ v. Alt 0 Mark) (λ x. choice_tree (λ v. Alt 1 Mark) (λ v. Alt 2 Mark) (choice_view x)) (choice_view x)) ⊥
stringifier_or_inherit_or_static_rule = first_rule (first_seen choice_view (first_more 0 (mark_rule STRINGIFIER) (first_seen choice_view (first_more 1 (mark_rule INHERIT) (first_last 2 (mark_rule STATIC)))))) STRINGIFIER_OR_INHERIT_OR_STATIC refl refl

-- the parts give what the rule gives
pub stringifier_or_inherit_or_static_got : {s rest : List ℕ} (x : StringifierOrInheritOrStatic) → Got stringifier_or_inherit_or_static_parts s (stringifier_or_inherit_or_static_view x) rest → Got (own STRINGIFIER_OR_INHERIT_OR_STATIC stringifier_or_inherit_or_static_tree ⊥) s x rest
stringifier_or_inherit_or_static_got (IsStringifier v) h = got_rule stringifier_or_inherit_or_static_rule stringifier_or_inherit_or_static_tree _ h refl
stringifier_or_inherit_or_static_got (IsInherit v) h = got_rule stringifier_or_inherit_or_static_rule stringifier_or_inherit_or_static_tree _ h refl
stringifier_or_inherit_or_static_got (IsStatic v) h = got_rule stringifier_or_inherit_or_static_rule stringifier_or_inherit_or_static_tree _ h refl

-- a fault of the parts is one of the rule
pub stringifier_or_inherit_or_static_fault : {s : List ℕ} {e : Fault (Error (Bor (List ℕ)))} → Faults stringifier_or_inherit_or_static_parts s e → Faults (own STRINGIFIER_OR_INHERIT_OR_STATIC stringifier_or_inherit_or_static_tree ⊥) s e
stringifier_or_inherit_or_static_fault h = fault_rule stringifier_or_inherit_or_static_rule stringifier_or_inherit_or_static_tree h

-- one of two words
abbrev stringifier_or_static_parts : Reading (Choice Stringifier Static)
stringifier_or_static_parts = seen_reading choice_view (choice_reading (mark STRINGIFIER) (mark STATIC))

-- which of the alternatives a value is
abbrev stringifier_or_static_view : StringifierOrStatic → Choice Stringifier Static
stringifier_or_static_view (IsStringifier v) = First v
stringifier_or_static_view (IsStatic v) = Second v

stringifier_or_static_rule : IsRule stringifier_or_static_parts STRINGIFIER_OR_STATIC (λ x. choice_tree (λ v. Alt 0 Mark) (λ v. Alt 1 Mark) (choice_view x)) ⊥
stringifier_or_static_rule = first_rule (first_seen choice_view (first_more 0 (mark_rule STRINGIFIER) (first_last 1 (mark_rule STATIC)))) STRINGIFIER_OR_STATIC refl refl

-- the parts give what the rule gives
pub stringifier_or_static_got : {s rest : List ℕ} (x : StringifierOrStatic) → Got stringifier_or_static_parts s (stringifier_or_static_view x) rest → Got (own STRINGIFIER_OR_STATIC stringifier_or_static_tree ⊥) s x rest
stringifier_or_static_got (IsStringifier v) h = got_rule stringifier_or_static_rule stringifier_or_static_tree _ h refl
stringifier_or_static_got (IsStatic v) h = got_rule stringifier_or_static_rule stringifier_or_static_tree _ h refl

-- a fault of the parts is one of the rule
pub stringifier_or_static_fault : {s : List ℕ} {e : Fault (Error (Bor (List ℕ)))} → Faults stringifier_or_static_parts s e → Faults (own STRINGIFIER_OR_STATIC stringifier_or_static_tree ⊥) s e
stringifier_or_static_fault h = fault_rule stringifier_or_static_rule stringifier_or_static_tree h

-- what the search for the proof of its `parse` uses
pub ruleset special_steps = (special_got, special_fault)

-- what the search for the proof of its `parse` uses
pub ruleset stringifier_or_inherit_or_static_steps = (stringifier_or_inherit_or_static_got, stringifier_or_inherit_or_static_fault)

-- what the search for the proof of its `parse` uses
pub ruleset stringifier_or_static_steps = (stringifier_or_static_got, stringifier_or_static_fault)
