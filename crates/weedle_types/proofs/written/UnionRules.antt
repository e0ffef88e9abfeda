-- Unions, and what follows from the answers of their parts.
use Rattle.std.proofs.Common.{inl, inr, refl, sym}
use Rattle.std.specs.Borrow.{Bor}
use Rattle.std.specs.Global.{Vec}
use Rattle.std.specs.Prelude.{List, Option, [], ℕ, ◌≡◌, ◌⊎◌}
use Rattle.std.specs.Str.{IsUtf8}
use Rattle.weedle_base.proofs.ChoiceFacts.{choice_tree, first_last, first_more, first_rule}
use Rattle.weedle_base.proofs.RuleFacts.{fault_rule, got_rule, mark, mark_rule, option_rule, own_rule, seq_last, seq_next, seq_rule, still_rule}
use Rattle.weedle_base.proofs.Steps.{part_steps}
use Rattle.weedle_base.proofs.TakesFacts.{own_takes}
use Rattle.weedle_base.specs.Generic.{choice_reading, option_reading, pair_reading}
use Rattle.weedle_base.specs.Own.{own}
use Rattle.weedle_base.specs.Reading.{Faults, Got, Reading}
use Rattle.weedle_base.specs.Rules.{IsRule}
use Rattle.weedle_base.specs.declared.fault.Err.TheVariants.{Error as Recoverable, Failure}
use Rattle.weedle_base.specs.declared.fault.Err.{Err as Fault}
use Rattle.weedle_base.specs.declared.fault.Error.{Error}
use Rattle.weedle_base.specs.declared.term.written.symbols.CloseParen.{CloseParen}
use Rattle.weedle_base.specs.declared.term.written.symbols.OpenParen.{OpenParen}
use Rattle.weedle_base.specs.declared.term.written.symbols.QMark.{QMark}
use Rattle.weedle_base.specs.declared.term.written.type_keywords.Or.{Or}
use Rattle.weedle_grammar.specs.Trees.{Alt}
use Rattle.weedle_grammar.specs.written.Table.Keywords.{OR}
use Rattle.weedle_grammar.specs.written.Table.SimpleTypes.{OPT_Q_MARK}
use Rattle.weedle_grammar.specs.written.Table.Symbols.{CLOSE_PAREN, OPEN_PAREN, Q_MARK}
use Rattle.weedle_grammar.specs.written.Table.Types.{ATTRIBUTED_NON_ANY_TYPE, LIST_UNION_MEMBER_TYPE_OR, MAY_BE_NULL_UNION_TYPE, TAIL_UNION_MEMBER_TYPE_OR, UNION_MEMBER_TYPE, UNION_TYPE}
use Rattle.weedle_parts.proofs.ListRules.{punctuated_rule}
use Rattle.weedle_parts.proofs.ListSteps.{fault_some, got_none, got_some}
use Rattle.weedle_parts.specs.Lists.{after_first, punctuated_reading}
use Rattle.weedle_parts.specs.ValueTrees.{may_be_null_tree}
use Rattle.weedle_parts.specs.declared.common.brackets.Parenthesized.{Parenthesized}
use Rattle.weedle_parts.specs.declared.common.punctuated.Punctuated.{Punctuated}
use Rattle.weedle_parts.specs.declared.types.may_be_null.MayBeNull.{MayBeNull}
use Rattle.weedle_types.proofs.Direct.{direct_choice, list_stop, pair_takes, refused_by, seen_takes}
use Rattle.weedle_types.proofs.TreeLaws.{member_single_of, member_union_of}
use Rattle.weedle_types.specs.Trees.{attributed_non_any_type_tree, union_member_type_tree, union_member_types_tree, union_type_tree}
use Rattle.weedle_types.specs.declared.types.AttributedNonAnyType.{AttributedNonAnyType}
use Rattle.weedle_types.specs.declared.types.UnionMemberType.TheVariants.{Single as UnionMemberType-Single, Union as UnionMemberType-Union}
use Rattle.weedle_types.specs.declared.types.UnionMemberType.{UnionMemberType}

-- `union_type`
abbrev union_type_parts : Reading (OpenParen × ((Punctuated UnionMemberType Or) × CloseParen))
union_type_parts = (pair_reading (mark OPEN_PAREN) (pair_reading (own LIST_UNION_MEMBER_TYPE_OR union_member_types_tree (Unit {0})) (mark CLOSE_PAREN)))

pub union_type_got : {s rest : List ℕ} (x : Parenthesized (Punctuated UnionMemberType Or)) → Got union_type_parts s (x.open_paren, (x.body, x.close_paren)) rest → Got (own UNION_TYPE union_type_tree (Unit {0})) s x rest
union_type_got x h = got_rule (seq_rule (seq_next (still_rule (mark_rule OPEN_PAREN)) (seq_next (own_rule LIST_UNION_MEMBER_TYPE_OR union_member_types_tree (Unit {0})) (seq_last (still_rule (mark_rule CLOSE_PAREN))))) UNION_TYPE refl refl) union_type_tree x h refl

pub union_type_fault : {s : List ℕ} {e : Fault (Error (Bor (List ℕ)))} → Faults union_type_parts s e → Faults (own UNION_TYPE union_type_tree (Unit {0})) s e
union_type_fault h = fault_rule (seq_rule (seq_next (still_rule (mark_rule OPEN_PAREN)) (seq_next (own_rule LIST_UNION_MEMBER_TYPE_OR union_member_types_tree (Unit {0})) (seq_last (still_rule (mark_rule CLOSE_PAREN))))) UNION_TYPE refl refl) union_type_tree h

pub ruleset union_type_steps = (part_steps, union_type_got, union_type_fault, own_takes)

-- `nullable_union_type`
abbrev nullable_union_type_parts : Reading ((Parenthesized (Punctuated UnionMemberType Or)) × (Option QMark))
nullable_union_type_parts = (pair_reading (own UNION_TYPE union_type_tree (Unit {0})) (option_reading (mark Q_MARK)))

pub nullable_union_type_got : {s rest : List ℕ} (x : MayBeNull (Parenthesized (Punctuated UnionMemberType Or))) → Got nullable_union_type_parts s (x.type_, x.q_mark) rest → Got (own MAY_BE_NULL_UNION_TYPE (may_be_null_tree union_type_tree) (Unit {0})) s x rest
nullable_union_type_got x h = got_rule (seq_rule (seq_next (own_rule UNION_TYPE union_type_tree (Unit {0})) (seq_last (still_rule (option_rule (mark_rule Q_MARK) OPT_Q_MARK refl refl)))) MAY_BE_NULL_UNION_TYPE refl refl) (may_be_null_tree union_type_tree) x h refl

pub nullable_union_type_fault : {s : List ℕ} {e : Fault (Error (Bor (List ℕ)))} → Faults nullable_union_type_parts s e → Faults (own MAY_BE_NULL_UNION_TYPE (may_be_null_tree union_type_tree) (Unit {0})) s e
nullable_union_type_fault h = fault_rule (seq_rule (seq_next (own_rule UNION_TYPE union_type_tree (Unit {0})) (seq_last (still_rule (option_rule (mark_rule Q_MARK) OPT_Q_MARK refl refl)))) MAY_BE_NULL_UNION_TYPE refl refl) (may_be_null_tree union_type_tree) h

pub ruleset nullable_union_type_steps = (part_steps, nullable_union_type_got, nullable_union_type_fault, own_takes)

-- `union_member_type`
abbrev union_member_type_parts : Reading (AttributedNonAnyType ⊎ (MayBeNull (Parenthesized (Punctuated UnionMemberType Or))))
union_member_type_parts = (choice_reading (own ATTRIBUTED_NON_ANY_TYPE attributed_non_any_type_tree (Unit {0})) (own MAY_BE_NULL_UNION_TYPE (may_be_null_tree union_type_tree) (Unit {0})))

union_member_type_rule : IsRule union_member_type_parts UNION_MEMBER_TYPE (choice_tree (λ v. Alt 0 (attributed_non_any_type_tree v)) (λ v. Alt 1 ((may_be_null_tree union_type_tree) v))) (Unit {0})
union_member_type_rule = first_rule (first_more 0 (own_rule ATTRIBUTED_NON_ANY_TYPE attributed_non_any_type_tree (Unit {0})) (first_last 1 (own_rule MAY_BE_NULL_UNION_TYPE (may_be_null_tree union_type_tree) (Unit {0})))) UNION_MEMBER_TYPE refl refl

pub union_member_type_got_0 : {s rest : List ℕ} {v : AttributedNonAnyType} → Got union_member_type_parts s (inl v) rest → Got (own UNION_MEMBER_TYPE union_member_type_tree (Unit {0})) s (UnionMemberType-Single v) rest
union_member_type_got_0 {v = v} h = got_rule union_member_type_rule union_member_type_tree (UnionMemberType-Single v) h (sym (member_single_of v))

pub union_member_type_got_1 : {s rest : List ℕ} {v : (MayBeNull (Parenthesized (Punctuated UnionMemberType Or)))} → Got union_member_type_parts s (inr v) rest → Got (own UNION_MEMBER_TYPE union_member_type_tree (Unit {0})) s (UnionMemberType-Union v) rest
union_member_type_got_1 {v = v} h = got_rule union_member_type_rule union_member_type_tree (UnionMemberType-Union v) h (sym (member_union_of v))

pub union_member_type_fault : {s : List ℕ} {e : Fault (Error (Bor (List ℕ)))} → Faults union_member_type_parts s e → Faults (own UNION_MEMBER_TYPE union_member_type_tree (Unit {0})) s e
union_member_type_fault h = fault_rule union_member_type_rule union_member_type_tree h

pub ruleset union_member_type_steps = (direct_choice, union_member_type_got_0, union_member_type_got_1, union_member_type_fault, own_takes, pair_takes, seen_takes)

-- `union_member_types`
union_member_types_rule : IsRule (punctuated_reading (own UNION_MEMBER_TYPE union_member_type_tree (Unit {0})) (mark {V = Or} OR) (λ p. p.list.items) (λ p. Unit {0})) LIST_UNION_MEMBER_TYPE_OR union_member_types_tree (Unit {0})
union_member_types_rule = punctuated_rule (own_rule UNION_MEMBER_TYPE union_member_type_tree (Unit {0})) (still_rule (mark_rule OR)) TAIL_UNION_MEMBER_TYPE_OR refl refl (λ p. p.list.items) (λ p. Unit {0}) LIST_UNION_MEMBER_TYPE_OR refl refl tt

pub union_member_types_none : {s : List ℕ} {f : Fault (Error (Bor (List ℕ)))} {e : Error (Bor (List ℕ))} (x : Punctuated UnionMemberType Or) → Faults (own UNION_MEMBER_TYPE union_member_type_tree (Unit {0})) s f → f ≡ Recoverable e → IsUtf8 s → x.list.items ≡ [] → Got (own LIST_UNION_MEMBER_TYPE_OR union_member_types_tree (Unit {0})) s x s
union_member_types_none {s = s} x h i u e = got_rule union_member_types_rule union_member_types_tree x (got_none (own UNION_MEMBER_TYPE union_member_type_tree (Unit {0})) (mark {V = Or} OR) (λ p. p.list.items) (λ p. Unit {0}) (λ (l : Vec UnionMemberType). l.items) s x u (refused_by _ h i) e tt) refl

pub union_member_types_some : {s rest end : List ℕ} {v : UnionMemberType} {read : Vec UnionMemberType} (x : Punctuated UnionMemberType Or) → Got (own UNION_MEMBER_TYPE union_member_type_tree (Unit {0})) s v rest → Got (after_first (own UNION_MEMBER_TYPE union_member_type_tree (Unit {0})) (mark {V = Or} OR) (λ (l : Vec UnionMemberType). l.items) v) rest read end → x.list.items ≡ read.items → Got (own LIST_UNION_MEMBER_TYPE_OR union_member_types_tree (Unit {0})) s x end
union_member_types_some {read = read} x a b e = got_rule union_member_types_rule union_member_types_tree x (got_some (own UNION_MEMBER_TYPE union_member_type_tree (Unit {0})) (mark {V = Or} OR) (λ p. p.list.items) (λ p. Unit {0}) (λ (l : Vec UnionMemberType). l.items) x read a b e tt) refl

pub union_member_types_after : {s rest : List ℕ} {v : UnionMemberType} {e : Fault (Error (Bor (List ℕ)))} → Got (own UNION_MEMBER_TYPE union_member_type_tree (Unit {0})) s v rest → Faults (after_first (own UNION_MEMBER_TYPE union_member_type_tree (Unit {0})) (mark {V = Or} OR) (λ (l : Vec UnionMemberType). l.items) v) rest e → Faults (own LIST_UNION_MEMBER_TYPE_OR union_member_types_tree (Unit {0})) s e
union_member_types_after a h = fault_rule union_member_types_rule union_member_types_tree (fault_some (own UNION_MEMBER_TYPE union_member_type_tree (Unit {0})) (mark {V = Or} OR) (λ p. p.list.items) (λ p. Unit {0}) (λ (l : Vec UnionMemberType). l.items) a h)

pub union_member_types_fault : {s : List ℕ} {f : Fault (Error (Bor (List ℕ)))} {e : Error (Bor (List ℕ))} → Faults (own UNION_MEMBER_TYPE union_member_type_tree (Unit {0})) s f → f ≡ Failure e → Faults (own LIST_UNION_MEMBER_TYPE_OR union_member_types_tree (Unit {0})) s (Failure e)
union_member_types_fault h i = fault_rule union_member_types_rule union_member_types_tree (list_stop _ _ _ _ h i)

pub ruleset union_member_types_steps = (union_member_types_none, union_member_types_some, union_member_types_after, union_member_types_fault)
