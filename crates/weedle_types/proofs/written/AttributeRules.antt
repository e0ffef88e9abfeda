-- Extended attributes, and what follows from the answers of their parts.
use Rattle.std.proofs.Common.{inl, inr, refl, sym}
use Rattle.std.specs.Borrow.{Bor}
use Rattle.std.specs.Global.{Vec}
use Rattle.std.specs.Prelude.{List, None, Some, [], ℕ, ◌≡◌, ◌⊎◌}
use Rattle.std.specs.Str.{IsUtf8}
use Rattle.weedle_base.proofs.ChoiceFacts.{choice_tree, first_last, first_more, first_rule}
use Rattle.weedle_base.proofs.RuleFacts.{fault_rule, got_rule, mark, mark_rule, option_rule, own_rule, seq_last, seq_next, seq_rule, still_rule}
use Rattle.weedle_base.proofs.Steps.{part_steps}
use Rattle.weedle_base.proofs.TakesFacts.{own_takes}
use Rattle.weedle_base.specs.Generic.{choice_reading, pair_reading}
use Rattle.weedle_base.specs.Own.{own}
use Rattle.weedle_base.specs.Reading.{Faults, Got, Reading}
use Rattle.weedle_base.specs.Rules.{IsRule, option_tree}
use Rattle.weedle_base.specs.declared.fault.Err.TheVariants.{Error as Recoverable, Failure}
use Rattle.weedle_base.specs.declared.fault.Err.{Err as Fault}
use Rattle.weedle_base.specs.declared.fault.Error.{Error}
use Rattle.weedle_base.specs.declared.term.written.symbols.Assign.{Assign}
use Rattle.weedle_base.specs.declared.term.written.symbols.CloseBracket.{CloseBracket}
use Rattle.weedle_base.specs.declared.term.written.symbols.Comma.{Comma}
use Rattle.weedle_base.specs.declared.term.written.symbols.OpenBracket.{OpenBracket}
use Rattle.weedle_grammar.specs.Trees.{Alt}
use Rattle.weedle_grammar.specs.written.Table.Leaves.{IDENTIFIER}
use Rattle.weedle_grammar.specs.written.Table.Symbols.{ASSIGN, CLOSE_BRACKET, COMMA, OPEN_BRACKET}
use Rattle.weedle_grammar.specs.written.Table.Types.{EXTENDED_ATTRIBUTE, EXTENDED_ATTRIBUTE_ARG_LIST, EXTENDED_ATTRIBUTE_IDENT, EXTENDED_ATTRIBUTE_IDENT_LIST, EXTENDED_ATTRIBUTE_LIST, EXTENDED_ATTRIBUTE_NAMED_ARG_LIST, EXTENDED_ATTRIBUTE_NO_ARGS, LIST_EXTENDED_ATTRIBUTE_COMMA, OPT_EXTENDED_ATTRIBUTE_LIST, PARENTHESIZED_ARGUMENT_LIST, TAIL_EXTENDED_ATTRIBUTE_COMMA}
use Rattle.weedle_parts.proofs.ListRules.{punctuated_rule}
use Rattle.weedle_parts.proofs.ListSteps.{fault_some, got_none, got_some}
use Rattle.weedle_parts.specs.Lists.{after_first, punctuated_reading}
use Rattle.weedle_parts.specs.ValueTrees.{identifier_tree}
use Rattle.weedle_parts.specs.declared.common.brackets.Bracketed.{Bracketed}
use Rattle.weedle_parts.specs.declared.common.identifier.Identifier.{Identifier}
use Rattle.weedle_parts.specs.declared.common.punctuated.Punctuated.{Punctuated}
use Rattle.weedle_types.proofs.Direct.{direct_choice, direct_none, direct_some, direct_stop, list_stop, pair_takes, refused_by, seen_takes}
use Rattle.weedle_types.proofs.TreeLaws.{arg_list_of, named_arg_list_of}
use Rattle.weedle_types.specs.Trees.{arguments_tree, extended_attribute_arg_list_tree, extended_attribute_ident_list_tree, extended_attribute_ident_tree, extended_attribute_list_tree, extended_attribute_named_arg_list_tree, extended_attribute_no_args_tree, extended_attribute_tree, extended_attributes_tree}
use Rattle.weedle_types.specs.declared.argument.ParenthesizedArgumentList.{ParenthesizedArgumentList}
use Rattle.weedle_types.specs.declared.attribute.ExtendedAttribute.TheVariants.{ArgList as ExtendedAttribute-ArgList, Ident as ExtendedAttribute-Ident, IdentList as ExtendedAttribute-IdentList, NamedArgList as ExtendedAttribute-NamedArgList, NoArgs as ExtendedAttribute-NoArgs}
use Rattle.weedle_types.specs.declared.attribute.ExtendedAttribute.{ExtendedAttribute}
use Rattle.weedle_types.specs.declared.attribute.ExtendedAttributeArgList.{ExtendedAttributeArgList}
use Rattle.weedle_types.specs.declared.attribute.ExtendedAttributeIdent.{ExtendedAttributeIdent}
use Rattle.weedle_types.specs.declared.attribute.ExtendedAttributeIdentList.{ExtendedAttributeIdentList}
use Rattle.weedle_types.specs.declared.attribute.ExtendedAttributeNamedArgList.{ExtendedAttributeNamedArgList}
use Rattle.weedle_types.specs.declared.attribute.ExtendedAttributeNoArgs.{ExtendedAttributeNoArgs}

-- `attributes`
pub attributes_some : {s rest : List ℕ} {v : (Bracketed (Punctuated ExtendedAttribute Comma))} → Got (own EXTENDED_ATTRIBUTE_LIST extended_attribute_list_tree (Unit {0})) s v rest → Got (own OPT_EXTENDED_ATTRIBUTE_LIST (option_tree extended_attribute_list_tree) (Unit {0})) s (Some v) rest
attributes_some h = got_rule (option_rule (own_rule EXTENDED_ATTRIBUTE_LIST extended_attribute_list_tree (Unit {0})) OPT_EXTENDED_ATTRIBUTE_LIST refl refl) (option_tree extended_attribute_list_tree) _ (direct_some _ h) refl

pub attributes_none : {s : List ℕ} {f : Fault (Error (Bor (List ℕ)))} {e : Error (Bor (List ℕ))} → Faults (own EXTENDED_ATTRIBUTE_LIST extended_attribute_list_tree (Unit {0})) s f → f ≡ Recoverable e → IsUtf8 s → Got (own OPT_EXTENDED_ATTRIBUTE_LIST (option_tree extended_attribute_list_tree) (Unit {0})) s None s
attributes_none h i u = got_rule (option_rule (own_rule EXTENDED_ATTRIBUTE_LIST extended_attribute_list_tree (Unit {0})) OPT_EXTENDED_ATTRIBUTE_LIST refl refl) (option_tree extended_attribute_list_tree) _ (direct_none _ h i u) refl

pub attributes_fault : {s : List ℕ} {f : Fault (Error (Bor (List ℕ)))} {e : Error (Bor (List ℕ))} → Faults (own EXTENDED_ATTRIBUTE_LIST extended_attribute_list_tree (Unit {0})) s f → f ≡ Failure e → Faults (own OPT_EXTENDED_ATTRIBUTE_LIST (option_tree extended_attribute_list_tree) (Unit {0})) s (Failure e)
attributes_fault h i = fault_rule (option_rule (own_rule EXTENDED_ATTRIBUTE_LIST extended_attribute_list_tree (Unit {0})) OPT_EXTENDED_ATTRIBUTE_LIST refl refl) (option_tree extended_attribute_list_tree) (direct_stop _ h i)

pub ruleset attributes_steps = (attributes_some, attributes_none, attributes_fault)

-- `extended_attribute_list`
abbrev extended_attribute_list_parts : Reading (OpenBracket × ((Punctuated ExtendedAttribute Comma) × CloseBracket))
extended_attribute_list_parts = (pair_reading (mark OPEN_BRACKET) (pair_reading (own LIST_EXTENDED_ATTRIBUTE_COMMA extended_attributes_tree (Unit {0})) (mark CLOSE_BRACKET)))

pub extended_attribute_list_got : {s rest : List ℕ} (x : Bracketed (Punctuated ExtendedAttribute Comma)) → Got extended_attribute_list_parts s (x.open_bracket, (x.body, x.close_bracket)) rest → Got (own EXTENDED_ATTRIBUTE_LIST extended_attribute_list_tree (Unit {0})) s x rest
extended_attribute_list_got x h = got_rule (seq_rule (seq_next (still_rule (mark_rule OPEN_BRACKET)) (seq_next (own_rule LIST_EXTENDED_ATTRIBUTE_COMMA extended_attributes_tree (Unit {0})) (seq_last (still_rule (mark_rule CLOSE_BRACKET))))) EXTENDED_ATTRIBUTE_LIST refl refl) extended_attribute_list_tree x h refl

pub extended_attribute_list_fault : {s : List ℕ} {e : Fault (Error (Bor (List ℕ)))} → Faults extended_attribute_list_parts s e → Faults (own EXTENDED_ATTRIBUTE_LIST extended_attribute_list_tree (Unit {0})) s e
extended_attribute_list_fault h = fault_rule (seq_rule (seq_next (still_rule (mark_rule OPEN_BRACKET)) (seq_next (own_rule LIST_EXTENDED_ATTRIBUTE_COMMA extended_attributes_tree (Unit {0})) (seq_last (still_rule (mark_rule CLOSE_BRACKET))))) EXTENDED_ATTRIBUTE_LIST refl refl) extended_attribute_list_tree h

pub ruleset extended_attribute_list_steps = (part_steps, extended_attribute_list_got, extended_attribute_list_fault, own_takes)

-- `extended_attribute`
abbrev extended_attribute_parts : Reading (ExtendedAttributeArgList ⊎ (ExtendedAttributeNamedArgList ⊎ (ExtendedAttributeIdentList ⊎ (ExtendedAttributeIdent ⊎ ExtendedAttributeNoArgs))))
extended_attribute_parts = (choice_reading (own EXTENDED_ATTRIBUTE_ARG_LIST extended_attribute_arg_list_tree (Unit {0})) (choice_reading (own EXTENDED_ATTRIBUTE_NAMED_ARG_LIST extended_attribute_named_arg_list_tree (Unit {0})) (choice_reading (own EXTENDED_ATTRIBUTE_IDENT_LIST extended_attribute_ident_list_tree (Unit {0})) (choice_reading (own EXTENDED_ATTRIBUTE_IDENT extended_attribute_ident_tree ⊥) (own EXTENDED_ATTRIBUTE_NO_ARGS extended_attribute_no_args_tree ⊥)))))

extended_attribute_rule : IsRule extended_attribute_parts EXTENDED_ATTRIBUTE (choice_tree (λ v. Alt 0 (extended_attribute_arg_list_tree v)) (choice_tree (λ v. Alt 1 (extended_attribute_named_arg_list_tree v)) (choice_tree (λ v. Alt 2 (extended_attribute_ident_list_tree v)) (choice_tree (λ v. Alt 3 (extended_attribute_ident_tree v)) (λ v. Alt 4 (extended_attribute_no_args_tree v)))))) (Unit {0})
extended_attribute_rule = first_rule (first_more 0 (own_rule EXTENDED_ATTRIBUTE_ARG_LIST extended_attribute_arg_list_tree (Unit {0})) (first_more 1 (own_rule EXTENDED_ATTRIBUTE_NAMED_ARG_LIST extended_attribute_named_arg_list_tree (Unit {0})) (first_more 2 (own_rule EXTENDED_ATTRIBUTE_IDENT_LIST extended_attribute_ident_list_tree (Unit {0})) (first_more 3 (still_rule (own_rule EXTENDED_ATTRIBUTE_IDENT extended_attribute_ident_tree ⊥)) (first_last 4 (still_rule (own_rule EXTENDED_ATTRIBUTE_NO_ARGS extended_attribute_no_args_tree ⊥))))))) EXTENDED_ATTRIBUTE refl refl

pub extended_attribute_got_0 : {s rest : List ℕ} {v : ExtendedAttributeArgList} → Got extended_attribute_parts s (inl v) rest → Got (own EXTENDED_ATTRIBUTE extended_attribute_tree (Unit {0})) s (ExtendedAttribute-ArgList v) rest
extended_attribute_got_0 {v = v} h = got_rule extended_attribute_rule extended_attribute_tree (ExtendedAttribute-ArgList v) h (sym (arg_list_of v))

pub extended_attribute_got_1 : {s rest : List ℕ} {v : ExtendedAttributeNamedArgList} → Got extended_attribute_parts s (inr (inl v)) rest → Got (own EXTENDED_ATTRIBUTE extended_attribute_tree (Unit {0})) s (ExtendedAttribute-NamedArgList v) rest
extended_attribute_got_1 {v = v} h = got_rule extended_attribute_rule extended_attribute_tree (ExtendedAttribute-NamedArgList v) h (sym (named_arg_list_of v))

pub extended_attribute_got_2 : {s rest : List ℕ} {v : ExtendedAttributeIdentList} → Got extended_attribute_parts s (inr (inr (inl v))) rest → Got (own EXTENDED_ATTRIBUTE extended_attribute_tree (Unit {0})) s (ExtendedAttribute-IdentList v) rest
extended_attribute_got_2 {v = v} h = got_rule extended_attribute_rule extended_attribute_tree (ExtendedAttribute-IdentList v) h refl

pub extended_attribute_got_3 : {s rest : List ℕ} {v : ExtendedAttributeIdent} → Got extended_attribute_parts s (inr (inr (inr (inl v)))) rest → Got (own EXTENDED_ATTRIBUTE extended_attribute_tree (Unit {0})) s (ExtendedAttribute-Ident v) rest
extended_attribute_got_3 {v = v} h = got_rule extended_attribute_rule extended_attribute_tree (ExtendedAttribute-Ident v) h refl

pub extended_attribute_got_4 : {s rest : List ℕ} {v : ExtendedAttributeNoArgs} → Got extended_attribute_parts s (inr (inr (inr (inr v)))) rest → Got (own EXTENDED_ATTRIBUTE extended_attribute_tree (Unit {0})) s (ExtendedAttribute-NoArgs v) rest
extended_attribute_got_4 {v = v} h = got_rule extended_attribute_rule extended_attribute_tree (ExtendedAttribute-NoArgs v) h refl

pub extended_attribute_fault : {s : List ℕ} {e : Fault (Error (Bor (List ℕ)))} → Faults extended_attribute_parts s e → Faults (own EXTENDED_ATTRIBUTE extended_attribute_tree (Unit {0})) s e
extended_attribute_fault h = fault_rule extended_attribute_rule extended_attribute_tree h

pub ruleset extended_attribute_steps = (direct_choice, extended_attribute_got_0, extended_attribute_got_1, extended_attribute_got_2, extended_attribute_got_3, extended_attribute_got_4, extended_attribute_fault, own_takes, pair_takes, seen_takes)

-- `extended_attribute_arg_list`
abbrev extended_attribute_arg_list_parts : Reading (Identifier × ParenthesizedArgumentList)
extended_attribute_arg_list_parts = (pair_reading (own IDENTIFIER identifier_tree ⊥) (own PARENTHESIZED_ARGUMENT_LIST arguments_tree (Unit {0})))

pub extended_attribute_arg_list_got : {s rest : List ℕ} (x : ExtendedAttributeArgList) → Got extended_attribute_arg_list_parts s (x.identifier, x.args) rest → Got (own EXTENDED_ATTRIBUTE_ARG_LIST extended_attribute_arg_list_tree (Unit {0})) s x rest
extended_attribute_arg_list_got x h = got_rule (seq_rule (seq_next (still_rule (own_rule IDENTIFIER identifier_tree ⊥)) (seq_last (own_rule PARENTHESIZED_ARGUMENT_LIST arguments_tree (Unit {0})))) EXTENDED_ATTRIBUTE_ARG_LIST refl refl) extended_attribute_arg_list_tree x h refl

pub extended_attribute_arg_list_fault : {s : List ℕ} {e : Fault (Error (Bor (List ℕ)))} → Faults extended_attribute_arg_list_parts s e → Faults (own EXTENDED_ATTRIBUTE_ARG_LIST extended_attribute_arg_list_tree (Unit {0})) s e
extended_attribute_arg_list_fault h = fault_rule (seq_rule (seq_next (still_rule (own_rule IDENTIFIER identifier_tree ⊥)) (seq_last (own_rule PARENTHESIZED_ARGUMENT_LIST arguments_tree (Unit {0})))) EXTENDED_ATTRIBUTE_ARG_LIST refl refl) extended_attribute_arg_list_tree h

pub ruleset extended_attribute_arg_list_steps = (part_steps, extended_attribute_arg_list_got, extended_attribute_arg_list_fault, own_takes)

-- `extended_attribute_named_arg_list`
abbrev extended_attribute_named_arg_list_parts : Reading (Identifier × (Assign × (Identifier × ParenthesizedArgumentList)))
extended_attribute_named_arg_list_parts = (pair_reading (own IDENTIFIER identifier_tree ⊥) (pair_reading (mark ASSIGN) (pair_reading (own IDENTIFIER identifier_tree ⊥) (own PARENTHESIZED_ARGUMENT_LIST arguments_tree (Unit {0})))))

pub extended_attribute_named_arg_list_got : {s rest : List ℕ} (x : ExtendedAttributeNamedArgList) → Got extended_attribute_named_arg_list_parts s (x.lhs_identifier, (x.assign, (x.rhs_identifier, x.args))) rest → Got (own EXTENDED_ATTRIBUTE_NAMED_ARG_LIST extended_attribute_named_arg_list_tree (Unit {0})) s x rest
extended_attribute_named_arg_list_got x h = got_rule (seq_rule (seq_next (still_rule (own_rule IDENTIFIER identifier_tree ⊥)) (seq_next (still_rule (mark_rule ASSIGN)) (seq_next (still_rule (own_rule IDENTIFIER identifier_tree ⊥)) (seq_last (own_rule PARENTHESIZED_ARGUMENT_LIST arguments_tree (Unit {0})))))) EXTENDED_ATTRIBUTE_NAMED_ARG_LIST refl refl) extended_attribute_named_arg_list_tree x h refl

pub extended_attribute_named_arg_list_fault : {s : List ℕ} {e : Fault (Error (Bor (List ℕ)))} → Faults extended_attribute_named_arg_list_parts s e → Faults (own EXTENDED_ATTRIBUTE_NAMED_ARG_LIST extended_attribute_named_arg_list_tree (Unit {0})) s e
extended_attribute_named_arg_list_fault h = fault_rule (seq_rule (seq_next (still_rule (own_rule IDENTIFIER identifier_tree ⊥)) (seq_next (still_rule (mark_rule ASSIGN)) (seq_next (still_rule (own_rule IDENTIFIER identifier_tree ⊥)) (seq_last (own_rule PARENTHESIZED_ARGUMENT_LIST arguments_tree (Unit {0})))))) EXTENDED_ATTRIBUTE_NAMED_ARG_LIST refl refl) extended_attribute_named_arg_list_tree h

pub ruleset extended_attribute_named_arg_list_steps = (part_steps, extended_attribute_named_arg_list_got, extended_attribute_named_arg_list_fault, own_takes)

-- `extended_attributes`
extended_attributes_rule : IsRule (punctuated_reading (own EXTENDED_ATTRIBUTE extended_attribute_tree (Unit {0})) (mark {V = Comma} COMMA) (λ p. p.list.items) (λ p. Unit {0})) LIST_EXTENDED_ATTRIBUTE_COMMA extended_attributes_tree (Unit {0})
extended_attributes_rule = punctuated_rule (own_rule EXTENDED_ATTRIBUTE extended_attribute_tree (Unit {0})) (still_rule (mark_rule COMMA)) TAIL_EXTENDED_ATTRIBUTE_COMMA refl refl (λ p. p.list.items) (λ p. Unit {0}) LIST_EXTENDED_ATTRIBUTE_COMMA refl refl tt

pub extended_attributes_none : {s : List ℕ} {f : Fault (Error (Bor (List ℕ)))} {e : Error (Bor (List ℕ))} (x : Punctuated ExtendedAttribute Comma) → Faults (own EXTENDED_ATTRIBUTE extended_attribute_tree (Unit {0})) s f → f ≡ Recoverable e → IsUtf8 s → x.list.items ≡ [] → Got (own LIST_EXTENDED_ATTRIBUTE_COMMA extended_attributes_tree (Unit {0})) s x s
extended_attributes_none {s = s} x h i u e = got_rule extended_attributes_rule extended_attributes_tree x (got_none (own EXTENDED_ATTRIBUTE extended_attribute_tree (Unit {0})) (mark {V = Comma} COMMA) (λ p. p.list.items) (λ p. Unit {0}) (λ (l : Vec ExtendedAttribute). l.items) s x u (refused_by _ h i) e tt) refl

pub extended_attributes_some : {s rest end : List ℕ} {v : ExtendedAttribute} {read : Vec ExtendedAttribute} (x : Punctuated ExtendedAttribute Comma) → Got (own EXTENDED_ATTRIBUTE extended_attribute_tree (Unit {0})) s v rest → Got (after_first (own EXTENDED_ATTRIBUTE extended_attribute_tree (Unit {0})) (mark {V = Comma} COMMA) (λ (l : Vec ExtendedAttribute). l.items) v) rest read end → x.list.items ≡ read.items → Got (own LIST_EXTENDED_ATTRIBUTE_COMMA extended_attributes_tree (Unit {0})) s x end
extended_attributes_some {read = read} x a b e = got_rule extended_attributes_rule extended_attributes_tree x (got_some (own EXTENDED_ATTRIBUTE extended_attribute_tree (Unit {0})) (mark {V = Comma} COMMA) (λ p. p.list.items) (λ p. Unit {0}) (λ (l : Vec ExtendedAttribute). l.items) x read a b e tt) refl

pub extended_attributes_after : {s rest : List ℕ} {v : ExtendedAttribute} {e : Fault (Error (Bor (List ℕ)))} → Got (own EXTENDED_ATTRIBUTE extended_attribute_tree (Unit {0})) s v rest → Faults (after_first (own EXTENDED_ATTRIBUTE extended_attribute_tree (Unit {0})) (mark {V = Comma} COMMA) (λ (l : Vec ExtendedAttribute). l.items) v) rest e → Faults (own LIST_EXTENDED_ATTRIBUTE_COMMA extended_attributes_tree (Unit {0})) s e
extended_attributes_after a h = fault_rule extended_attributes_rule extended_attributes_tree (fault_some (own EXTENDED_ATTRIBUTE extended_attribute_tree (Unit {0})) (mark {V = Comma} COMMA) (λ p. p.list.items) (λ p. Unit {0}) (λ (l : Vec ExtendedAttribute). l.items) a h)

pub extended_attributes_fault : {s : List ℕ} {f : Fault (Error (Bor (List ℕ)))} {e : Error (Bor (List ℕ))} → Faults (own EXTENDED_ATTRIBUTE extended_attribute_tree (Unit {0})) s f → f ≡ Failure e → Faults (own LIST_EXTENDED_ATTRIBUTE_COMMA extended_attributes_tree (Unit {0})) s (Failure e)
extended_attributes_fault h i = fault_rule extended_attributes_rule extended_attributes_tree (list_stop _ _ _ _ h i)

pub ruleset extended_attributes_steps = (extended_attributes_none, extended_attributes_some, extended_attributes_after, extended_attributes_fault)
