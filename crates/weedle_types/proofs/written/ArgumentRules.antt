-- Arguments, and what follows from the answers of their parts.
use Rattle.std.proofs.Common.{inl, inr, refl, sym}
use Rattle.std.specs.Borrow.{Bor}
use Rattle.std.specs.Global.{Vec}
use Rattle.std.specs.Prelude.{Bool, List, None, Option, Some, [], ℕ, ◌∷◌, ◌≡◌, ◌⊎◌}
use Rattle.std.specs.Str.{IsUtf8}
use Rattle.weedle_base.proofs.ChoiceFacts.{choice_tree, first_last, first_more, first_rule}
use Rattle.weedle_base.proofs.RuleFacts.{fault_rule, got_rule, mark, mark_rule, option_rule, own_rule, seq_last, seq_next, seq_rule, still_rule}
use Rattle.weedle_base.proofs.Steps.{part_steps}
use Rattle.weedle_base.proofs.TakesFacts.{own_takes}
use Rattle.weedle_base.specs.Generic.{choice_reading, option_reading, pair_reading}
use Rattle.weedle_base.specs.Own.{own}
use Rattle.weedle_base.specs.Reading.{Faults, Got, Reading}
use Rattle.weedle_base.specs.Rules.{IsRule, mark_tree, option_tree}
use Rattle.weedle_base.specs.declared.fault.Err.TheVariants.{Error as Recoverable, Failure}
use Rattle.weedle_base.specs.declared.fault.Err.{Err as Fault}
use Rattle.weedle_base.specs.declared.fault.Error.{Error}
use Rattle.weedle_base.specs.declared.term.written.symbols.CloseParen.{CloseParen}
use Rattle.weedle_base.specs.declared.term.written.symbols.Comma.{Comma}
use Rattle.weedle_base.specs.declared.term.written.symbols.Ellipsis.{Ellipsis}
use Rattle.weedle_base.specs.declared.term.written.symbols.OpenParen.{OpenParen}
use Rattle.weedle_base.specs.declared.term.written.type_keywords.Optional.{Optional}
use Rattle.weedle_grammar.specs.Trees.{Alt, Node, trees}
use Rattle.weedle_grammar.specs.written.Table.Keywords.{OPTIONAL}
use Rattle.weedle_grammar.specs.written.Table.Leaves.{IDENTIFIER}
use Rattle.weedle_grammar.specs.written.Table.Literals.{DEFAULT}
use Rattle.weedle_grammar.specs.written.Table.Symbols.{CLOSE_PAREN, COMMA, ELLIPSIS, OPEN_PAREN}
use Rattle.weedle_grammar.specs.written.Table.Types.{ARGUMENT, ARGUMENT_LIST, ATTRIBUTED_TYPE, OPT_DEFAULT, OPT_EXTENDED_ATTRIBUTE_LIST, OPT_OPTIONAL, PARENTHESIZED_ARGUMENT_LIST, SINGLE_ARGUMENT, TAIL_ARGUMENT_COMMA, TYPE, VARIADIC_ARGUMENT}
use Rattle.weedle_parts.proofs.ListRules.{punctuated_rule}
use Rattle.weedle_parts.proofs.ListSteps.{fault_some, got_none, got_some}
use Rattle.weedle_parts.specs.Lists.{after_first, punctuated_reading}
use Rattle.weedle_parts.specs.LiteralTrees.{default_tree}
use Rattle.weedle_parts.specs.ValueTrees.{identifier_tree}
use Rattle.weedle_parts.specs.declared.common.brackets.Bracketed.{Bracketed}
use Rattle.weedle_parts.specs.declared.common.identifier.Identifier.{Identifier}
use Rattle.weedle_parts.specs.declared.common.punctuated.Punctuated.{Punctuated}
use Rattle.weedle_parts.specs.declared.literal.default.Default.{Default}
use Rattle.weedle_types.proofs.Direct.{direct_choice, list_stop, pair_takes, refused_by, seen_takes}
use Rattle.weedle_types.proofs.IfRows.{asked_last, asked_next, fault_parts, fault_when, got_unless, got_when, if_reading, if_rule, is_some, present_some, some_at}
use Rattle.weedle_types.proofs.TreeLaws.{argument_single_of, argument_variadic_of}
use Rattle.weedle_types.specs.Trees.{argument_list_tree, argument_tree, arguments_tree, attributed_type_tree, extended_attribute_list_tree, single_argument_tree, type_tree, variadic_argument_tree}
use Rattle.weedle_types.specs.declared.argument.Argument.TheVariants.{Single as Argument-Single, Variadic as Argument-Variadic}
use Rattle.weedle_types.specs.declared.argument.Argument.{Argument}
use Rattle.weedle_types.specs.declared.argument.ParenthesizedArgumentList.{ParenthesizedArgumentList}
use Rattle.weedle_types.specs.declared.argument.SingleArgument.{SingleArgument}
use Rattle.weedle_types.specs.declared.argument.VariadicArgument.{VariadicArgument}
use Rattle.weedle_types.specs.declared.attribute.ExtendedAttribute.{ExtendedAttribute}
use Rattle.weedle_types.specs.declared.types.AttributedType.{AttributedType}
use Rattle.weedle_types.specs.declared.types.«Type».{«Type»}

-- `argument`
abbrev argument_parts : Reading (SingleArgument ⊎ VariadicArgument)
argument_parts = (choice_reading (own SINGLE_ARGUMENT single_argument_tree (Unit {0})) (own VARIADIC_ARGUMENT variadic_argument_tree (Unit {0})))

argument_rule : IsRule argument_parts ARGUMENT (choice_tree (λ v. Alt 0 (single_argument_tree v)) (λ v. Alt 1 (variadic_argument_tree v))) (Unit {0})
argument_rule = first_rule (first_more 0 (own_rule SINGLE_ARGUMENT single_argument_tree (Unit {0})) (first_last 1 (own_rule VARIADIC_ARGUMENT variadic_argument_tree (Unit {0})))) ARGUMENT refl refl

pub argument_got_0 : {s rest : List ℕ} {v : SingleArgument} → Got argument_parts s (inl v) rest → Got (own ARGUMENT argument_tree (Unit {0})) s (Argument-Single v) rest
argument_got_0 {v = v} h = got_rule argument_rule argument_tree (Argument-Single v) h (sym (argument_single_of v))

pub argument_got_1 : {s rest : List ℕ} {v : VariadicArgument} → Got argument_parts s (inr v) rest → Got (own ARGUMENT argument_tree (Unit {0})) s (Argument-Variadic v) rest
argument_got_1 {v = v} h = got_rule argument_rule argument_tree (Argument-Variadic v) h (sym (argument_variadic_of v))

pub argument_fault : {s : List ℕ} {e : Fault (Error (Bor (List ℕ)))} → Faults argument_parts s e → Faults (own ARGUMENT argument_tree (Unit {0})) s e
argument_fault h = fault_rule argument_rule argument_tree h

pub ruleset argument_steps = (direct_choice, argument_got_0, argument_got_1, argument_fault, own_takes, pair_takes, seen_takes)

-- `single_argument`
abbrev single_argument_parts : Reading ((Option (Bracketed (Punctuated ExtendedAttribute Comma))) × ((Option Optional) × (AttributedType × Identifier)))
single_argument_parts = (pair_reading (own OPT_EXTENDED_ATTRIBUTE_LIST (option_tree extended_attribute_list_tree) (Unit {0})) (pair_reading (option_reading (mark OPTIONAL)) (pair_reading (own ATTRIBUTED_TYPE attributed_type_tree (Unit {0})) (own IDENTIFIER identifier_tree ⊥))))

abbrev default_reading : Reading (Option Default)
default_reading = option_reading (own DEFAULT default_tree ⊥)

abbrev is_optional : ((Option (Bracketed (Punctuated ExtendedAttribute Comma))) × ((Option Optional) × (AttributedType × Identifier))) → Bool
is_optional x = is_some x.1.0

is_asked : (v : ((Option (Bracketed (Punctuated ExtendedAttribute Comma))) × ((Option Optional) × (AttributedType × Identifier)))) → some_at 1 (option_tree extended_attribute_list_tree v.0 ∷ option_tree mark_tree v.1.0 ∷ attributed_type_tree v.1.1.0 ∷ identifier_tree v.1.1.1 ∷ []) ≡ is_optional v
is_asked v = present_some mark_tree v.1.0

abbrev single_argument_reading : Reading (((Option (Bracketed (Punctuated ExtendedAttribute Comma))) × ((Option Optional) × (AttributedType × Identifier))) × Option Default)
single_argument_reading = if_reading single_argument_parts default_reading is_optional None

single_argument_rule : IsRule single_argument_reading SINGLE_ARGUMENT (λ x. Node (trees (option_tree extended_attribute_list_tree x.0.0 ∷ option_tree mark_tree x.0.1.0 ∷ attributed_type_tree x.0.1.1.0 ∷ identifier_tree x.0.1.1.1 ∷ option_tree default_tree x.1 ∷ []))) (Unit {0})
single_argument_rule = if_rule single_argument_parts default_reading is_optional None 1 (asked_next (own_rule OPT_EXTENDED_ATTRIBUTE_LIST (option_tree extended_attribute_list_tree) (Unit {0})) (asked_next (still_rule (option_rule (mark_rule OPTIONAL) OPT_OPTIONAL refl refl)) (asked_next (own_rule ATTRIBUTED_TYPE attributed_type_tree (Unit {0})) (asked_last (still_rule (own_rule IDENTIFIER identifier_tree ⊥)))))) (still_rule (option_rule (own_rule DEFAULT default_tree ⊥) OPT_DEFAULT refl refl)) is_asked refl SINGLE_ARGUMENT refl refl

pub single_argument_unless : {s rest : List ℕ} (x : SingleArgument) → Got single_argument_parts s (x.attributes, (None, (x.type_, x.identifier))) rest → x.optional ≡ None → x.default ≡ None → Got (own SINGLE_ARGUMENT single_argument_tree (Unit {0})) s x rest
single_argument_unless x h e d = got_rule single_argument_rule single_argument_tree x (got_unless single_argument_parts default_reading is_optional None h refl) (rw (e, d) refl)

pub single_argument_when : {s rest end : List ℕ} {w : Optional} (x : SingleArgument) → Got single_argument_parts s (x.attributes, (Some w, (x.type_, x.identifier))) rest → x.optional ≡ Some w → Got default_reading rest x.default end → Got (own SINGLE_ARGUMENT single_argument_tree (Unit {0})) s x end
single_argument_when x h e d = got_rule single_argument_rule single_argument_tree x (got_when single_argument_parts default_reading is_optional None h refl d) (rw e refl)

pub single_argument_fault : {s : List ℕ} {e : Fault (Error (Bor (List ℕ)))} → Faults single_argument_parts s e → Faults (own SINGLE_ARGUMENT single_argument_tree (Unit {0})) s e
single_argument_fault h = fault_rule single_argument_rule single_argument_tree (fault_parts single_argument_parts default_reading is_optional None h)

pub single_argument_fault_when : {s rest : List ℕ} {w : Optional} {a : (Option (Bracketed (Punctuated ExtendedAttribute Comma)))} {t : AttributedType} {i : Identifier} {e : Fault (Error (Bor (List ℕ)))} → Got single_argument_parts s (a, (Some w, (t, i))) rest → Faults default_reading rest e → Faults (own SINGLE_ARGUMENT single_argument_tree (Unit {0})) s e
single_argument_fault_when h d = fault_rule single_argument_rule single_argument_tree (fault_when single_argument_parts default_reading is_optional None h refl d)

pub ruleset single_argument_steps = (part_steps, single_argument_unless, single_argument_when, single_argument_fault, single_argument_fault_when, own_takes)

-- `variadic_argument`
abbrev variadic_argument_parts : Reading ((Option (Bracketed (Punctuated ExtendedAttribute Comma))) × («Type» × (Ellipsis × Identifier)))
variadic_argument_parts = (pair_reading (own OPT_EXTENDED_ATTRIBUTE_LIST (option_tree extended_attribute_list_tree) (Unit {0})) (pair_reading (own TYPE type_tree (Unit {0})) (pair_reading (mark ELLIPSIS) (own IDENTIFIER identifier_tree ⊥))))

pub variadic_argument_got : {s rest : List ℕ} (x : VariadicArgument) → Got variadic_argument_parts s (x.attributes, (x.type_, (x.ellipsis, x.identifier))) rest → Got (own VARIADIC_ARGUMENT variadic_argument_tree (Unit {0})) s x rest
variadic_argument_got x h = got_rule (seq_rule (seq_next (own_rule OPT_EXTENDED_ATTRIBUTE_LIST (option_tree extended_attribute_list_tree) (Unit {0})) (seq_next (own_rule TYPE type_tree (Unit {0})) (seq_next (still_rule (mark_rule ELLIPSIS)) (seq_last (still_rule (own_rule IDENTIFIER identifier_tree ⊥)))))) VARIADIC_ARGUMENT refl refl) variadic_argument_tree x h refl

pub variadic_argument_fault : {s : List ℕ} {e : Fault (Error (Bor (List ℕ)))} → Faults variadic_argument_parts s e → Faults (own VARIADIC_ARGUMENT variadic_argument_tree (Unit {0})) s e
variadic_argument_fault h = fault_rule (seq_rule (seq_next (own_rule OPT_EXTENDED_ATTRIBUTE_LIST (option_tree extended_attribute_list_tree) (Unit {0})) (seq_next (own_rule TYPE type_tree (Unit {0})) (seq_next (still_rule (mark_rule ELLIPSIS)) (seq_last (still_rule (own_rule IDENTIFIER identifier_tree ⊥)))))) VARIADIC_ARGUMENT refl refl) variadic_argument_tree h

pub ruleset variadic_argument_steps = (part_steps, variadic_argument_got, variadic_argument_fault, own_takes)

-- `arguments`
abbrev arguments_parts : Reading (OpenParen × ((Punctuated Argument Comma) × CloseParen))
arguments_parts = (pair_reading (mark OPEN_PAREN) (pair_reading (own ARGUMENT_LIST argument_list_tree (Unit {0})) (mark CLOSE_PAREN)))

pub arguments_got : {s rest : List ℕ} (x : ParenthesizedArgumentList) → Got arguments_parts s (x.open_paren, (x.body, x.close_paren)) rest → Got (own PARENTHESIZED_ARGUMENT_LIST arguments_tree (Unit {0})) s x rest
arguments_got x h = got_rule (seq_rule (seq_next (still_rule (mark_rule OPEN_PAREN)) (seq_next (own_rule ARGUMENT_LIST argument_list_tree (Unit {0})) (seq_last (still_rule (mark_rule CLOSE_PAREN))))) PARENTHESIZED_ARGUMENT_LIST refl refl) arguments_tree x h refl

pub arguments_fault : {s : List ℕ} {e : Fault (Error (Bor (List ℕ)))} → Faults arguments_parts s e → Faults (own PARENTHESIZED_ARGUMENT_LIST arguments_tree (Unit {0})) s e
arguments_fault h = fault_rule (seq_rule (seq_next (still_rule (mark_rule OPEN_PAREN)) (seq_next (own_rule ARGUMENT_LIST argument_list_tree (Unit {0})) (seq_last (still_rule (mark_rule CLOSE_PAREN))))) PARENTHESIZED_ARGUMENT_LIST refl refl) arguments_tree h

pub ruleset arguments_steps = (part_steps, arguments_got, arguments_fault, own_takes)

-- `argument_list`
argument_list_rule : IsRule (punctuated_reading (own ARGUMENT argument_tree (Unit {0})) (mark {V = Comma} COMMA) (λ p. p.list.items) (λ p. Unit {0})) ARGUMENT_LIST argument_list_tree (Unit {0})
argument_list_rule = punctuated_rule (own_rule ARGUMENT argument_tree (Unit {0})) (still_rule (mark_rule COMMA)) TAIL_ARGUMENT_COMMA refl refl (λ p. p.list.items) (λ p. Unit {0}) ARGUMENT_LIST refl refl tt

pub argument_list_none : {s : List ℕ} {f : Fault (Error (Bor (List ℕ)))} {e : Error (Bor (List ℕ))} (x : Punctuated Argument Comma) → Faults (own ARGUMENT argument_tree (Unit {0})) s f → f ≡ Recoverable e → IsUtf8 s → x.list.items ≡ [] → Got (own ARGUMENT_LIST argument_list_tree (Unit {0})) s x s
argument_list_none {s = s} x h i u e = got_rule argument_list_rule argument_list_tree x (got_none (own ARGUMENT argument_tree (Unit {0})) (mark {V = Comma} COMMA) (λ p. p.list.items) (λ p. Unit {0}) (λ (l : Vec Argument). l.items) s x u (refused_by _ h i) e tt) refl

pub argument_list_some : {s rest end : List ℕ} {v : Argument} {read : Vec Argument} (x : Punctuated Argument Comma) → Got (own ARGUMENT argument_tree (Unit {0})) s v rest → Got (after_first (own ARGUMENT argument_tree (Unit {0})) (mark {V = Comma} COMMA) (λ (l : Vec Argument). l.items) v) rest read end → x.list.items ≡ read.items → Got (own ARGUMENT_LIST argument_list_tree (Unit {0})) s x end
argument_list_some {read = read} x a b e = got_rule argument_list_rule argument_list_tree x (got_some (own ARGUMENT argument_tree (Unit {0})) (mark {V = Comma} COMMA) (λ p. p.list.items) (λ p. Unit {0}) (λ (l : Vec Argument). l.items) x read a b e tt) refl

pub argument_list_after : {s rest : List ℕ} {v : Argument} {e : Fault (Error (Bor (List ℕ)))} → Got (own ARGUMENT argument_tree (Unit {0})) s v rest → Faults (after_first (own ARGUMENT argument_tree (Unit {0})) (mark {V = Comma} COMMA) (λ (l : Vec Argument). l.items) v) rest e → Faults (own ARGUMENT_LIST argument_list_tree (Unit {0})) s e
argument_list_after a h = fault_rule argument_list_rule argument_list_tree (fault_some (own ARGUMENT argument_tree (Unit {0})) (mark {V = Comma} COMMA) (λ p. p.list.items) (λ p. Unit {0}) (λ (l : Vec Argument). l.items) a h)

pub argument_list_fault : {s : List ℕ} {f : Fault (Error (Bor (List ℕ)))} {e : Error (Bor (List ℕ))} → Faults (own ARGUMENT argument_tree (Unit {0})) s f → f ≡ Failure e → Faults (own ARGUMENT_LIST argument_list_tree (Unit {0})) s (Failure e)
argument_list_fault h i = fault_rule argument_list_rule argument_list_tree (list_stop _ _ _ _ h i)

pub ruleset argument_list_steps = (argument_list_none, argument_list_some, argument_list_after, argument_list_fault)
