-- The laws of the generic parts.
use Rattle.std.proofs.Common.{inl, inr}
use Rattle.weedle_base.proofs.RuleFacts.{wider_rule}
use Rattle.weedle_base.specs.Generic.{pair_reading, seen_reading}
use Rattle.weedle_base.specs.Reading.{Reading}
use Rattle.weedle_parts.proofs.ListRules.{punctuated_rule, punctuated_non_empty_rule}
use Rattle.weedle_parts.proofs.PartRules.{parenthesized_rule, bracketed_rule, braced_rule, generics_rule, may_be_null_rule}
use Rattle.weedle_parts.specs.Brackets.{parenthesized_reading, bracketed_reading, braced_reading, generics_reading}
use Rattle.weedle_parts.specs.Lists.{punctuated_reading, punctuated_non_empty_reading}
use Rattle.weedle_parts.specs.MayBeNull.{may_be_null_reading}
use Rattle.weedle_parts.specs.RuleLaws.{BracketLaw, MayBeNullLaw, PunctuatedLaw, PunctuatedNonEmptyLaw}
use Rattle.weedle_parts.specs.ValueTrees.{parenthesized_tree, bracketed_tree, braced_tree, generics_tree, may_be_null_tree, punctuated_tree, punctuated_non_empty_tree}
use Rattle.weedle_parts.specs.declared.common.punctuated.Punctuated.{Punctuated}
use Rattle.weedle_parts.specs.declared.common.punctuated.PunctuatedNonEmpty.{PunctuatedNonEmpty}
use Rattle.weedle_grammar.specs.written.Table.Symbols.{OPEN_PAREN, CLOSE_PAREN, OPEN_BRACKET, CLOSE_BRACKET, OPEN_BRACE, CLOSE_BRACE, LESS_THAN, GREATER_THAN}

module _ {T : Type 0} (R : Reading T) where
  pub parenthesized_law : BracketLaw R (parenthesized_reading R) parenthesized_tree OPEN_PAREN CLOSE_PAREN
  unfolding pair_reading seen_reading
  parenthesized_law x r tree rule row shape = parenthesized_rule (wider_rule (λ grows. inr (inl grows)) rule) r row shape

  pub bracketed_law : BracketLaw R (bracketed_reading R) bracketed_tree OPEN_BRACKET CLOSE_BRACKET
  unfolding pair_reading seen_reading
  bracketed_law x r tree rule row shape = bracketed_rule (wider_rule (λ grows. inr (inl grows)) rule) r row shape

  pub braced_law : BracketLaw R (braced_reading R) braced_tree OPEN_BRACE CLOSE_BRACE
  unfolding pair_reading seen_reading
  braced_law x r tree rule row shape = braced_rule (wider_rule (λ grows. inr (inl grows)) rule) r row shape

  pub generics_law : BracketLaw R (generics_reading R) generics_tree LESS_THAN GREATER_THAN
  unfolding pair_reading seen_reading
  generics_law x r tree rule row shape = generics_rule (wider_rule (λ grows. inr (inl grows)) rule) r row shape

  pub may_be_null_law : MayBeNullLaw R (may_be_null_reading R) may_be_null_tree
  unfolding pair_reading seen_reading
  may_be_null_law x r tree rule row shape = may_be_null_rule (wider_rule inl rule) r row shape

  module _ {S : Type 0} (Q : Reading S) where
    pub punctuated_law : (known : Punctuated T S → Type 0) → PunctuatedLaw R (punctuated_reading R Q (λ p. p.list.items) known) punctuated_tree Q
    unfolding punctuated_reading
    punctuated_law known x z t r tree mark item separator tail_row tail_shape row shape =
        punctuated_rule (wider_rule (λ grows. tt) item) (wider_rule (λ grows. tt) separator) t tail_row tail_shape (λ p. p.list.items) known r row shape tt

    pub punctuated_non_empty_law : (known : PunctuatedNonEmpty T S → Type 0) → PunctuatedNonEmptyLaw R (punctuated_non_empty_reading R Q (λ p. p.list.items) known) punctuated_non_empty_tree Q
    unfolding punctuated_non_empty_reading
    punctuated_non_empty_law known x z t l o r tree mark item separator tail_row tail_shape list_row list_shape opt_row opt_shape row shape =
        punctuated_non_empty_rule (wider_rule (λ grows. tt) item) (wider_rule (λ grows. tt) separator) t tail_row tail_shape (λ p. p.list.items) known r l o row shape list_row list_shape opt_row opt_shape tt
