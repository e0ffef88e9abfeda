-- How the values of an enum are read, and that this is what their rule reads.
use Rattle.std.proofs.Common.{refl}
use Rattle.weedle_base.proofs.RuleFacts.{mark, own_rule}
use Rattle.weedle_base.specs.Own.{own}
use Rattle.weedle_base.specs.Reading.{Reading}
use Rattle.weedle_base.specs.Rules.{IsRule}
use Rattle.weedle_parts.proofs.ListRules.{punctuated_non_empty_rule}
use Rattle.weedle_parts.proofs.PartRules.{braced_rule}
use Rattle.weedle_parts.specs.Brackets.{braced_reading}
use Rattle.weedle_parts.specs.Lists.{punctuated_non_empty_reading}
use Rattle.weedle_parts.specs.declared.common.punctuated.PunctuatedNonEmpty.{PunctuatedNonEmpty}
use Rattle.weedle_grammar.specs.written.Table.OtherMembers.{BRACED_ENUM_VALUE_LIST, ENUM_VALUE_LIST, ENUM_VARIANT, LIST1_ENUM_VARIANT_COMMA, OPT_COMMA, TAIL_ENUM_VARIANT_COMMA}
use Rattle.weedle_grammar.specs.written.Table.Symbols.{COMMA}
use Rattle.weedle_statements.specs.written.Trees.{EnumValues, enum_values_tree, enum_variant_tree}
use Rattle.weedle_statements.specs.declared.enums.EnumVariant.{EnumVariant}
use Rattle.weedle_base.specs.declared.term.written.symbols.Comma.{Comma}
use Rattle.weedle_types.proofs.SharedRules.{word}

-- the values between braces
abbrev pub enum_values_reading : Reading EnumValues
enum_values_reading = own BRACED_ENUM_VALUE_LIST enum_values_tree (Unit {0})

pub enum_values_rule : IsRule enum_values_reading BRACED_ENUM_VALUE_LIST enum_values_tree (Unit {0})
enum_values_rule = own_rule BRACED_ENUM_VALUE_LIST enum_values_tree (Unit {0})

-- the list with its separators. `known` is what is known of them without reading
module _ (known : PunctuatedNonEmpty EnumVariant Comma → Type 0) where
  pub listed_values_rule : IsRule (braced_reading (punctuated_non_empty_reading (own ENUM_VARIANT enum_variant_tree (Unit {0})) (mark {V = Comma} COMMA) (λ p. p.list.items) known)) BRACED_ENUM_VALUE_LIST enum_values_tree (Unit {0})
  listed_values_rule = braced_rule (punctuated_non_empty_rule (own_rule ENUM_VARIANT enum_variant_tree (Unit {0})) (word COMMA) TAIL_ENUM_VARIANT_COMMA refl refl (λ p. p.list.items) known ENUM_VALUE_LIST LIST1_ENUM_VARIANT_COMMA OPT_COMMA refl refl refl refl refl refl tt) BRACED_ENUM_VALUE_LIST refl refl
