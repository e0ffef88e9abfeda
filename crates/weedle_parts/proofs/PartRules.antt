-- Bracketings and types that may be null, and their rules.
use Rattle.std.specs.Prelude.{◌≡◌, ℕ, [], ◌∷◌}
use Rattle.std.proofs.Common.{refl}
use Rattle.weedle_base.proofs.RuleFacts.{mark_rule, still_rule, option_rule, pair_rule, seen_rule, triple_rule}
use Rattle.weedle_base.specs.Reading.{Reading}
use Rattle.weedle_base.specs.Rules.{IsRule}
use Rattle.weedle_parts.specs.Brackets.{bracket_reading, parenthesized_view, parenthesized_reading, bracketed_view, bracketed_reading, braced_view, braced_reading, generics_view, generics_reading}
use Rattle.weedle_parts.specs.MayBeNull.{may_be_null_reading}
use Rattle.weedle_parts.specs.ValueTrees.{bracket_tree, parenthesized_tree, bracketed_tree, braced_tree, generics_tree, may_be_null_tree}
use Rattle.weedle_grammar.specs.Meaning.{Plain}
use Rattle.weedle_grammar.specs.Rows.{Seq}
use Rattle.weedle_grammar.specs.written.Table.{row_of, shape_of}
use Rattle.weedle_grammar.specs.written.Table.SimpleTypes.{OPT_Q_MARK}
use Rattle.weedle_grammar.specs.written.Table.Symbols.{OPEN_PAREN, CLOSE_PAREN, OPEN_BRACKET, CLOSE_BRACKET, OPEN_BRACE, CLOSE_BRACE, LESS_THAN, GREATER_THAN, Q_MARK}
use Rattle.weedle_grammar.specs.Trees.{Tree}

module _ {T : Type 0} {R : Reading T} {x : ℕ} {tree : T → Tree} {grows : Type 0} (rule : IsRule R x tree grows) (r : ℕ) where
  bracket_rule : {O C B : Type 0} (left right : ℕ) (view : B → O × (T × C)) → row_of r ≡ Seq (left ∷ x ∷ right ∷ []) → shape_of r ≡ Plain
      → IsRule (bracket_reading left right view R) r (λ v. bracket_tree (tree (view v).1.0)) grows
  bracket_rule left right view row shape = triple_rule view (still_rule (mark_rule left)) rule (still_rule (mark_rule right)) r row shape

  pub parenthesized_rule : row_of r ≡ Seq (OPEN_PAREN ∷ x ∷ CLOSE_PAREN ∷ []) → shape_of r ≡ Plain → IsRule (parenthesized_reading R) r (parenthesized_tree tree) grows
  parenthesized_rule row shape = bracket_rule OPEN_PAREN CLOSE_PAREN parenthesized_view row shape

  pub bracketed_rule : row_of r ≡ Seq (OPEN_BRACKET ∷ x ∷ CLOSE_BRACKET ∷ []) → shape_of r ≡ Plain → IsRule (bracketed_reading R) r (bracketed_tree tree) grows
  bracketed_rule row shape = bracket_rule OPEN_BRACKET CLOSE_BRACKET bracketed_view row shape

  pub braced_rule : row_of r ≡ Seq (OPEN_BRACE ∷ x ∷ CLOSE_BRACE ∷ []) → shape_of r ≡ Plain → IsRule (braced_reading R) r (braced_tree tree) grows
  braced_rule row shape = bracket_rule OPEN_BRACE CLOSE_BRACE braced_view row shape

  pub generics_rule : row_of r ≡ Seq (LESS_THAN ∷ x ∷ GREATER_THAN ∷ []) → shape_of r ≡ Plain → IsRule (generics_reading R) r (generics_tree tree) grows
  generics_rule row shape = bracket_rule LESS_THAN GREATER_THAN generics_view row shape

  pub may_be_null_rule : row_of r ≡ Seq (x ∷ OPT_Q_MARK ∷ []) → shape_of r ≡ Plain → IsRule (may_be_null_reading R) r (may_be_null_tree tree) grows
  may_be_null_rule row shape = seen_rule (λ m. (m.type_, m.q_mark)) (pair_rule rule (still_rule (option_rule (mark_rule Q_MARK) OPT_Q_MARK refl refl)) r row shape)
