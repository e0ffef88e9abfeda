-- Rules that take nothing, since what they may go without is passed over.
use Rattle.std.proofs.Common.{◌≡◌, inl, inr, ℕ, ◌+◌, List, [], ◌∷◌, ◌++◌, Some, None, refl, sym, subst}
use Rattle.weedle_grammar.specs.Rows.{Row, Bytes, OneOf, NotNext, Run, Past, Seq, First, Opt, Many, ListOf, List1, Tail, If}
use Rattle.weedle_grammar.specs.Trees.{Fails}
use Rattle.weedle_grammar.specs.written.Table.{webidl, row_of}
use Rattle.weedle_rules.specs.Cells.{HasEnd}
use Rattle.weedle_rules.specs.Outcomes.{FailsAt}
use Rattle.weedle_rules.proofs.RowEnds.{RowEnds, rule_ends, opt_absent, many_ends, list_ends, tail_ends}
use Rattle.weedle_starts.specs.Ways.{option_of, IsPassedOver, GoesWithout}
use Rattle.weedle_syntax.specs.declared.node.Node.{Node}
use Rattle.weedle_syntax.specs.Laid.{node, LaysNode}
use Rattle.weedle_syntax.specs.Parts.{AreParts}
use Rattle.weedle_syntax.specs.Steps.{Steps, RowSteps, Spends, passed, tried, opt_steps, many_last, list_none, tail_last}
use Rattle.weedle_syntax.specs.Syntax.{no_trees, a_tree}

pub failing : (text : List ℕ) (r p : ℕ) → FailsAt text r p → HasEnd text r p None
failing text r p d = record { outcome = Fails; reads = d; is = refl }

module _ (text : List ℕ) (p : ℕ) where
  as_option : (x y : ℕ) → Some x ≡ Some y → IsPassedOver text y p → IsPassedOver text x p
  as_option x y e w = let same : x ≡ y = cc in subst (λ z. IsPassedOver text z p) (sym same) w

  -- where the row ends, what it reads, how many steps it takes
  row_end : (row : Row) (y : ℕ) → option_of row ≡ Some y → IsPassedOver text y p → RowEnds webidl text row p (Some p)
  row_end (Opt x) y e w = opt_absent webidl text x p (failing text x p (as_option x y e w).0)
  row_end (Many x) y e w = many_ends webidl text x p (failing text x p (as_option x y e w).0)
  row_end (ListOf x t) y e w = list_ends webidl text x t p (failing text x p (as_option x y e w).0)
  row_end (Tail x s) y e w = tail_ends webidl text x s p (failing text s p (as_option s y e w).0)
  row_end (Bytes b) y e w = absurd (let n : ⊥ = cc in n)
  row_end (OneOf c) y e w = absurd (let n : ⊥ = cc in n)
  row_end (NotNext c) y e w = absurd (let n : ⊥ = cc in n)
  row_end (Run c) y e w = absurd (let n : ⊥ = cc in n)
  row_end (Past b) y e w = absurd (let n : ⊥ = cc in n)
  row_end (Seq parts) y e w = absurd (let n : ⊥ = cc in n)
  row_end (First parts) y e w = absurd (let n : ⊥ = cc in n)
  row_end (List1 x t) y e w = absurd (let n : ⊥ = cc in n)
  row_end (If parts k x) y e w = absurd (let n : ⊥ = cc in n)

  row_parts : (row : Row) (y d : ℕ) → option_of row ≡ Some y → IsPassedOver text y p → AreParts text row d p p []
  row_parts (Opt x) y d e w = inr ((as_option x y e w).0, (refl, refl))
  row_parts (Many x) y d e w = (refl, (as_option x y e w).0)
  row_parts (ListOf x t) y d e w = inr ((as_option x y e w).0, (refl, refl))
  row_parts (Tail x s) y d e w = (refl, inl (as_option s y e w).0)
  row_parts (Bytes b) y d e w = refl
  row_parts (OneOf c) y d e w = refl
  row_parts (NotNext c) y d e w = refl
  row_parts (Run c) y d e w = refl
  row_parts (Past b) y d e w = refl
  row_parts (Seq parts) y d e w = absurd (let n : ⊥ = cc in n)
  row_parts (First parts) y d e w = absurd (let n : ⊥ = cc in n)
  row_parts (List1 x t) y d e w = absurd (let n : ⊥ = cc in n)
  row_parts (If parts k x) y d e w = absurd (let n : ⊥ = cc in n)

  row_steps : (row : Row) (y : ℕ) → option_of row ≡ Some y → IsPassedOver text y p → RowSteps text row p 0
  row_steps (Opt x) y e w = let o = as_option x y e w in opt_steps (passed o.0 o.1 refl)
  row_steps (Many x) y e w = let o = as_option x y e w in many_last (passed o.0 o.1 refl) (inl o.0)
  row_steps (ListOf x t) y e w = let o = as_option x y e w in list_none (passed o.0 o.1 refl) o.0
  row_steps (Tail x s) y e w = let o = as_option s y e w in tail_last (passed o.0 o.1 refl) (inl o.0)
  row_steps (Bytes b) y e w = absurd (let n : ⊥ = cc in n)
  row_steps (OneOf c) y e w = absurd (let n : ⊥ = cc in n)
  row_steps (NotNext c) y e w = absurd (let n : ⊥ = cc in n)
  row_steps (Run c) y e w = absurd (let n : ⊥ = cc in n)
  row_steps (Past b) y e w = absurd (let n : ⊥ = cc in n)
  row_steps (Seq parts) y e w = absurd (let n : ⊥ = cc in n)
  row_steps (First parts) y e w = absurd (let n : ⊥ = cc in n)
  row_steps (List1 x t) y e w = absurd (let n : ⊥ = cc in n)
  row_steps (If parts k x) y e w = absurd (let n : ⊥ = cc in n)

  module _ (r : ℕ) (w : GoesWithout text r p) where
    pub empty_end : HasEnd text r p (Some p)
    empty_end = rule_ends refl (row_end (row_of r) w.0 w.1 w.2)

    pub empty_laid : (d : ℕ) (old new : List Node) → new ≡ old ++ node r p p d ∷ [] → LaysNode text r p d old new (Some p)
    empty_laid d old new is = (node r p p d ∷ [], is, a_tree (row_parts (row_of r) w.0 (d + 1) w.1 w.2) (no_trees refl) (no_trees refl) refl)

    pub empty_steps : (old new : ℕ) → old ≡ 1 + new → Spends (Steps text r p) old new
    empty_steps old new is = record { taken = 1; are = tried (row_steps (row_of r) w.0 w.1 w.2) refl; is = is }
