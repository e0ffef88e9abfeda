-- A byte of a class and a run of another behind it, which are written at once.
use Rattle.std.proofs.Common.{◌≡◌, ℕ, ◌+◌, ◌≤◌, List, [], ◌∷◌, ◌++◌, length, drop, Option, Some, None, refl, ap, option_map, arith}
use Rattle.weedle_grammar.specs.declared.class.Class.{Class}
use Rattle.weedle_grammar.specs.Rows.{Row, OneOf, Run, Seq, take_one, run_length}
use Rattle.weedle_grammar.specs.written.Table.{webidl, row_of}
use Rattle.weedle_rules.specs.Cells.{HasEnd}
use Rattle.weedle_rules.proofs.OutcomeFacts.{it_ends}
use Rattle.weedle_rules.proofs.RowEnds.{rule_ends, one_ends, run_ends}
use Rattle.weedle_starts.proofs.ReadFacts.{ends_inside}
use Rattle.weedle_syntax.specs.declared.node.Node.{Node}
use Rattle.weedle_syntax.specs.Laid.{node, Adds, LaysParts}
use Rattle.weedle_syntax.specs.Parts.{AreParts}
use Rattle.weedle_syntax.specs.Steps.{RowSteps, Spends}
use Rattle.weedle_syntax.specs.Syntax.{a_tree, no_trees}
use Rattle.weedle_syntax.proofs.LayFacts.{by_its_row}
use Rattle.weedle_syntax.proofs.DescentFacts.{Reading, reading_start, reading_step, reading_fails, reading_end, reading_laid}
use Rattle.weedle_syntax.proofs.CountFacts.{count_leaf, count_tried, count_parts, count_part, count_part_fails, count_parts_end}

-- a node without parts
leaf_added : (text : List ℕ) (r p e d : ℕ) {row : Row} → row_of r ≡ row → AreParts text row (d + 1) p e [] → (old new : List Node) → new ≡ old ++ node r p e d ∷ [] → Adds text (node r p e d ∷ []) old new
leaf_added text r p e d is parts old new added = (node r p e d ∷ [], added, a_tree (by_its_row text r (d + 1) p e [] is parts) (no_trees refl) (no_trees refl) refl)

module _ (text : List ℕ) (r x y p d : ℕ) (c e : Class) (old : List Node) (is : row_of r ≡ Seq (x ∷ y ∷ [])) (one : row_of x ≡ OneOf c) (run : row_of y ≡ Run e) (within : p ≤ length text) where
  first_end : (o : Option ℕ) → o ≡ option_map (λ k. p + k) (take_one c (drop p text)) → HasEnd text x p o
  first_end o h = rule_ends one (one_ends webidl text c p o h)

  run_end : (q z : ℕ) → z ≡ q + run_length e (drop q text) → HasEnd text y q (Some z)
  run_end q z h = rule_ends run (run_ends webidl text e q (Some z) (ap Some h))

  pub token_fails : None ≡ option_map (λ k. p + k) (take_one c (drop p text)) → HasEnd text r p None
  token_fails h = reading_fails text r p d (x ∷ y ∷ []) old x (y ∷ []) p old is (reading_start text r p d (x ∷ y ∷ []) old is within) (first_end None h)

  pub fail_steps : (was left : ℕ) → was ≡ 1 + left → None ≡ option_map (λ k. p + k) (take_one c (drop p text)) → Spends (RowSteps text (row_of r) p) was left
  fail_steps was left s h = count_part_fails text (count_parts text r was is) (count_tried text s (count_leaf text x one refl)) (first_end None h)

  pub token_inside : (q : ℕ) → Some q ≡ option_map (λ k. p + k) (take_one c (drop p text)) → q ≤ length text
  token_inside q h = ends_inside (it_ends (first_end (Some q) h)) within

  module _ (q z : ℕ) (mid new : List Node) (first : Some q ≡ option_map (λ k. p + k) (take_one c (drop p text))) (rest : z ≡ q + run_length e (drop q text)) (one_more : mid ≡ old ++ node x p q d ∷ []) (two_more : new ≡ mid ++ node y q z d ∷ []) where
    all_read : Reading text r p d (x ∷ y ∷ []) old [] z new
    all_read =
        let h = first_end (Some q) first in
        let k = run_end q z rest in
        let start = reading_start text r p d (x ∷ y ∷ []) old is within in
        let then = reading_step text r p d (x ∷ y ∷ []) old x (y ∷ []) p q old mid start h (leaf_added text x p q d one refl old mid one_more) in
        reading_step text r p d (x ∷ y ∷ []) old y [] q z mid new then k (leaf_added text y q z d run refl mid new two_more)

    pub token_end : HasEnd text r p (Some z)
    token_end = reading_end text r p d (x ∷ y ∷ []) old z new is all_read

    pub token_laid : LaysParts text r p d old new (Some z)
    token_laid = reading_laid text r p d (x ∷ y ∷ []) old z new is all_read

    pub token_steps : (was left : ℕ) → was ≡ 2 + left → Spends (RowSteps text (row_of r) p) was left
    token_steps was left s =
        let one_less : was ≡ 1 + (1 + left) = omega (arith, s) in
        let a = count_tried text one_less (count_leaf text x one refl) in
        let b = count_tried text refl (count_leaf text y run refl) in
        count_parts_end text (count_part text (count_part text (count_parts text r was is) a (first_end (Some q) first)) b (run_end q z rest))
