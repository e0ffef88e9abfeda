-- What a rule reads before a byte is taken has a smaller number.
use Rattle.std.proofs.Common.{◌≡◌, inl, inr, ℕ, ◌<◌, List, ◌∷◌, Bool, true, arith}
use Rattle.std.specs.Prelude.{nat_lt}
use borrow.Author.Tests.{ltb-true}
use Rattle.weedle_grammar.specs.Trees.{Tree, Gives}
use Rattle.weedle_grammar.specs.Meaning.{Grammar, ReadsBy}
use Rattle.weedle_grammar.proofs.Leaves.{both, one_of}
use Rattle.weedle_grammar.proofs.Ranked.{low_parts, is_low, is_ranked}
use Rattle.weedle_grammar.proofs.Exists.{advances}

-- a rule's rank is its number
abbrev pub by_number : ℕ → ℕ
by_number r = r

-- a test of two numbers passes
pub below : (a b : ℕ) → nat_lt a b ≡ true → a < b
below a b h = omega (arith, ltb-true)

module _ (G : Grammar) (text : List ℕ) (takes : ℕ → Bool) (ranked : (r : ℕ) → is_ranked by_number takes r (G.row r) ≡ true) where
  -- each row reads first only rules of smaller numbers
  pub low : (r : ℕ) → is_low by_number takes r (G.row r) ≡ true
  low r = (both _ _ (ranked r)).0

  -- of a sequence the rules up to the first that takes a byte are low; so are those behind a part that took none
  pub next_low : (k r p q : ℕ) (rs : List ℕ) (ts : List Tree) → ReadsBy G text r p (Gives ts q) → q ≡ p
      → low_parts by_number takes k (r ∷ rs) ≡ true → low_parts by_number takes k rs ≡ true
  next_low k r p q rs ts d s h = elim (one_of (takes r) _ (both _ _ h).1) [
    | inl t ↦ absurd (let a : p < q = advances G text by_number takes ranked d t in omega arith)
    | inr l ↦ l
  ]
