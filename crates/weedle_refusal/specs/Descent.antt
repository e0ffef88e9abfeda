-- How many rules the descent of a diagnosis tries.
use Rattle.std.specs.Prelude.{◌≡◌, ◌≤◌, ◌+◌, ℕ, List, [], ◌∷◌}
use Rattle.weedle_syntax.specs.declared.dialect.Dialect.{Dialect}
use Rattle.weedle_syntax.specs.declared.dialect.Dialect.TheVariants.{Weedle2}
use Rattle.weedle_syntax.specs.Dialects.{start_of}
use Rattle.weedle_syntax.specs.Steps.{Steps}

-- these rules at p, each read for itself, take n steps
pub data EachSteps (text : List ℕ) (p : ℕ) : List ℕ → ℕ → Type 0 where
  none : {n : ℕ} → n ≡ 0 → EachSteps text p [] n
  one_more : {r k m n : ℕ} {rs : List ℕ} → Steps text r p k → EachSteps text p rs m → n ≡ k + m → EachSteps text p (r ∷ rs) n

-- definitions that are read by the dialect's rules from `start` on, and then rules that were passed over at the furthest place, take n steps
pub record DescentStepsIn (dialect : Dialect) (text : List ℕ) (start place n : ℕ) : Type 0 where
  pub first : ℕ
  pub reads : Steps text (start_of dialect) start first
  pub opened : List ℕ
  pub second : ℕ
  pub opens : EachSteps text place opened second
  pub is : n ≡ first + second

-- by weedle2's rules
abbrev pub DescentSteps : List ℕ → ℕ → ℕ → ℕ → Type 0
DescentSteps = DescentStepsIn Weedle2

-- and no more than so many
pub record AtMostSteps (text : List ℕ) (start place most : ℕ) : Type 0 where
  pub steps : ℕ
  pub are : DescentSteps text start place steps
  pub few : steps ≤ most
