-- What is said of a text: nothing, where the grammar reads it whole, and else where and why it is refused.
use Rattle.std.specs.Prelude.{◌≡◌, ◌+◌, ◌<◌, ℕ, List, length, drop, Option, Some, None, IfSome, IsCharBoundary}
use Rattle.weedle_refusal.specs.Furthest.{IsFurthestIn}
use Rattle.weedle_refusal.specs.Hint.{IsHintIn}
use Rattle.weedle_refusal.specs.declared.refusal.Refusal.{Refusal}
use Rattle.weedle_rules.specs.Outcomes.{EndsAt}
use Rattle.weedle_syntax.specs.declared.dialect.Dialect.{Dialect}
use Rattle.weedle_syntax.specs.declared.dialect.Dialect.TheVariants.{Weedle2}
use Rattle.weedle_syntax.specs.Dialects.{start_of, IsWholeIn}

-- the dialect's rules read definitions from the front of the text up to this place, where the remaining input begins
abbrev pub RestBeginsIn : Dialect → List ℕ → ℕ → Type 0
RestBeginsIn dialect text end = EndsAt text (start_of dialect) 0 end

-- the text is refused by the dialect's rules: they leave the text from `start` on, and of that the
-- place and the words tell
pub record IsRefusalIn (dialect : Dialect) (raw : List ℕ) (refusal : Refusal) : Type 0 where
  pub refused : ¬ IsWholeIn dialect raw
  pub left : RestBeginsIn dialect raw refusal.start
  pub nonempty : refusal.start < length raw
  pub furthest : ℕ
  pub found : IsFurthestIn dialect (drop refusal.start raw) furthest refusal.expected.items
  pub place : refusal.place ≡ refusal.start + furthest
  -- a character of the whole text begins at the place, or the text ends there
  pub boundary : IsCharBoundary raw refusal.place
  -- its hint was tried, or is in the text
  pub hint : IfSome refusal.hint (IsHintIn dialect raw refusal.start refusal.place)

-- None where the dialect's rules read the whole text, and else a refusal
abbrev pub ExplainsIn : Dialect → List ℕ → Option Refusal → Type 0
ExplainsIn dialect raw None = IsWholeIn dialect raw
ExplainsIn dialect raw (Some refusal) = IsRefusalIn dialect raw refusal

-- of the definitions that are read by the dialect's rules from a place on: the furthest place to which their reading comes, and what is said there
pub record IsSaidFromIn (dialect : Dialect) (raw : List ℕ) (start : ℕ) (refusal : Refusal) : Type 0 where
  pub begins : refusal.start ≡ start
  pub furthest : ℕ
  pub found : IsFurthestIn dialect (drop start raw) furthest refusal.expected.items
  pub place : refusal.place ≡ start + furthest
  -- a character of the whole text begins at the place, or the text ends there
  pub boundary : IsCharBoundary raw refusal.place
  -- its hint was tried, or is in the text
  pub hint : IfSome refusal.hint (IsHintIn dialect raw start refusal.place)

-- the text from a place on isn't read whole: the remaining input begins so many bytes behind it,
-- and of that the place and the words tell
pub record IsRefusalBehindIn (dialect : Dialect) (raw : List ℕ) (from : ℕ) (refusal : Refusal) : Type 0 where
  pub refused : ¬ IsWholeIn dialect (drop from raw)
  pub rest : ℕ
  pub left : RestBeginsIn dialect (drop from raw) rest
  pub nonempty : from + rest < length raw
  pub said : IsSaidFromIn dialect raw (from + rest) refusal

-- None where the dialect's rules read whole the text from a place on, and else a refusal
abbrev pub ExplainsBehindIn : Dialect → List ℕ → ℕ → Option Refusal → Type 0
ExplainsBehindIn dialect raw from None = IsWholeIn dialect (drop from raw)
ExplainsBehindIn dialect raw from (Some refusal) = IsRefusalBehindIn dialect raw from refusal

-- these by weedle2's rules
abbrev pub IsRefusal : List ℕ → Refusal → Type 0
IsRefusal = IsRefusalIn Weedle2

abbrev pub Explains : List ℕ → Option Refusal → Type 0
Explains = ExplainsIn Weedle2

abbrev pub IsSaidFrom : List ℕ → ℕ → Refusal → Type 0
IsSaidFrom = IsSaidFromIn Weedle2

abbrev pub IsRefusalBehind : List ℕ → ℕ → Refusal → Type 0
IsRefusalBehind = IsRefusalBehindIn Weedle2

abbrev pub ExplainsBehind : List ℕ → ℕ → Option Refusal → Type 0
ExplainsBehind = ExplainsBehindIn Weedle2
