-- What is said of a text: nothing, where the grammar reads it whole, and else where and why it is refused.
use Rattle.std.specs.Borrow.{Bor}
use Rattle.std.specs.Prelude.{◌≡◌, ◌+◌, ◌<◌, ◌≤◌, ℕ, List, length, drop, Option, Some, None, IfSome, IsCharBoundary}
use Rattle.weedle_front.specs.Whole.{IsWhole, IsLeft}
use Rattle.weedle_idl.specs.declared.definition.Definition.{Definition}
use Rattle.weedle_refusal.specs.Furthest.{IsFurthest}
use Rattle.weedle_refusal.specs.Hint.{IsHint}
use Rattle.weedle_refusal.specs.Refusal.{ExplainsIn as ExplainsByRules}
use Rattle.weedle_refusal.specs.declared.refusal.Refusal.{Refusal}
use Rattle.weedle_syntax.specs.declared.dialect.Dialect.{Dialect}
use Rattle.weedle_syntax.specs.declared.dialect.Dialect.TheVariants.{Weedle2, Today}

-- the text is refused: the grammar leaves the text from `start` on, and of that the place and the
-- words tell
pub record IsRefusal (raw : List ℕ) (refusal : Refusal) : Type 0 where
  pub refused : (definitions : List Definition) → ¬ IsWhole raw definitions
  pub left : IsLeft raw (drop refusal.start raw)
  pub nonempty : refusal.start < length raw
  pub furthest : ℕ
  pub found : IsFurthest (drop refusal.start raw) furthest refusal.expected.items
  pub place : refusal.place ≡ refusal.start + furthest
  -- a character of the whole text begins at the place, or the text ends there
  pub boundary : IsCharBoundary raw refusal.place
  -- its hint was tried, or is in the text
  pub hint : IfSome refusal.hint (IsHint raw refusal.start refusal.place)

-- None where the grammar reads the whole text as some list, and else a refusal
abbrev pub Explains : List ℕ → Option Refusal → Type 0
Explains raw None = (definitions : List Definition) × IsWhole raw definitions
Explains raw (Some refusal) = IsRefusal raw refusal

-- the same by the dialect's rules: today's have no types, so there the text is read whole where their rule of a whole text reads it
abbrev pub ExplainsIn : Dialect → List ℕ → Option Refusal → Type 0
ExplainsIn Weedle2 = Explains
ExplainsIn Today = ExplainsByRules Today

-- what the grammar leaves of a text, if that is something
pub record IsRest (raw rest : List ℕ) : Type 0 where
  pub refused : (definitions : List Definition) → ¬ IsWhole raw definitions
  pub left : IsLeft raw rest
  pub nonempty : 0 < length rest
  pub within : length rest ≤ length raw

-- None where the grammar reads the whole text as some list, and else what it leaves
abbrev pub IsUnreadRest : List ℕ → Option (Bor (List ℕ)) → Type 0
IsUnreadRest raw None = (definitions : List Definition) × IsWhole raw definitions
IsUnreadRest raw (Some rest) = IsRest raw rest.now
