-- How many rules are tried for the parts of a text.
use Rattle.std.specs.Prelude.{◌≡◌, ◌≤◌, ◌+◌, ℕ, Bool, true, false, List, [], ◌∷◌}
use Rattle.std.specs.Bool.{OnFalse}
use Rattle.weedle_recovery.specs.declared.part.Part.{Part}
use Rattle.weedle_syntax.specs.declared.dialect.Dialect.{Dialect}
use Rattle.weedle_syntax.specs.Steps.{Steps}

-- a text that is read at any place by the rules of a dialect, as contracts see it: over its packrat
-- table, or by descent, which may try so many rules
pub record ReadingView : Type 0 where
  pub text : List ℕ
  pub by_table : Bool
  pub most : ℕ
  pub dialect : Dialect

-- for a part so many rules are tried, where it is read; for one that isn't none are counted
pub record PartSteps (text : List ℕ) (part : Part) (n : ℕ) : Type 0 where
  pub read : part.is_read ≡ true → Steps text part.rule part.start n
  pub unread : part.is_read ≡ false → n ≡ 0

-- for the parts so many rules are tried, where they are read
abbrev pub PartsSteps : List ℕ → List Part → ℕ → Type 0
PartsSteps text [] n = n ≡ 0
PartsSteps text (part ∷ parts) n = (k m : ℕ) × PartSteps text part k × PartsSteps text parts m × (n ≡ k + m)

-- the steps are at least those of the parts that are read
abbrev pub AreStepsOf : List ℕ → List Part → ℕ → Type 0
AreStepsOf text parts steps = (n : ℕ) × PartsSteps text parts n × (n ≤ steps)

-- by descent, of the rules that it may try those of the parts that are read are no longer left
pub record IsCounted (reading : ReadingView) (parts : List Part) (left : ℕ) : Type 0 where
  pub counts : OnFalse reading.by_table ((n : ℕ) × PartsSteps reading.text parts n × (n + left ≤ reading.most))
