-- Where the reading of a text comes furthest, and the words for what is unmet there.
use Rattle.std.specs.Prelude.{ℕ, List, IsCharBoundary}
use Rattle.weedle_refusal.specs.Diagnosis.{IsDiagnosisIn}
use Rattle.weedle_refusal.specs.Words.{AreWordsIn}
use Rattle.weedle_refusal.specs.declared.expected.Expected.{Expected}
use Rattle.weedle_syntax.specs.declared.dialect.Dialect.{Dialect}
use Rattle.weedle_syntax.specs.declared.dialect.Dialect.TheVariants.{Weedle2}

-- of a text that is read by the dialect's rules from its front on: the furthest place at which something is unmet, where a character begins or the
-- text ends, and the words for what is unmet there
pub record IsFurthestIn (dialect : Dialect) (text : List ℕ) (place : ℕ) (words : List Expected) : Type 0 where
  pub rules : List ℕ
  pub diagnosed : IsDiagnosisIn dialect text 0 place rules
  pub said : AreWordsIn dialect rules words
  pub boundary : IsCharBoundary text place

-- by weedle2's rules
abbrev pub IsFurthest : List ℕ → ℕ → List Expected → Type 0
IsFurthest text place words = IsFurthestIn Weedle2 text place words
