-- What a diagnosis says in words.
use Rattle.std.proofs.Common.{ℕ, List}
use Rattle.std.proofs.lemmas.Str.{IsCharBoundary-start}
use Rattle.std.specs.Prelude.{IsUtf8}
use Rattle.weedle_refusal.specs.Diagnosis.{IsDiagnosisIn}
use Rattle.weedle_refusal.specs.Furthest.{IsFurthestIn}
use Rattle.weedle_refusal.specs.Words.{AreWordsIn}
use Rattle.weedle_refusal.specs.declared.expected.Expected.{Expected}
use Rattle.weedle_syntax.specs.declared.dialect.Dialect.{Dialect}

-- what a diagnosis from the front of a text says, in words
pub furthest_is : (dialect : Dialect) {text rules : List ℕ} {place : ℕ} {words : List Expected} → IsUtf8 text → IsDiagnosisIn dialect text 0 place rules → AreWordsIn dialect rules words
    → IsFurthestIn dialect text place words
furthest_is dialect {text} {rules} utf8 diagnosed words =
    record { rules = rules; diagnosed = diagnosed; said = words; boundary = diagnosed.boundary utf8 (IsCharBoundary-start text utf8) }
