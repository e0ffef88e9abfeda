-- What faults come to, and exit statuses.
use Rattle.std.specs.Prelude.{ℕ}
use Rattle.weedle_program.specs.declared.fault.Fault.{Fault}
use Rattle.weedle_program.specs.declared.fault.Fault.TheVariants.{Input, NotUtf8, Memory, Replace, Output, NoText, TooDeep, Usage}
use Rattle.weedle_program.specs.declared.outcome.Outcome.{Outcome}
use Rattle.weedle_program.specs.declared.outcome.Outcome.TheVariants.{Success, Different, Refused, Unreadable, NoMemory, Unwritten, Misused}

-- the exit status of an outcome
abbrev pub status_of : Outcome → ℕ
status_of Success = 0
status_of Different = 1
status_of Refused = 1
status_of Unreadable = 2
status_of NoMemory = 3
status_of Unwritten = 4
status_of Misused = 5

-- what a run with a fault comes to
abbrev pub outcome_of : Fault → Outcome
outcome_of (Input error) = Unreadable
outcome_of NotUtf8 = Unreadable
outcome_of Memory = NoMemory
outcome_of (Replace error) = Unwritten
outcome_of Output = Unwritten
outcome_of NoText = Unwritten
outcome_of TooDeep = Refused
outcome_of (Usage usage) = Misused
