-- What faults say.
use Rattle.std.specs.Prelude.{ℕ, List, ◌++◌, Option, codes, decimal}
use Rattle.weedle_base.specs.declared.fault.Err.{Err as Fault}
use Rattle.weedle_base.specs.declared.fault.Err.TheVariants.{Error as Recoverable, Failure}
use Rattle.weedle_base.specs.declared.fault.ErrorKind.{ErrorKind}
use Rattle.weedle_base.specs.declared.fault.ErrorKind.TheVariants.{Mismatch, Unread, Memory}

-- what a fault is
abbrev pub kind_text : ErrorKind → List ℕ
kind_text Mismatch = codes "mismatch"
kind_text Unread = codes "unread"
kind_text Memory = codes "out of memory"

-- what a fault is, and at which byte
abbrev pub text_at_byte : ErrorKind → ℕ → List ℕ
text_at_byte Mismatch n = codes "mismatch at byte " ++ decimal n
text_at_byte Unread n = codes "unread from byte " ++ (decimal n ++ codes " on")
text_at_byte Memory n = kind_text Memory

-- what ends a call says what is said of its fault
abbrev pub end_text : {E : Type 0} → (E → Option (List ℕ)) → Fault E → Option (List ℕ)
end_text text (Recoverable e) = text e
end_text text (Failure e) = text e
