-- The faults that a body builds, and the byte at which a fault is.
use Rattle.std.specs.Borrow.{Bor}
use Rattle.std.specs.Prelude.{◌≡◌, ℕ, ◌-◌, ◌≤◌, List, length}
use Rattle.weedle_base.specs.declared.fault.Err.{Err as Fault}
use Rattle.weedle_base.specs.declared.fault.Err.TheVariants.{Error as Recoverable, Failure}
use Rattle.weedle_base.specs.declared.fault.Error.{Error}
use Rattle.weedle_base.specs.declared.fault.ErrorKind.TheVariants.{Mismatch, Memory}

-- a mismatch that has this text
abbrev pub IsMismatch : List ℕ → Fault (Error (Bor (List ℕ))) → Type 0
IsMismatch s (Recoverable e) = (e.code ≡ Mismatch) × (e.input.now ≡ s)
IsMismatch s (Failure e) = ⊥

-- an 'out of memory' failure that has this text
abbrev pub IsOutOfMemory : List ℕ → Fault (Error (Bor (List ℕ))) → Type 0
IsOutOfMemory s (Recoverable e) = ⊥
IsOutOfMemory s (Failure e) = (e.code ≡ Memory) × (e.input.now ≡ s)

-- what the fault names of the text is no longer than the text
abbrev pub IsWithin : List ℕ → Fault (Error (Bor (List ℕ))) → Type 0
IsWithin s (Recoverable e) = length e.input.now ≤ length s
IsWithin s (Failure e) = length e.input.now ≤ length s

-- the same kind and code; the input is the byte from which on the text is as long as what the first names
abbrev pub IsAtByte : List ℕ → Fault (Error (Bor (List ℕ))) → Fault (Error ℕ) → Type 0
IsAtByte s (Recoverable e) (Recoverable p) = (p.input ≡ length s - length e.input.now) × (p.code ≡ e.code)
IsAtByte s (Recoverable e) (Failure p) = ⊥
IsAtByte s (Failure e) (Recoverable p) = ⊥
IsAtByte s (Failure e) (Failure p) = (p.input ≡ length s - length e.input.now) × (p.code ≡ e.code)
