-- What a type reads, and what a call of `parse` may answer.
use Rattle.std.specs.Borrow.{Bor}
use Rattle.std.specs.Prelude.{◌≡◌, ◌≤◌, ◌<◌, ℕ, List, drop, length, Result, Ok, Err}
use Rattle.std.specs.Str.{IsCharBoundary, IsUtf8}
use Rattle.weedle_base.specs.Places.{IsSuffix}
use Rattle.weedle_base.specs.declared.fault.Err.{Err as Fault}
use Rattle.weedle_base.specs.declared.fault.Err.TheVariants.{Error as Recoverable, Failure}
use Rattle.weedle_base.specs.declared.fault.Error.{Error}
use Rattle.weedle_base.specs.declared.fault.ErrorKind.{ErrorKind}
use Rattle.weedle_base.specs.declared.fault.ErrorKind.TheVariants.{Mismatch}
use Rattle.weedle_base.specs.Alike.{IsEquivalence}

-- what it is to read a type
pub record Reading (V : Type 0) : Type 1 where
  -- from the text comes the value, and so many bytes are taken
  pub gives : List ℕ → V → ℕ → Type 0
  -- the reading fails on the text
  pub refuses : List ℕ → Type 0
  -- the call may end on the text with a failure of this input and code
  pub stops : List ℕ → List ℕ → ErrorKind → Type 0
  -- it may do so on some text
  pub grows : Type 0
  -- when values are equal, capacities aside
  pub alike : V → V → Type 0

-- from the text s came the value v, and rest follows it
pub record Got {V : Type 0} (R : Reading V) (s : List ℕ) (v : V) (rest : List ℕ) : Type 0 where
  -- how many bytes were taken
  pub place : ℕ
  -- the value is what the type reads in them
  pub gives : R.gives s v place
  pub within : place ≤ length s
  -- rest is what follows them, and it is text
  pub rest_is : rest ≡ drop place s
  pub text : IsUtf8 rest

-- what a fault says: a mismatch, that the type refuses the text; a failure, that the call may stop so. It names a place
-- of the text
abbrev pub FaultSays : {V : Type 0} → Reading V → List ℕ → Fault (Error (Bor (List ℕ))) → Type 0
FaultSays R s (Recoverable e) = R.refuses s × (e.code ≡ Mismatch) × IsSuffix s e.input.now
FaultSays R s (Failure e) = R.stops s e.input.now e.code

-- the call ended on s with the fault
pub record Faults {V : Type 0} (R : Reading V) (s : List ℕ) (e : Fault (Error (Bor (List ℕ)))) : Type 0 where
  pub says : FaultSays R s e

-- what a call may answer on s
module _ {V : Type 0} (R : Reading V) (s : List ℕ) where
  abbrev pub Answers : Result (Bor (List ℕ) × V) (Fault (Error (Bor (List ℕ)))) → Type 0
  Answers (Ok x) = Got R s x.1 x.0.now
  Answers (Err e) = Faults R s e

-- each value of the reading takes a byte or more
pub record TakesSome {V : Type 0} (R : Reading V) : Type 0 where
  pub takes : (s : List ℕ) (v : V) (k : ℕ) → R.gives s v k → 0 < k

-- the laws of a reading
pub record IsLawful {V : Type 0} (R : Reading V) : Type 0 where
  -- a value ends where a character begins
  pub within : (s : List ℕ) (v : V) (k : ℕ) → IsUtf8 s → R.gives s v k → IsCharBoundary s k
  -- at most one value and end belong to a text
  pub one : (s : List ℕ) (v w : V) (k l : ℕ) → IsUtf8 s → R.gives s v k → R.gives s w l → R.alike v w × (k ≡ l)
  -- no text is both read and refused
  pub apart : (s : List ℕ) (v : V) (k : ℕ) → IsUtf8 s → R.gives s v k → R.refuses s → ⊥
  -- being alike is an equivalence
  pub equivalence : IsEquivalence R.alike
  -- a call stops only if the reading says that it may
  pub growing : (s r : List ℕ) (code : ErrorKind) → R.stops s r code → R.grows
