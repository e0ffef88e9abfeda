-- What the faults that a body builds say of a reading.
use Rattle.std.proofs.Common.{sym, subst}
use Rattle.std.specs.Borrow.{Bor}
use Rattle.std.specs.Prelude.{ℕ, List}
use Rattle.weedle_base.specs.Faults.{IsMismatch, IsOutOfMemory}
use Rattle.weedle_base.specs.Places.{IsSuffix}
use Rattle.weedle_base.specs.Reading.{Reading, Faults, FaultSays}
use Rattle.weedle_base.specs.declared.fault.Err.{Err as Fault}
use Rattle.weedle_base.specs.declared.fault.Err.TheVariants.{Error as Recoverable, Failure}
use Rattle.weedle_base.specs.declared.fault.Error.{Error}
use Rattle.weedle_base.specs.declared.fault.ErrorKind.{ErrorKind}
use Rattle.weedle_base.specs.declared.fault.ErrorKind.TheVariants.{Memory}

module _ {V : Type 0} (R : Reading V) {s rest : List ℕ} where
  mismatch_says : (e : Fault (Error (Bor (List ℕ)))) → IsMismatch rest e → R.refuses s → IsSuffix s rest → FaultSays R s e
  mismatch_says (Recoverable e) m d h = (d, m.0, rw m.1 h)
  mismatch_says (Failure e) m d h = absurd m

  memory_says : (e : Fault (Error (Bor (List ℕ)))) → IsOutOfMemory rest e → R.stops s rest Memory → FaultSays R s e
  memory_says (Recoverable e) m d = absurd m
  memory_says (Failure e) m d =
      let there = subst (λ (r : List ℕ). R.stops s r Memory) (sym m.1) d in
      subst (λ (code : ErrorKind). R.stops s e.input.now code) (sym m.0) there

  -- a mismatch at a suffix of a text that the type refuses
  pub fault_mismatch : {e : Fault (Error (Bor (List ℕ)))} → IsMismatch rest e → R.refuses s → IsSuffix s rest → Faults R s e
  fault_mismatch {e} m d h = record { says = mismatch_says e m d h }

  -- want of memory at a place where the type may stop so
  pub fault_memory : {e : Fault (Error (Bor (List ℕ)))} → IsOutOfMemory rest e → R.stops s rest Memory → Faults R s e
  fault_memory {e} m d = record { says = memory_says e m d }
