-- Readings whose values take a byte or more.
use Rattle.std.proofs.Common.{arith}
use Rattle.std.specs.Borrow.{Bor}
use Rattle.std.specs.Prelude.{◌≡◌, ℕ, List, drop, true}
use Rattle.weedle_base.specs.Own.{own}
use Rattle.weedle_base.specs.Reading.{Reading, Faults, TakesSome}
use Rattle.weedle_base.specs.Runs.{run_reading, vec_step}
use Rattle.weedle_base.specs.declared.fault.Err.TheVariants.{Error as Recoverable}
use Rattle.weedle_base.specs.declared.fault.Error.{Error}
use Rattle.weedle_grammar.proofs.Checked.{rank, ranked}
use Rattle.weedle_grammar.proofs.Exists.{advances}
use Rattle.weedle_grammar.proofs.Takes.{takes}
use Rattle.weedle_grammar.specs.written.Table.{webidl}
use Rattle.weedle_grammar.specs.Trees.{Tree}

-- a rule that takes a byte wherever it doesn't fail
pub own_takes : {V : Type 0} (r : ℕ) (tree : V → Tree) (grows : Type 0) → takes r ≡ true → TakesSome (own r tree grows)
unfolding own
own_takes r tree grows t = record { takes = λ s v k h. advances webidl s rank takes ranked h t }

-- a list of such values is never refused
pub never_refused : {V L : Type 0} (view : L → List V) (R : Reading V) → TakesSome R → {s : List ℕ} {e : Error (Bor (List ℕ))}
    → Faults (run_reading view (vec_step R)) s (Recoverable e) → ⊥
never_refused view R t {s} h = let m = h.says.0 in omega (arith, t.takes (drop m.1 s) m.3.0 0 m.3.1)
