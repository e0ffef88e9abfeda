-- What follows some bytes, byte by byte.
use Rattle.std.proofs.Common.{◌≡◌, ◌<◌, ◌≤◌, ◌+◌, ℕ, List, [], length, drop, get_or, ap, add-one, arith, length-drop}
use Rattle.std.proofs.Math.Seq.{drop-cons}
use Rattle.std.proofs.lemmas.List.{nil_from_length}
use Rattle.weedle_refusal.specs.Inside.{behind, step}
use Rattle.weedle_refusal.specs.declared.hint.inside.Inside.{Inside}

-- one byte more
pub one_more : (inside : Inside) (bytes : List ℕ) (i : ℕ) → i < length bytes → behind inside (drop i bytes) ≡ behind (step inside (get_or bytes i 0)) (drop (i + 1) bytes)
one_more inside bytes i within = rw (add-one i) (ap (behind inside) (drop-cons bytes i 0 within))

-- no byte more
pub all_read : (inside : Inside) (bytes : List ℕ) (i : ℕ) → length bytes ≤ i → behind inside (drop i bytes) ≡ inside
all_read inside bytes i done = ap (behind inside) (nil_from_length (drop i bytes) (omega (arith, length-drop i bytes)))
