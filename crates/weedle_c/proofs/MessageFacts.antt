-- A message that is cut to a room.
use Rattle.std.proofs.Common.{◌≡◌, ◌∙◌, ◌⊎◌, ◌<◌, ◌≤◌, ◌+◌, ℕ, zero, suc, Bool, true, false, List, [], ◌∷◌, ◌++◌, length, take, drop, set, refl, sym, ap, subst, arith}
use Rattle.std.specs.Prelude.{not, slice_index}
use Rattle.std.proofs.lemmas.List.{length-take-le}
use Rattle.weedle_c.specs.Explained.{IsEnded}
use Rattle.weedle_refusal.specs.Position.{begins_character}

-- the element behind some is exchanged
set_behind : (xs : List ℕ) (y z : ℕ) (ys : List ℕ) → set (xs ++ y ∷ ys) (length xs) z ≡ xs ++ z ∷ ys
set_behind [] y z ys = refl
set_behind (x ∷ xs) y z ys = ap (λ l. x ∷ l) (set_behind xs y z ys)

-- the text from a place on begins with what is there
drop_one : (xs : List ℕ) (i : ℕ) → i < length xs → (x : ℕ) × (drop i xs ≡ x ∷ drop (suc i) xs)
drop_one [] i l = absurd (omega arith)
drop_one (x ∷ xs) zero l = (x, refl)
drop_one (x ∷ xs) (suc i) l = drop_one xs i (omega arith)

-- a byte that isn't inner begins a character
pub not_inner : (b : Bool) → not b ≡ false → b ≡ true
not_inner true e = refl
not_inner false e = sym e

-- a zero behind what was copied to the front of a room
zero_behind : (copied old : List ℕ) (end : ℕ) → end < length old → length copied ≡ end → set (copied ++ drop end old) end 0 ≡ copied ++ 0 ∷ drop (end + 1) old
zero_behind copied old end room is =
    let one = drop_one old end room in
    let next : suc end ≡ end + 1 = omega arith in
    ap (λ l. set (copied ++ l) end 0) one.1
    ∙ subst (λ n. set (copied ++ one.0 ∷ drop (suc end) old) n 0 ≡ copied ++ 0 ∷ drop (suc end) old) is (set_behind copied one.0 0 (drop (suc end) old))
    ∙ ap (λ n. copied ++ 0 ∷ drop n old) next

pub ended : (said old copied : List ℕ) (end : ℕ) → end ≤ length said → end < length old → (length said < length old → end ≡ length said)
    → (end ≡ length said) ⊎ (end ≡ 0) ⊎ (begins_character (slice_index said end) ≡ true) → copied ≡ take end said → IsEnded said old (set (copied ++ drop end old) end 0)
ended said old copied end within room whole character is = record {
  end = end;
  within = within;
  room = room;
  written = zero_behind copied old end room (ap length is ∙ length-take-le end said within) ∙ ap (λ l. l ++ 0 ∷ drop (end + 1) old) is;
  whole = whole;
  character = character;
}
