-- Places at which lines begin, while they are found and while they are halved.
use Rattle.std.proofs.Common.{◌≡◌, inl, inr, ℕ, zero, suc, ◌==◌, ◌+◌, ◌-◌, ◌<◌, ◌≤◌, Bool, List, [], ◌∷◌, ◌++◌, length, take, get_or, sym, subst, ◌∙◌, ap, arith, ne_eqb, length-append}
use Rattle.std.specs.Prelude.{cond, slice_index}
use Rattle.std.proofs.lemmas.Bool.{cases_lt}
use Rattle.std.proofs.lemmas.List.{get_or_append_left, length-take-le}
use Rattle.std.proofs.Math.Seq.{get_or-append_seam}
use Rattle.std.proofs.lemmas.List.Sums.{sum_by-cons, count_by-le-length, count_by_more_no, count_by_more_yes}
use Rattle.weedle_refusal.specs.Lines.{feeds_before, IsLineStart, AreLineStarts}

-- the byte is an LF
abbrev is_feed : ℕ → Bool
is_feed byte = byte == 10

-- a byte more
feeds_cons : (b : ℕ) (text : List ℕ) (n : ℕ) → feeds_before (b ∷ text) (suc n) ≡ cond (is_feed b) 1 0 + feeds_before text n
feeds_cons b text n = sum_by-cons (λ y. cond (is_feed y) 1 0) b (take n text)

-- up to a place further on there are no fewer
pub feeds_grow : (text : List ℕ) (a b : ℕ) → a ≤ b → feeds_before text a ≤ feeds_before text b
feeds_grow text zero b l = omega arith
feeds_grow text (suc a) zero l = absurd (omega arith)
feeds_grow [] (suc a) (suc b) l = omega arith
feeds_grow (t ∷ text) (suc a) (suc b) l =
    let h = feeds_grow text a b (omega arith) in
    let x = feeds_cons t text a in
    let y = feeds_cons t text b in
    omega arith

pub feeds_few : (text : List ℕ) (a : ℕ) → a ≤ length text → feeds_before text a ≤ a
feeds_few text a l = omega (arith, count_by-le-length is_feed (take a text), length-take-le a text l)

-- the places behind the LFs before place i
pub record Found (text : List ℕ) (i : ℕ) (starts : List ℕ) : Type 0 where
  pub many : length starts ≡ feeds_before text i
  pub are : (k : ℕ) → k < length starts → IsLineStart text k (slice_index starts k)

module _ (text : List ℕ) where
  pub found_none : (starts : List ℕ) → starts ≡ [] → Found text 0 starts
  found_none starts e = record { many = ap length e; are = λ k l. absurd (omega (arith, ap length e)) }

  pub found_more : (starts new : List ℕ) (i : ℕ) → i < length text → get_or text i 0 ≡ 10 → new ≡ starts ++ (i + 1) ∷ [] → Found text i starts → Found text (i + 1) new
  found_more starts new i l is e f =
      let more : feeds_before text (i + 1) ≡ feeds_before text i + 1 = count_by_more_yes is_feed text i 0 l (ap is_feed is) in
      let size : length new ≡ length starts + 1 = ap length e ∙ length-append starts ((i + 1) ∷ []) in
      let many : length starts ≡ feeds_before text i = f.many in
      record {
        many = omega arith;
        are = λ k m. subst (λ s. IsLineStart text k (slice_index s k)) (sym e) (elim (cases_lt k (length starts)) [
          | inl h ↦ subst (IsLineStart text k) (sym (get_or_append_left starts ((i + 1) ∷ []) 0 k h)) (f.are k h)
          | inr h ↦ (
              let last : length starts ≡ k = omega arith in
              let here : get_or (starts ++ (i + 1) ∷ []) k 0 ≡ i + 1 = subst (λ z. get_or (starts ++ (i + 1) ∷ []) z 0 ≡ i + 1) last (get_or-append_seam starts (i + 1) [] 0) in
              let back : i + 1 - 1 ≡ i = omega arith in
              let before : feeds_before text (i + 1 - 1) ≡ k = ap (feeds_before text) back ∙ sym many ∙ last in
              subst (IsLineStart text k) (sym here) (record { behind = omega arith; before = before; after = omega arith }))
        ]);
      }

  pub found_same : (starts : List ℕ) (i : ℕ) → i < length text → (get_or text i 0 ≡ 10 → ⊥) → Found text i starts → Found text (i + 1) starts
  found_same starts i l is f =
      let same = count_by_more_no is_feed text i 0 l (ne_eqb (get_or text i 0) 10 is) in
      record { many = f.many ∙ sym same; are = f.are }

  pub found_all : (starts : List ℕ) → Found text (length text) starts → AreLineStarts text starts
  found_all starts f = record { many = f.many; are = f.are }

-- halving the lines for a place: there are no fewer LFs before it than `low`, and no more than `high`
pub record Halving (text starts : List ℕ) (place low high : ℕ) : Type 0 where
  pub within : high ≤ length starts
  pub some : low ≤ feeds_before text place
  pub few : feeds_before text place ≤ high

module _ (text starts : List ℕ) (are : AreLineStarts text starts) (place : ℕ) where
  pub halving_starts : place ≤ length text → Halving text starts place 0 (length starts)
  halving_starts l =
      let grow = feeds_grow text place (length text) l in
      let many = are.many in
      record { within = omega arith; some = omega arith; few = omega arith }

  module _ (low high middle : ℕ) (h : Halving text starts place low high) (before : middle < high) where
    start : IsLineStart text middle (slice_index starts middle)
    start = let w = h.within in are.are middle (omega arith)

    pub halve_up : slice_index starts middle ≤ place → Halving text starts place (middle + 1) high
    halve_up l =
        let after = start.after in
        let grow = feeds_grow text (slice_index starts middle) place l in
        record { within = h.within; some = omega arith; few = h.few }

    pub halve_down : place < slice_index starts middle → Halving text starts place low middle
    halve_down l =
        let first = start.before in
        let grow = feeds_grow text place (slice_index starts middle - 1) (omega arith) in
        let w = h.within in
        record { within = omega arith; some = h.some; few = omega arith }
