-- Where the line of a place begins and ends: a character begins there, or the text ends.
use Rattle.std.proofs.Common.{◌≡◌, ◌≤◌, ◌<◌, ◌∙◌, ℕ, ◌+◌, ◌-◌, Bool, true, false, List, length, take, drop, get_or, slice_index, reverse, inl, inr, refl, sym, ap, subst, arith, eqb-true}
use Rattle.std.proofs.lemmas.List.{get_or-take, get_or-drop, get_or-reverse, length-drop, length-reverse, length-take-le}
use Rattle.std.proofs.lemmas.Bool.{cases_lt}
use Rattle.std.proofs.lemmas.List.Sums.{prefix_len-le-length, prefix_len_stops}
use Rattle.std.proofs.lemmas.Str.{IsCharBoundary-start, IsCharBoundary-end, IsCharBoundary-before_ascii, IsCharBoundary-after_ascii}
use Rattle.std.specs.Prelude.{◌==◌, not, nat_lt, take_while, if◌then◌else◌, ◌&&◌, IsCharBoundary, IsUtf8}
use Rattle.std.specs.List.{prefix_len}
use Rattle.weedle_grammar.proofs.Leaves.{both}
use Rattle.weedle_rules.proofs.PartEnds.{below}
use Rattle.weedle_refusal.specs.Excerpt.{before_return, line_end, line_start}
use Rattle.weedle_refusal.specs.Position.{last_line}

is_feed : (b : ℕ) → not (b == 10) ≡ false → b ≡ 10
is_feed b e = eqb-true b 10 (by (b == 10) e)
  where
    by : (t : Bool) → not t ≡ false → t ≡ true
    by true e = refl
    by false e = cc

-- what follows bytes that are no LF is one
stops : (xs : List ℕ) → length (take_while (λ byte. not (byte == 10)) xs) < length xs → get_or xs (length (take_while (λ byte. not (byte == 10)) xs)) 0 ≡ 10
stops xs short =
    let p : ℕ → Bool = λ byte. not (byte == 10) in
    let long : length (take_while p xs) ≡ prefix_len p xs = length-take-le (prefix_len p xs) xs (prefix_len-le-length p xs) in
    is_feed _ (ap (λ k. p (get_or xs k 0)) long ∙ prefix_len_stops p xs 0 (omega (arith, long, short)))

-- no more of them than there are
few : (xs : List ℕ) → length (take_while (λ byte. not (byte == 10)) xs) ≤ length xs
few xs =
    let p : ℕ → Bool = λ byte. not (byte == 10) in
    let long : length (take_while p xs) ≡ prefix_len p xs = length-take-le (prefix_len p xs) xs (prefix_len-le-length p xs) in
    omega (arith, long, prefix_len-le-length p xs)

module _ (text : List ℕ) (place : ℕ) (utf8 : IsUtf8 text) (within : place ≤ length text) where
  abbrev before : List ℕ
  before = take place text

  abbrev behind_feed : ℕ
  behind_feed = length (last_line before)

  pub start_boundary : IsCharBoundary text (line_start text place)
  start_boundary =
      let long : length (reverse before) ≡ place = length-reverse before ∙ length-take-le place text within in
      let most = few (reverse before) in
      elim (cases_lt behind_feed place) [
        | inl less ↦ (
            let feed = stops (reverse before) (omega (arith, long, less)) in
            let index : length before - 1 - behind_feed ≡ place - behind_feed - 1 = omega (arith, length-take-le place text within, less) in
            let there : get_or text (place - behind_feed - 1) 0 ≡ 10 =
            sym (get_or-take place text (place - behind_feed - 1) 0 (omega (arith, less))) ∙ sym (ap (λ k. get_or before k 0) index) ∙ sym (get_or-reverse before behind_feed 0 (omega (arith, length-take-le place text within, less))) ∙ feed in
            let one : place - behind_feed - 1 + 1 ≡ line_start text place = omega (arith, less) in
            subst (IsCharBoundary text) one (IsCharBoundary-after_ascii text (place - behind_feed - 1) utf8 (omega (arith, within, less)) (omega (arith, there))))
        | inr not_less ↦ (
            let none : 0 ≡ line_start text place = omega (arith, not_less) in
            subst (IsCharBoundary text) none (IsCharBoundary-start text utf8))
      ]

  end_of_line : IsCharBoundary text (line_end text place)
  end_of_line =
      let rest = drop place text in
      let many = length (take_while (λ byte. not (byte == 10)) rest) in
      let long : length rest ≡ length text - place = length-drop place text in
      let most = few rest in
      elim (cases_lt (place + many) (length text)) [
        | inl less ↦ (
            let feed = stops rest (omega (arith, long, less, within)) in
            let there : get_or text (place + many) 0 ≡ 10 = sym (get_or-drop place text many 0) ∙ feed in
            IsCharBoundary-before_ascii text (place + many) less (omega (arith, there)))
        | inr not_less ↦ (
            let all : length text ≡ line_end text place = omega (arith, not_less, most, long, within) in
            subst (IsCharBoundary text) all (IsCharBoundary-end text))
      ]

  choose : (t : Bool) (end : ℕ) → (t ≡ true → IsCharBoundary text (end - 1)) → IsCharBoundary text end → IsCharBoundary text (if t then end - 1 else end)
  choose true end so other = so refl
  choose false end so other = other

  pub end_boundary : IsCharBoundary text (before_return text (line_start text place) (line_end text place))
  end_boundary =
      let start = line_start text place in
      let end = line_end text place in
      choose (nat_lt end (length text) && (nat_lt start end && slice_index text (end - 1) == 13)) end (λ t.
      let outer = both _ _ t in
      let inner = both _ _ outer.1 in
      let byte : get_or text (end - 1) 0 ≡ 13 = eqb-true _ _ inner.1 in
      let ends : end < length text = below end (length text) outer.0 in
      IsCharBoundary-before_ascii text (end - 1) (omega (arith, ends)) (omega (arith, byte))) end_of_line
