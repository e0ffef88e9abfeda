-- What a look at a byte says of the rows without parts.
use Rattle.std.proofs.Common.{◌≡◌, ◌≢◌, inl, inr, ℕ, suc, ◌+◌, ◌<◌, ◌≤◌, List, [], ◌∷◌, length, drop, true, false, Option, Some, None, refl, ap, sym, ◌∙◌, add-one, arith, get_or}
use Rattle.std.specs.Prelude.{option_map, slice_get, ◌==◌}
use Rattle.std.proofs.lemmas.Bool.Decides.{eqb_tells}
use Rattle.std.proofs.lemmas.Bool.{cases_lt}
use Rattle.weedle_grammar.specs.Rows.{Bytes, OneOf, NotNext, Run, Past, take_past, run_length, is_in, begins}
use Rattle.weedle_grammar.specs.declared.class.Class.{Class}
use Rattle.weedle_grammar.proofs.Leaves.{begins_le}
use Rattle.std.proofs.Math.Seq.{drop-cons}
use Rattle.std.proofs.lemmas.Option.{slice_get_within, get_or_from_slice_get, slice_get-get_or}
use Rattle.std.proofs.lemmas.List.{length-drop}
use Rattle.weedle_grammar.specs.written.Table.{webidl}
use Rattle.weedle_rules.proofs.RowEnds.{RowEnds, bytes_ends, one_ends, not_next_ends, run_ends, past_ends, run_end_is, past_end_is}
use Rattle.weedle_rules.proofs.ListFrom.{parts_from, past_end}

-- the byte at a place, and what is left from there
pub here : (text : List ℕ) (p b : ℕ) → Some b ≡ slice_get text p → drop p text ≡ b ∷ drop (p + 1) text
here text p b h = drop-cons text p 0 (slice_get_within text p b (sym h)) ∙ ap (λ z. z ∷ drop (suc p) text) (get_or_from_slice_get text p b 0 (sym h)) ∙ ap (λ k. b ∷ drop k text) (sym (add-one p))

no_more : (text : List ℕ) (p : ℕ) → None ≡ slice_get text p → drop p text ≡ []
no_more text p h = elim (cases_lt p (length text)) [
  | inl l ↦ cc (slice_get-get_or text p 0 l)
  | inr l ↦ past_end text p l
]

-- where a byte is, the place behind it is within the text
pub more_than : (text : List ℕ) (p b : ℕ) → Some b ≡ slice_get text p → p + 1 ≤ length text
more_than text p b h = let l = slice_get_within text p b (sym h) in omega arith

module _ (text : List ℕ) (p : ℕ) where
  -- one byte of a class
  pub one_fits : (c : Class) (b : ℕ) → Some b ≡ slice_get text p → is_in c b ≡ true → RowEnds webidl text (OneOf c) p (Some (p + 1))
  one_fits c b h t = one_ends webidl text c p (Some (p + 1)) (rw (here text p b h, t) refl)

  pub one_other : (c : Class) (b : ℕ) → Some b ≡ slice_get text p → is_in c b ≡ false → RowEnds webidl text (OneOf c) p None
  one_other c b h t = one_ends webidl text c p None (rw (here text p b h, t) refl)

  pub one_at_end : (c : Class) → None ≡ slice_get text p → RowEnds webidl text (OneOf c) p None
  one_at_end c h = one_ends webidl text c p None (rw (no_more text p h) refl)

  zero_on : Some p ≡ Some (p + 0)
  zero_on = ap Some (omega arith)

  -- no byte of a class next
  pub not_next_other : (c : Class) (b : ℕ) → Some b ≡ slice_get text p → is_in c b ≡ true → RowEnds webidl text (NotNext c) p None
  not_next_other c b h t = not_next_ends webidl text c p None (rw (here text p b h, t) refl)

  pub not_next_fits : (c : Class) (b : ℕ) → Some b ≡ slice_get text p → is_in c b ≡ false → RowEnds webidl text (NotNext c) p (Some p)
  not_next_fits c b h t = not_next_ends webidl text c p (Some p) (rw (here text p b h, t) zero_on)

  pub not_next_at_end : (c : Class) → None ≡ slice_get text p → RowEnds webidl text (NotNext c) p (Some p)
  not_next_at_end c h = not_next_ends webidl text c p (Some p) (rw (no_more text p h) zero_on)

  -- all bytes of a class
  pub run_stops : (c : Class) (b : ℕ) → Some b ≡ slice_get text p → is_in c b ≡ false → RowEnds webidl text (Run c) p (Some p)
  run_stops c b h t = run_ends webidl text c p (Some p) (rw (here text p b h, t) zero_on)

  pub run_at_end : (c : Class) → None ≡ slice_get text p → RowEnds webidl text (Run c) p (Some p)
  run_at_end c h = run_ends webidl text c p (Some p) (rw (no_more text p h) zero_on)

  pub run_on : (c : Class) (b : ℕ) (e : Option ℕ) → Some b ≡ slice_get text p → is_in c b ≡ true → RowEnds webidl text (Run c) (p + 1) e → RowEnds webidl text (Run c) p e
  run_on c b e h t m =
      let n : (p + 1) + run_length c (drop (p + 1) text) ≡ p + suc (run_length c (drop (p + 1) text)) = omega arith in
      run_ends webidl text c p e (run_end_is webidl text c (p + 1) e m ∙ ap Some n ∙ rw (here text p b h, t) refl)

  -- these bytes
  pub bytes_fit : (b : List ℕ) → true ≡ begins b (drop p text) → RowEnds webidl text (Bytes b) p (Some (p + length b))
  bytes_fit b h = bytes_ends webidl text b p (Some (p + length b)) (rw (← h) refl)

  pub bytes_other : (b : List ℕ) → false ≡ begins b (drop p text) → RowEnds webidl text (Bytes b) p None
  bytes_other b h = bytes_ends webidl text b p None (rw (← h) refl)

  past_fits : (b s : List ℕ) → true ≡ begins b s → take_past b s ≡ Some (length b)
  past_fits b [] h = rw (← h) refl
  past_fits b (t ∷ s) h = rw (← h) refl

  past_other : (b : List ℕ) (t : ℕ) (s : List ℕ) → false ≡ begins b (t ∷ s) → take_past b (t ∷ s) ≡ option_map suc (take_past b s)
  past_other b t s h = rw (← h) refl

  shift_on : (o : Option ℕ) → option_map (λ k. (p + 1) + k) o ≡ option_map (λ k. p + k) (option_map suc o)
  shift_on None = refl
  shift_on (Some k) = ap Some (omega arith)

  -- everything up to these bytes
  pub past_here : (b : List ℕ) → true ≡ begins b (drop p text) → RowEnds webidl text (Past b) p (Some (p + length b))
  past_here b h = past_ends webidl text b p (Some (p + length b)) (rw (past_fits b (drop p text) h) refl)

  pub past_none : (b : List ℕ) → false ≡ begins b (drop p text) → length text ≤ p → RowEnds webidl text (Past b) p None
  past_none b h l =
      let e = past_end text p l in
      let k = rw e at h in
      past_ends webidl text b p None (rw e (rw (← k) refl))

  pub past_on : (b : List ℕ) (e : Option ℕ) → false ≡ begins b (drop p text) → p < length text → RowEnds webidl text (Past b) (p + 1) e → RowEnds webidl text (Past b) p e
  past_on b e h l m =
      let s = here text p (get_or text p 0) (sym (slice_get-get_or text p 0 l)) in
      let k = rw s at h in
      past_ends webidl text b p e (past_end_is webidl text b (p + 1) e m ∙ shift_on (take_past b (drop (p + 1) text)) ∙ rw (s, past_other b (get_or text p 0) (drop (p + 1) text) k) refl)

-- the test of two numbers
pub differ : (a b : ℕ) → b ≢ a → (a == b) ≡ false
differ a b n = elim (eqb_tells a b) [ inl h ↦ absurd (n (sym h.1)) | inr h ↦ h.0 ]

pub same : (a b : ℕ) → b ≡ a → (a == b) ≡ true
same a b e = elim (eqb_tells a b) [ inl h ↦ h.0 | inr h ↦ absurd (h.1 (sym e)) ]

-- bytes at a place end within the text
pub stand_within : (bytes text : List ℕ) (p : ℕ) → p ≤ length text → true ≡ begins bytes (drop p text) → p + length bytes ≤ length text
stand_within bytes text p h e = let l = begins_le bytes (drop p text) (sym e) in omega (arith, length-drop p text)

-- where the bytes differ, the text doesn't begin with them; where they don't, what follows decides
module _ (bytes text : List ℕ) (p i b : ℕ) (h : i < length bytes) where
  pub begins_other : Some b ≡ slice_get text (p + i) → b ≢ get_or bytes i 0 → false ≡ begins (drop i bytes) (drop (p + i) text)
  begins_other k n = rw (parts_from bytes i h, here text (p + i) b k, differ (get_or bytes i 0) b n) refl

  pub begins_on : Some b ≡ slice_get text (p + i) → b ≡ get_or bytes i 0 → begins (drop i bytes) (drop (p + i) text) ≡ begins (drop (i + 1) bytes) (drop (p + (i + 1)) text)
  begins_on k e =
      let a : (p + i) + 1 ≡ p + (i + 1) = omega arith in
      rw (parts_from bytes i h, here text (p + i) b k, same (get_or bytes i 0) b e, a) refl

  pub begins_short : None ≡ slice_get text (p + i) → false ≡ begins (drop i bytes) (drop (p + i) text)
  begins_short k = rw (parts_from bytes i h, no_more text (p + i) k) refl
