-- What is among words behind a string or a comment.
use Rattle.std.proofs.Common.{◌≡◌, ◌⊎◌, inl, inr, sym, ◌-◌, ◌<◌, ℕ, zero, suc, Bool, true, false, List, [], ◌∷◌, length, get_or, take, drop, Option, Some, None, refl, arith, ◌==◌}
use Rattle.std.proofs.lemmas.List.{take_all}
use Rattle.std.proofs.lemmas.Bool.{eqb-true, eqb-false}
use Rattle.std.proofs.lemmas.List.{length-drop}
use Rattle.std.specs.Option.{option_map}
use Rattle.weedle_grammar.specs.Rows.{begins, take_past}
use Rattle.weedle_nesting.specs.Bare.{bare_from, Words, Slash, Line, Block, Asterisk, Quotes}
use Rattle.weedle_nesting.specs.Marks.{first_mark, is_mark, past, rest_behind}

-- one byte more in front
rest_suc : (b : ℕ) (text : List ℕ) (end : Option ℕ) → rest_behind (b ∷ text) (option_map suc end) ≡ rest_behind text end
rest_suc b text None = refl
rest_suc b text (Some end) = refl

-- one byte less to look for it in
pub past_more : (bytes : List ℕ) (b : ℕ) (text : List ℕ) → begins bytes (b ∷ text) ≡ false → past bytes (b ∷ text) ≡ past bytes text
past_more bytes b text e = rw e (rest_suc b text (take_past bytes text))

-- two numbers are one, or neither test says so
pub same : (a b : ℕ) → (a ≡ b) ⊎ (((a == b) ≡ false) × ((b == a) ≡ false))
same a b = by_test (a == b) refl
  where
    other : (t : Bool) → (b == a) ≡ t → (a == b) ≡ false → ((a == b) ≡ false) × ((b == a) ≡ false)
    other true e f = absurd (eqb-false a b f (sym (eqb-true b a e)))
    other false e f = (f, e)

    by_test : (t : Bool) → (a == b) ≡ t → (a ≡ b) ⊎ (((a == b) ≡ false) × ((b == a) ≡ false))
    by_test true e = inl (eqb-true a b e)
    by_test false e = inr (other (b == a) refl e)

pub past_quotes : (text : List ℕ) → bare_from Quotes text ≡ bare_from Words (past (34 ∷ []) text)
past_quotes [] = refl
past_quotes (b ∷ text) = elim (same b 34) [
  | inl e ↦ rw e refl
  | inr e ↦ rw (e.0, past_more (34 ∷ []) b text (rw e.1 refl)) (past_quotes text)
]

pub past_line : (text : List ℕ) → bare_from Line text ≡ bare_from Words (past (10 ∷ []) text)
past_line [] = refl
past_line (b ∷ text) = elim (same b 10) [
  | inl e ↦ rw e refl
  | inr e ↦ rw (e.0, past_more (10 ∷ []) b text (rw e.1 refl)) (past_line text)
]

pub past_star_slash : (text : List ℕ) → bare_from Block text ≡ bare_from Words (past (42 ∷ 47 ∷ []) text)
past_star_slash [] = refl
past_star_slash (b ∷ text) = elim (same b 42) [
  | inl e ↦ rw e (behind_star text (past_star_slash text))
  | inr e ↦ rw (e.0, past_more (42 ∷ 47 ∷ []) b text (rw e.1 refl)) (past_star_slash text)
]
  where
    behind_star : (text : List ℕ) → bare_from Block text ≡ bare_from Words (past (42 ∷ 47 ∷ []) text) → bare_from Asterisk text ≡ bare_from Words (past (42 ∷ 47 ∷ []) (42 ∷ text))
    behind_star [] h = refl
    behind_star (c ∷ text) h = elim (same c 47) [
      | inl e ↦ rw e refl
      | inr e ↦ rw (e.0, past_more (42 ∷ 47 ∷ []) 42 (c ∷ text) (rw e.1 refl)) h
    ]

-- all but the first bytes, as a slice
pub slice_behind : (i : ℕ) (text : List ℕ) → take (length text - i) (drop i text) ≡ drop i text
slice_behind i text = take_all _ _ (omega (arith, length-drop i text))

-- no byte is a mark
pub no_mark : (text : List ℕ) → ((k : ℕ) → k < length text → is_mark (get_or text k 0) ≡ false) → first_mark text ≡ None
no_mark [] h = refl
no_mark (b ∷ text) h = let e : is_mark b ≡ false = h 0 (omega arith) in rw e (no_mark text (λ k l. h (suc k) (omega (arith, l))))

-- the byte is a mark, and none before it
pub mark_at : (text : List ℕ) (i : ℕ) → i < length text → ((k : ℕ) → k < i → is_mark (get_or text k 0) ≡ false)
    → is_mark (get_or text i 0) ≡ true → first_mark text ≡ Some (get_or text i 0, drop (suc i) text)
mark_at [] i l h e = absurd (omega (arith, l))
mark_at (b ∷ text) zero l h e = let f : is_mark b ≡ true = e in rw f refl
mark_at (b ∷ text) (suc i) l h e =
    let f : is_mark b ≡ false = h 0 (omega arith) in
    rw f (mark_at text i (omega (arith, l)) (λ k m. h (suc k) (omega (arith, m))) e)

-- behind a slash a line or a block comment
pub slash_line : (text line : List ℕ) → text ≡ 47 ∷ line → bare_from Slash text ≡ bare_from Words (past (10 ∷ []) line)
slash_line text line e = rw e (past_line line)

pub slash_block : (text block : List ℕ) → text ≡ 42 ∷ block → bare_from Slash text ≡ bare_from Words (past (42 ∷ 47 ∷ []) block)
slash_block text block e = rw e (past_star_slash block)
