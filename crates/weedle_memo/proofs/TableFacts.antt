-- How far the tables are filled, and what a byte says of a rule.
use Rattle.std.proofs.Common.{◌≡◌, inl, inr, ℕ, ◌+◌, ◌/◌, ◌%◌, ◌^◌, ◌<◌, ◌≤◌, List, ◌∷◌, length, drop, get_or, set, replicate, Bool, Option, Some, None, refl, sym, subst, ◌∙◌, ap, arith, length-set, get_or-set_other, get_or-set_same}
use Rattle.std.specs.Prelude.{bit_and, slice_get, slice_index}
use Rattle.std.specs.Int.{bit_at}
use Rattle.std.proofs.lemmas.Bool.{cases_lt}
use Rattle.std.proofs.lemmas.List.{drop_more, length-replicate}
use Rattle.std.proofs.lemmas.Nat.Bits.{shr_and_one}
use Rattle.std.proofs.lemmas.Option.{slice_get_within, get_or_from_slice_get, slice_get-get_or}
use Rattle.weedle_grammar.specs.Rows.{Row, Bytes, OneOf, NotNext, Run, Past, Seq, First, Opt, Many, ListOf, List1, Tail, If}
use Rattle.weedle_grammar.specs.Trees.{Fails}
use Rattle.weedle_grammar.specs.written.Bound.{rule_count}
use Rattle.weedle_grammar.specs.written.Table.{webidl, row_of}
use Rattle.weedle_grammar.specs.declared.row.Parts.{Parts}
use Rattle.weedle_rules.specs.Cells.{HasEnd}
use Rattle.weedle_rules.proofs.RowEnds.{rule_ends, opt_absent, many_ends, list_ends, tail_ends}
use Rattle.weedle_starts.specs.Starts.{CoversStarts}
use Rattle.weedle_starts.specs.View.{row_view as starts_view}
use Rattle.weedle_starts.specs.declared.row.Row as starts_rows
use Rattle.weedle_starts.specs.declared.row.Row.TheVariants as starts_code
use Rattle.weedle_memo.specs.Tables.{option_of, IsWordOf, IsWord, IsWay, IsLaid, AreTables, Lacks, Stays}
use Rattle.weedle_grammar.specs.View.{row_view}
use Rattle.weedle_grammar.specs.declared.row.Row as rows
use Rattle.weedle_grammar.specs.declared.row.Row.TheVariants as code
use Rattle.weedle_memo.specs.declared.tables.Way.TheVariants as way
use Rattle.weedle_memo.specs.declared.tables.Word.{Word}
use Rattle.weedle_memo.specs.declared.tables.Way.{Way}

-- those of the rules below n
pub record AreLaid (ways : List (Way Word Parts)) (words : List ℕ) (n : ℕ) : Type 0 where
  pub laid : (r : ℕ) → r < n → IsLaid ways words r
  pub ways_long : length ways ≡ rule_count
  pub words_long : length words ≡ rule_count

pub none_laid : (ways : List (Way Word Parts)) (words : List ℕ) → length ways ≡ rule_count → length words ≡ rule_count → AreLaid ways words 0
none_laid ways words w v = record { laid = λ r l. absurd (omega arith); ways_long = w; words_long = v }

pub one_laid : (ways : List (Way Word Parts)) (words : List ℕ) (n : ℕ) (way : Way Word Parts) (word : ℕ) → AreLaid ways words n → n < rule_count → IsWay way (row_of n) → IsWord word n
    → AreLaid (set ways n way) (set words n word) (n + 1)
one_laid ways words n way word were low is covers =
    let wl = were.ways_long in
    let vl = were.words_long in
    record {
      laid = λ r l. elim (cases_lt r n) [
        | inl k ↦ (
            let one = were.laid r k in (
              (λ d. subst (λ w. IsWay w (row_of r)) (sym (get_or-set_other ways n r way d (omega arith))) (one.0 d)),
              subst (λ w. IsWord w r) (sym (get_or-set_other words n r word 0 (omega arith))) one.1,
            ))
        | inr k ↦ (
            let same : n ≡ r = omega arith in
            subst (λ z. IsLaid (set ways n way) (set words n word) z) same (
              (λ d. subst (λ w. IsWay w (row_of n)) (sym (get_or-set_same ways n way d (omega arith))) is),
              subst (λ w. IsWord w n) (sym (get_or-set_same words n word 0 (omega arith))) covers,
            ))
      ];
      ways_long = length-set ways n way ∙ wl;
      words_long = length-set words n word ∙ vl;
    }

-- of a rule that may go without y, and of another
pub word_with : (word r : ℕ) {y : ℕ} → option_of (row_of r) ≡ Some y → CoversStarts word y → IsWord word r
word_with word r {y} e h = subst (λ o. IsWordOf word r o) (sym e) h

pub word_without : (word r : ℕ) → option_of (row_of r) ≡ None → CoversStarts word r → IsWord word r
word_without word r e h = subst (λ o. IsWordOf word r o) (sym e) h

module _ (text words : List ℕ) (r p : ℕ) where
  -- the byte at the place is in the word, or there is none, or it isn't ASCII
  pub not_lacking : (b : ℕ) → Some b ≡ slice_get text p → (b < 128 → bit_at (slice_index words r) b ≡ 0 → ⊥) → Lacks words text r p → ⊥
  not_lacking b h n l =
      let same : Some l.byte ≡ Some b = l.stands ∙ sym h in
      let e : l.byte ≡ b = cc in
      n (subst (λ z. z < 128) e l.ascii) (subst (λ z. bit_at (slice_index words r) z ≡ 0) e l.unset)

  pub none_lacking : length text ≤ p → Lacks words text r p → ⊥
  none_lacking h l = let w = slice_get_within text p l.byte (sym l.stands) in absurd (omega arith)

  module _ (low : r < rule_count) (fits : p < length text) (number : ℕ) (same : number ≡ r) (ascii : get_or text p 0 < 128) where
    stands : Some (get_or text p 0) ≡ slice_get text p
    stands = sym (slice_get-get_or text p 0 fits)

    bit_is : bit_at (slice_index words r) (get_or text p 0) ≡ bit_and (get_or words number 0 / 2 ^ get_or text p 0) 1
    bit_is = ap (λ k. bit_at (get_or words k 0) (get_or text p 0)) (sym same) ∙ sym (shr_and_one (get_or words number 0) (get_or text p 0))

    two : (n : ℕ) → n < 2 → (n ≡ 1 → ⊥) → n ≡ 0
    two n l h = elim (cases_lt n 1) [ inl k ↦ omega arith | inr k ↦ absurd (h (omega arith)) ]

    pub it_has : bit_and (get_or words number 0 / 2 ^ get_or text p 0) 1 ≡ 1 → Lacks words text r p → ⊥
    it_has z = not_lacking (get_or text p 0) stands (λ a h. (let k : 0 ≡ 1 = sym h ∙ bit_is ∙ z in absurd (omega arith)))

    pub it_lacks : (bit_and (get_or words number 0 / 2 ^ get_or text p 0) 1 ≡ 1 → ⊥) → Lacks words text r p
    it_lacks n = record {
      byte = get_or text p 0;
      stands = stands;
      ascii = ascii;
      unset = two (bit_at (slice_index words r) (get_or text p 0)) (omega arith) (λ h. n (sym bit_is ∙ h));
    }

  -- what it says then
  pub lacking : {x : ℕ} → x < rule_count → CoversStarts (slice_index words r) x → Lacks words text r p → HasEnd text x p None
  lacking {x} low covers l =
      let within = slice_get_within text p l.byte (sym l.stands) in
      let is : get_or text p 0 ≡ l.byte = get_or_from_slice_get text p l.byte 0 (sym l.stands) in
      let fails = covers text p l.byte (drop (p + 1) text) (drop_more text p 0 within ∙ ap (λ z. z ∷ drop (p + 1) text) is) l.ascii (λ h. (let u = l.unset in absurd (omega arith))) in
      record { outcome = Fails; reads = fails.0; is = refl }

  module _ (low : r < rule_count) (covers : IsWord (slice_index words r) r) (l : Lacks words text r p) where
    with_option : {y : ℕ} → option_of (row_of r) ≡ Some y → y < rule_count → HasEnd text y p None
    with_option {y} e yl = lacking yl (subst (λ o. IsWordOf (slice_index words r) r o) e covers) l

    stays_by : {y : ℕ} → option_of (row_of r) ≡ Some y → y < rule_count → Stays words text r p
    stays_by {y} e yl = record { option = y; is = e; fails = with_option e yl; lacks = l }

    pub passed_opt : {y : ℕ} → y < rule_count → row_of r ≡ Opt y → HasEnd text r p (Some p) × Stays words text r p
    passed_opt {y} yl is = (rule_ends is (opt_absent webidl text y p (with_option (ap option_of is) yl)), stays_by (ap option_of is) yl)

    pub passed_many : {y : ℕ} → y < rule_count → row_of r ≡ Many y → HasEnd text r p (Some p) × Stays words text r p
    passed_many {y} yl is = (rule_ends is (many_ends webidl text y p (with_option (ap option_of is) yl)), stays_by (ap option_of is) yl)

    pub passed_list : {y t : ℕ} → y < rule_count → row_of r ≡ ListOf y t → HasEnd text r p (Some p) × Stays words text r p
    passed_list {y} {t} yl is = (rule_ends is (list_ends webidl text y t p (with_option (ap option_of is) yl)), stays_by (ap option_of is) yl)

    pub passed_tail : {y s : ℕ} → s < rule_count → row_of r ≡ Tail y s → HasEnd text r p (Some p) × Stays words text r p
    passed_tail {y} {s} sl is = (rule_ends is (tail_ends webidl text y s p (with_option (ap option_of is) sl)), stays_by (ap option_of is) sl)

    pub passed_none : option_of (row_of r) ≡ None → HasEnd text r p None
    passed_none e = lacking low (subst (λ o. IsWordOf (slice_index words r) r o) e covers) l

-- a way of another kind
pub no_option : (w : Way Word Parts) (row : Row) → IsWay w row → ((x : ℕ) → w ≡ way.Opt x → ⊥) → ((x : ℕ) → w ≡ way.Many x → ⊥) → ((x t : ℕ) → w ≡ way.List x t → ⊥) → ((x s : ℕ) → w ≡ way.Tail x s → ⊥) → option_of row ≡ None
no_option (way.Bytes b) row is a m l t = ap option_of is
no_option (way.OneOf c) row is a m l t = ap option_of is
no_option (way.NotNext c) row is a m l t = ap option_of is
no_option (way.Run c) row is a m l t = ap option_of is
no_option (way.Past b) row is a m l t = ap option_of is
no_option (way.Seq parts) row is a m l t = ap option_of is
no_option (way.First parts) row is a m l t = ap option_of is
no_option (way.Opt x) row is a m l t = absurd (a x refl)
no_option (way.Many x) row is a m l t = absurd (m x refl)
no_option (way.List x y) row is a m l t = absurd (l x y refl)
no_option (way.List1 x y) row is a m l t = ap option_of is.2
no_option (way.Tail x s) row is a m l t = absurd (t x s refl)
no_option (way.If parts k y) row is a m l t = ap option_of is.1

-- a row of another kind
pub none_of : (row : rows.Row) → ((x : ℕ) → row ≡ code.Opt x → ⊥) → ((x : ℕ) → row ≡ code.Many x → ⊥) → ((x t : ℕ) → row ≡ code.List x t → ⊥) → ((x s : ℕ) → row ≡ code.Tail x s → ⊥) → option_of (row_view row) ≡ None
none_of (code.Bytes b) a m l t = refl
none_of (code.OneOf c) a m l t = refl
none_of (code.NotNext c) a m l t = refl
none_of (code.Run c) a m l t = refl
none_of (code.Past b) a m l t = refl
none_of (code.Seq parts) a m l t = refl
none_of (code.First parts) a m l t = refl
none_of (code.Opt x) a m l t = absurd (a x refl)
none_of (code.Many x) a m l t = absurd (m x refl)
none_of (code.List x y) a m l t = absurd (l x y refl)
none_of (code.List1 x y) a m l t = refl
none_of (code.Tail x s) a m l t = absurd (t x s refl)
none_of (code.If parts k y) a m l t = refl

-- the same of a row by the table of all rows
pub none_of_row : (row : starts_rows.Row) → ((x : ℕ) → row ≡ starts_code.Opt x → ⊥) → ((x : ℕ) → row ≡ starts_code.Many x → ⊥) → ((x t : ℕ) → row ≡ starts_code.List x t → ⊥) → ((x s : ℕ) → row ≡ starts_code.Tail x s → ⊥) → option_of (starts_view row) ≡ None
none_of_row (starts_code.Bytes b) a m l t = refl
none_of_row (starts_code.OneOf c) a m l t = refl
none_of_row (starts_code.NotNext c) a m l t = refl
none_of_row (starts_code.Run c) a m l t = refl
none_of_row (starts_code.Past b) a m l t = refl
none_of_row (starts_code.Seq parts) a m l t = refl
none_of_row (starts_code.First parts) a m l t = refl
none_of_row (starts_code.Opt x) a m l t = absurd (a x refl)
none_of_row (starts_code.Many x) a m l t = absurd (m x refl)
none_of_row (starts_code.List x y) a m l t = absurd (l x y refl)
none_of_row (starts_code.List1 x y) a m l t = refl
none_of_row (starts_code.Tail x s) a m l t = absurd (t x s refl)
none_of_row (starts_code.If parts k y) a m l t = refl
