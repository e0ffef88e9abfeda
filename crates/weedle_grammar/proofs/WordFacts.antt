-- Words, one byte of a class and runs of them.
use Rattle.std.specs.Prelude.{◌≡◌, ℕ, suc, ◌-◌, List, [], ◌∷◌, ◌++◌, drop, Bool, true, false, length, ◌&&◌, nat_lt, Option, Some, None, MatchOption}
use Rattle.std.specs.Borrow.{Bor}
use Rattle.std.specs.Str.{IsCharBoundary, IsUtf8}
use Rattle.std.specs.Str.Pattern.{LacksTextAt, FindsTextPrefix, StripsPrefix}
use Rattle.std.proofs.Common.{refl, sym, ap, ◌∙◌, arith}
use Rattle.std.proofs.Math.Seq.{drop-append_seam}
use Rattle.std.proofs.lemmas.Bool.{lt-ltb}
use Rattle.std.proofs.lemmas.List.{length-drop}
use Rattle.std.proofs.lemmas.Str.{IsUtf8-drop}
use Rattle.weedle_grammar.specs.declared.class.Class.{Class}
use Rattle.weedle_grammar.specs.Rows.{NotNext, take_bytes, take_one, take_not_next, run_length, is_in}
use Rattle.weedle_grammar.specs.Meaning.{Silent}
use Rattle.weedle_grammar.specs.Trees.{Tree, Fails, Gives}
use Rattle.weedle_grammar.specs.written.Table.{row_of, shape_of, Reads}
use Rattle.weedle_grammar.proofs.LeafFacts.{reads_bytes, reads_one, reads_not_next, reads_run, cut, takes_none, takes_some}
use Rattle.weedle_grammar.specs.Trivia.{Took, Trial, is_next}
use Rattle.weedle_grammar.proofs.Leaves.{both}
use Rattle.weedle_grammar.proofs.TriviaFacts.{given}
use Rattle.weedle_grammar.specs.Scans.{IsWord, IsOne, IsRun}

second_false : (a b : Bool) → a ≡ true → a && b ≡ false → b ≡ false
second_false true b e h = h
second_false false b e h = cc

-- the next byte, where there is one, is in the class or it isn't
next_in : (c : Class) (t : ℕ) (s : List ℕ) → is_next c (t ∷ s) ≡ true → is_in c t ≡ true
next_in c t s h = (both (nat_lt 0 (suc (length s))) (is_in c t) h).1

next_out : (c : Class) (t : ℕ) (s : List ℕ) → is_next c (t ∷ s) ≡ false → is_in c t ≡ false
next_out c t s h = second_false (nat_lt 0 (suc (length s))) (is_in c t) (lt-ltb 0 (suc (length s)) (omega arith)) h

-- A word.
front : (b s after : List ℕ) (n : ℕ) → n ≡ length b → s ≡ b ++ drop n s → after ≡ drop n s
    → (take_bytes b s ≡ Some (length b)) × (after ≡ drop (length b) s)
front b s after n h g a = (takes_some b s (drop n s) g, a ∙ ap (λ (m : ℕ). drop m s) h)

module _ (r : ℕ) {b : List ℕ} (is : IsWord r b) {s : List ℕ} where
  -- without the bytes the rule fails
  pub word_lacks : LacksTextAt b s 0 → Reads s r 0 Fails
  word_lacks n = given (reads_bytes is.0 is.1) (takes_none b s n)

  -- what follows the bytes follows what the rule took
  pub word_took : {rest : List ℕ} → StripsPrefix (FindsTextPrefix b) s rest → Took r s [] rest
  word_took {rest} h =
      let m = front b s rest h.0 h.1.0 h.1.1 h.2 in
      record { place = length b; reads = given (reads_bytes is.0 is.1) m.0; rest_is = m.1 }

  -- the same, where the text is the bytes and a rest
  pub word_split : {rest : List ℕ} → s ≡ b ++ rest → Took r s [] rest
  word_split {rest} e = record {
    place = length b;
    reads = given (reads_bytes is.0 is.1) (takes_some b s rest e);
    rest_is = sym (ap (λ (t : List ℕ). drop (length b) t) e ∙ drop-append_seam b rest);
  }

-- a word is there or it isn't
pub word_trial : (r : ℕ) {b : List ℕ} (s : List ℕ) → IsWord r b → (o : Option (Bor (List ℕ)))
    → MatchOption o (LacksTextAt b s 0) (λ x. StripsPrefix (FindsTextPrefix b) s x.now) → Trial r s o
word_trial r s is None n = word_lacks r is n
word_trial r s is (Some rest) h = word_took r is h

-- One byte of a class.
one_none : (c : Class) (s : List ℕ) → is_next c s ≡ false → take_one c s ≡ None
one_none c [] h = refl
one_none c (t ∷ s) h = rw (next_out c t s h) refl

one_some : (c : Class) (s : List ℕ) → is_next c s ≡ true → take_one c s ≡ Some 1
one_some c [] h = cc
one_some c (t ∷ s) h = rw (next_in c t s h) refl

module _ {r : ℕ} {c : Class} (is : IsOne r c) {s : List ℕ} where
  -- without a next byte of the class the rule fails
  pub one_lacks : is_next c s ≡ false → Reads s r 0 Fails
  one_lacks h = given (reads_one is.0 is.1) (one_none c s h)

  one_reads : is_next c s ≡ true → Reads s r 0 (Gives [] 1)
  one_reads h = given (reads_one is.0 is.1) (one_some c s h)

  -- with one it takes it
  pub one_took : is_next c s ≡ true → {rest : List ℕ} → rest ≡ drop 1 s → Took r s [] rest
  one_took h e = record { place = 1; reads = one_reads h; rest_is = e }

-- behind it a character begins
pub one_cut : (r : ℕ) {c : Class} → IsOne r c → {s : List ℕ} → is_next c s ≡ true → IsUtf8 s → IsCharBoundary s 1
one_cut r is h u = cut {r = r} u (one_reads is h)

-- A look at the next byte.
look_none : (c : Class) (s : List ℕ) → is_next c s ≡ true → take_not_next c s ≡ None
look_none c [] h = cc
look_none c (t ∷ s) h = rw (next_in c t s h) refl

look_some : (c : Class) (s : List ℕ) → is_next c s ≡ false → take_not_next c s ≡ Some 0
look_some c [] h = refl
look_some c (t ∷ s) h = rw (next_out c t s h) refl

module _ (r : ℕ) {c : Class} (row : row_of r ≡ NotNext c) (shape : shape_of r ≡ Silent) {s : List ℕ} where
  -- with a next byte of the class the rule fails
  pub look_fails : is_next c s ≡ true → Reads s r 0 Fails
  look_fails h = given (reads_not_next row shape) (look_none c s h)

  -- without one it takes nothing
  pub look_took : is_next c s ≡ false → Took r s [] s
  look_took h = record { place = 0; reads = given (reads_not_next row shape) (look_some c s h); rest_is = refl }

-- A run of bytes of a class.
module _ {r : ℕ} {c : Class} (is : IsRun r c) {s : List ℕ} where
  -- the rule takes the run at the front
  pub run_took : {n : ℕ} → n ≡ run_length c s → {rest : List ℕ} → rest ≡ drop n s → Took r s [] rest
  run_took {n} h {rest} e = record { place = run_length c s; reads = reads_run is.0 is.1; rest_is = e ∙ ap (λ (k : ℕ). drop k s) h }

-- behind the run a character begins
pub run_cut : (r : ℕ) {c : Class} → IsRun r c → {s : List ℕ} {n : ℕ} → n ≡ run_length c s → IsUtf8 s → IsCharBoundary s n
run_cut r is h u = rw h (cut u (reads_run {r = r} is.0 is.1))

-- What a rule took, by what it left.
module _ {r : ℕ} {s rest : List ℕ} (u : IsUtf8 s) (h : Took r s [] rest) where
  taken_place : h.place ≡ length s - length rest
  taken_place = let b = (cut u h.reads).0 in omega (arith, ap length h.rest_is, length-drop h.place s, b)

  -- where the rule left rest, a character begins
  pub taken_cut : IsCharBoundary s (length s - length rest)
  taken_cut = rw (← taken_place) (cut {r = r} u h.reads)

-- what follows a rule is text
pub rest_utf8 : {r : ℕ} {s rest : List ℕ} {ts : List Tree} → IsUtf8 s → Took r s ts rest → IsUtf8 rest
rest_utf8 {r} {s} u h = rw h.rest_is (IsUtf8-drop s h.place u (cut {r = r} u h.reads))
