-- The first place of a byte or of a text, what precedes it, and what is read past it.
use Rattle.std.specs.Prelude.{◌≡◌, ℕ, suc, ◌+◌, ◌<◌, List, [], ◌∷◌, drop, ◌++◌, get_or, length, Some, None, Bool, true, false, not, ◌==◌}
use Rattle.std.specs.Str.{IsCharBoundary, IsUtf8}
use Rattle.std.proofs.Common.{refl, ap, ◌∙◌, drop-cons, arith}
use Rattle.std.proofs.lemmas.Bool.{eqb-true}
use Rattle.std.proofs.lemmas.Str.{IsCharBoundary-after_ascii}
use Rattle.memchr.specs.Find.{IsFirstByte, FindsNeedle, is_byte}
use Rattle.weedle_grammar.specs.declared.class.Class.{Class}
use Rattle.weedle_grammar.specs.Rows.{Past, is_in, run_length}
use Rattle.weedle_grammar.specs.Meaning.{Silent}
use Rattle.weedle_grammar.specs.Trees.{Fails}
use Rattle.weedle_grammar.specs.written.Table.{row_of, shape_of, Reads}
use Rattle.weedle_grammar.specs.Trivia.{Took}
use Rattle.weedle_grammar.proofs.LeafFacts.{reads_past, cut}
use Rattle.weedle_grammar.proofs.FirstPlace.{found_byte, nowhere_byte, found_past, nowhere_past}
use Rattle.weedle_grammar.proofs.TriviaFacts.{given, run_is}

-- the byte is at the place where it was found
pub found_is : (byte : ℕ) (s : List ℕ) (i : ℕ) → IsFirstByte (is_byte byte) s (Some i) → get_or s i 0 ≡ byte
found_is byte s i p = eqb-true (get_or s i 0) byte p.1

-- from the place where it was found on are the byte and what follows it
pub found_front : (byte : ℕ) (s : List ℕ) (i : ℕ) → IsFirstByte (is_byte byte) s (Some i) → drop i s ≡ (byte ∷ []) ++ drop (suc i) s
found_front byte s i p = drop-cons s i 0 p.0.high ∙ ap (λ (b : ℕ). b ∷ drop (suc i) s) (found_is byte s i p)

-- behind an ASCII byte that was found, a character begins
pub behind_cut : (byte : ℕ) (s : List ℕ) (i : ℕ) → byte < 128 → IsUtf8 s → IsFirstByte (is_byte byte) s (Some i) → IsCharBoundary s (i + 1)
behind_cut byte s i low u p = let e = found_is byte s i p in IsCharBoundary-after_ascii s i u p.0.high (rw e low)

not_so : (b : Bool) → (b ≡ true → ⊥) → not b ≡ true
not_so true h = absurd (h refl)
not_so false h = refl

so : (b : Bool) → b ≡ true → not b ≡ false
so b h = rw h refl

-- A class that has every byte except for one.
module _ (class : Class) (byte : ℕ) (but : (b : ℕ) → is_in class b ≡ not (b == byte)) (s : List ℕ) where
  -- what precedes the first such byte is the run at the front
  pub run_before : (i : ℕ) → IsFirstByte (is_byte byte) s (Some i) → i ≡ run_length class s
  run_before i p =
      run_is class s i (omega (arith, p.0.high))
      (λ k l. but (get_or s k 0) ∙ not_so (get_or s k 0 == byte) (p.0.before k (omega arith) l))
      (λ l. but (get_or s i 0) ∙ so (get_or s i 0 == byte) p.1)

  -- where there is none, the run is the whole text
  pub run_whole : IsFirstByte (is_byte byte) s None → length s ≡ run_length class s
  run_whole p =
      run_is class s (length s) (omega arith)
      (λ k l. but (get_or s k 0) ∙ not_so (get_or s k 0 == byte) (p k (omega arith) l))
      (λ l. absurd (omega (arith, l)))

-- Everything past the first place of a byte, or of a text.
module _ (r : ℕ) {byte : ℕ} (row : row_of r ≡ Past (byte ∷ [])) (shape : shape_of r ≡ Silent) {s : List ℕ} where
  -- a byte that is nowhere
  pub byte_lacks : IsFirstByte (is_byte byte) s None → Reads s r 0 Fails
  byte_lacks p = given (reads_past row shape) (nowhere_byte byte s p)

  -- a byte that was found at place i
  pub byte_took : {i : ℕ} → IsFirstByte (is_byte byte) s (Some i) → {rest : List ℕ} → rest ≡ drop (i + 1) s → Took r s [] rest
  byte_took {i} p e = record { place = i + 1; reads = given (reads_past row shape) (found_byte byte s i p); rest_is = e }

module _ (r : ℕ) {b : List ℕ} (row : row_of r ≡ Past b) (shape : shape_of r ≡ Silent) {s : List ℕ} where
  -- a text that is nowhere
  pub needle_lacks : FindsNeedle s b 0 None → Reads s r 0 Fails
  needle_lacks p = given (reads_past row shape) (nowhere_past b s p)

  -- a text that was found at place i
  pub needle_took : {i : ℕ} → FindsNeedle s b 0 (Some i) → {rest : List ℕ} → rest ≡ drop (i + length b) s → Took r s [] rest
  needle_took {i} p e = record { place = i + length b; reads = given (reads_past row shape) (found_past b s i p); rest_is = e }

  -- behind a text that was found, a character begins
  pub needle_cut : {i : ℕ} → FindsNeedle s b 0 (Some i) → IsUtf8 s → IsCharBoundary s (i + length b)
  needle_cut {i} p u = cut {r = r} u (given (reads_past row shape) (found_past b s i p))
