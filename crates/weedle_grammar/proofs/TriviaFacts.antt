-- Runs and slices, and trivia: line comments, whitespace and block comments, one after another.
use Rattle.std.proofs.Common.{refl, ap, ◌∙◌, subst, arith}
use Rattle.std.proofs.lemmas.List.{drop-drop, length-drop}
use Rattle.std.specs.Borrow.{Bor}
use Rattle.std.specs.Prelude.{slice_range, take, ◌≡◌, ◌≢◌, ℕ, zero, suc, ◌+◌, ◌<◌, ◌≤◌, List, [], ◌∷◌, drop, true, false, length, get_or, Option, Some, None}
use Rattle.std.specs.Str.{IsUtf8}
use Rattle.weedle_grammar.proofs.LeafFacts.{silent, cut}
use Rattle.weedle_grammar.proofs.RowFacts.{of_row, row_forth}
use Rattle.weedle_grammar.specs.Trivia.{Took, Trial}
use Rattle.weedle_grammar.proofs.Checked.{rank, ranked}
use Rattle.weedle_grammar.proofs.Exists.{advances}
use Rattle.weedle_grammar.proofs.Takes.{takes}
use Rattle.weedle_grammar.specs.Meaning.{Yields, ReadsRow, by_first, first_here, first_next, first_none, many_end, many_more}
use Rattle.weedle_grammar.specs.Rows.{Many, run_length, is_in}
use Rattle.weedle_grammar.specs.written.Table.{webidl, Reads}
use Rattle.weedle_grammar.specs.written.Table.Trivia.{LINE_COMMENT, BLANKS, BLOCK_COMMENT, PIECE, TRIVIA}
use Rattle.weedle_grammar.specs.Trees.{Tree, Fails, Gives}
use Rattle.weedle_grammar.specs.declared.class.Class.{Class}

-- so many bytes of the class, and no more, are the run at the front
pub run_is : (c : Class) (s : List ℕ) (n : ℕ) → n ≤ length s → ((k : ℕ) → k < n → is_in c (get_or s k 0) ≡ true)
    → (n < length s → is_in c (get_or s n 0) ≡ false) → n ≡ run_length c s
run_is c [] n h p q = omega (arith, h)
run_is c (t ∷ s) zero h p q = let f : is_in c t ≡ false = q (omega arith) in rw f refl
run_is c (t ∷ s) (suc n) h p q =
    let f : is_in c t ≡ true = p 0 (omega arith) in
    rw f (ap suc (run_is c s n (omega (arith, h)) (λ k l. p (suc k) (omega (arith, l))) (λ l. q (omega (arith, l)))))

-- a silent rule's outcome, by how many bytes it takes
pub given : {s : List ℕ} {r : ℕ} {o n : Option ℕ} → Reads s r 0 (silent o) → o ≡ n → Reads s r 0 (silent n)
given {s} {r} d e = subst (λ x. Reads s r 0 (silent x)) e d

-- the slice of the first n bytes
pub slice_front : (s : List ℕ) (n : ℕ) → slice_range s 0 n ≡ take n s
slice_front s n = grind arith

-- a line comment is a piece of trivia
pub piece_line : {s rest : List ℕ} → Took LINE_COMMENT s [] rest → Took PIECE s [] rest
piece_line h = record { place = h.place; reads = of_row refl (by_first (first_here h.reads refl) refl) refl; rest_is = h.rest_is }

-- whitespace is a piece, where no line comment is
pub piece_blanks : {s rest : List ℕ} → Reads s LINE_COMMENT 0 Fails → Took BLANKS s [] rest → Took PIECE s [] rest
piece_blanks a h =
    record { place = h.place; reads = of_row refl (by_first (first_next a (first_here h.reads refl)) refl) refl; rest_is = h.rest_is }

-- where neither a line comment nor whitespace is, a piece is a block comment
pub piece_block : (s : List ℕ) (o : Option (Bor (List ℕ))) → Reads s LINE_COMMENT 0 Fails → Reads s BLANKS 0 Fails
    → Trial BLOCK_COMMENT s o → Trial PIECE s o
piece_block s None a b h = of_row refl (by_first (first_next a (first_next b (first_next h (first_none refl)))) refl) refl
piece_block s (Some rest) a b h = record {
  place = h.place;
  reads = of_row refl (by_first (first_next a (first_next b (first_here h.reads refl))) refl) refl;
  rest_is = h.rest_is;
}

piece_takes : {s : List ℕ} {k : ℕ} {ts : List Tree} → Reads s PIECE 0 (Gives ts k) → 0 < k
piece_takes {s} d = advances webidl s rank takes ranked d refl

-- rest is what some pieces at the front of s leave
pub record Behind (s rest : List ℕ) : Type 0 where
  pub place : ℕ
  pub rest_is : rest ≡ drop place s
  pub on : (k : ℕ) → ReadsRow webidl rest (Many PIECE) 0 (Yields [] [] k) → ReadsRow webidl s (Many PIECE) 0 (Yields [] [] (place + k))

-- no piece leaves all of s
pub behind_none : (s : List ℕ) → Behind s s
behind_none s = record { place = 0; rest_is = refl; on = λ k d. let e : 0 + k ≡ k = omega arith in rw e d }

-- one more piece
pub behind_more : {s rest next : List ℕ} → Behind s rest → Took PIECE rest [] next → Behind s next
behind_more {s} {rest} {next} h t = record {
  place = h.place + t.place;
  rest_is = t.rest_is ∙ ap (λ (x : List ℕ). drop t.place x) h.rest_is ∙ drop-drop t.place h.place s;
  on = λ k d.
      let there : ReadsRow webidl (drop t.place rest) (Many PIECE) 0 (Yields [] [] k) =
      subst (λ (x : List ℕ). ReadsRow webidl x (Many PIECE) 0 (Yields [] [] k)) t.rest_is d in
      let far : t.place ≢ 0 = λ e. (let p = piece_takes t.reads in omega (arith, p, e)) in
      let all = h.on (t.place + k) (many_more t.reads far (row_forth rest t.place there) refl) in
      let e : h.place + (t.place + k) ≡ (h.place + t.place) + k = omega arith in
      subst (λ (n : ℕ). ReadsRow webidl s (Many PIECE) 0 (Yields [] [] n)) e all;
}

-- where no more piece follows, the pieces are the trivia
pub behind_all : {s rest : List ℕ} → Behind s rest → Reads rest PIECE 0 Fails → Took TRIVIA s [] rest
behind_all {s} {rest} h d = record {
  place = h.place + 0;
  reads = of_row refl (h.on 0 (many_end d refl)) refl;
  rest_is = h.rest_is ∙ ap (λ (n : ℕ). drop n s) (omega arith);
}

-- a piece takes a byte or more
pub piece_shorter : {rest next : List ℕ} → IsUtf8 rest → Took PIECE rest [] next → length next < length rest
piece_shorter {rest} {next} u t =
    let p = piece_takes t.reads in
    let b = (cut u t.reads).0 in
    omega (arith, ap length t.rest_is, length-drop t.place rest, p, b)
