-- What ends a line comment: its LF, or the end of the text.
use Rattle.std.proofs.Common.{refl, sym, ap, ◌∙◌, subst, arith}
use Rattle.std.proofs.lemmas.List.{drop_all}
use Rattle.std.specs.Prelude.{◌≡◌, ℕ, suc, ◌+◌, List, [], ◌∷◌, ◌++◌, drop, length, Some, None}
use Rattle.memchr.specs.Find.{IsFirstByte, is_byte}
use Rattle.weedle_grammar.specs.declared.class.Class.TheVariants.{NotLineFeed}
use Rattle.weedle_grammar.specs.Rows.{take_bytes}
use Rattle.weedle_grammar.specs.written.Table.{Reads}
use Rattle.weedle_grammar.specs.written.Table.Trivia.{BYTES_LF, NOT_NEXT_ANY, RUN_NOT_LINE_FEED, LINE_END}
use Rattle.weedle_grammar.specs.Trees.{Fails}
use Rattle.weedle_grammar.proofs.FindFacts.{found_front, run_before, run_whole}
use Rattle.weedle_grammar.proofs.LeafFacts.{reads_bytes}
use Rattle.weedle_grammar.proofs.SilentRules.{took_first, took_second}
use Rattle.weedle_grammar.proofs.TriviaFacts.{given}
use Rattle.weedle_grammar.proofs.WordFacts.{look_took, run_took, word_split}
use Rattle.weedle_grammar.specs.Trivia.{Took}

-- the rest of the line, up to its end, and that end
abbrev pub Line : List ℕ → List ℕ → Type 0
Line s rest = (end : List ℕ) × Took RUN_NOT_LINE_FEED s [] end × Took LINE_END end [] rest

-- the first LF ends the line
pub line_with_end : {s : List ℕ} (i : ℕ) → IsFirstByte (is_byte 10) s (Some i) → {rest : List ℕ} → rest ≡ drop (i + 1) s → Line s rest
line_with_end {s} i p {rest} e =
    let next : suc i ≡ i + 1 = omega arith in
    let behind : drop (suc i) s ≡ rest = ap (λ (n : ℕ). drop n s) next ∙ sym e in
    let front : drop i s ≡ (10 ∷ []) ++ rest = found_front 10 s i p ∙ ap (λ (x : List ℕ). (10 ∷ []) ++ x) behind in (
      drop i s,
      run_took {r = RUN_NOT_LINE_FEED} (refl, refl) (run_before NotLineFeed 10 (λ b. refl) s i p) refl,
      took_first {r = LINE_END} refl refl (word_split BYTES_LF (refl, refl) front),
    )

no_line_feed : Reads [] BYTES_LF 0 Fails
no_line_feed = given {o = take_bytes (10 ∷ []) []} (reads_bytes {r = BYTES_LF} refl refl) refl

-- without an LF the text ends it
pub line_without_end : {s : List ℕ} → IsFirstByte (is_byte 10) s None → {rest : List ℕ} → rest ≡ drop (length s) s → Line s rest
line_without_end {s} p {rest} e =
    let none : drop (length s) s ≡ [] = drop_all (length s) s (omega arith) in
    let whole = run_took {r = RUN_NOT_LINE_FEED} (refl, refl) (run_whole NotLineFeed 10 (λ b. refl) s p) (sym none) in
    let end = took_second {r = LINE_END} refl refl no_line_feed (look_took NOT_NEXT_ANY refl refl refl) in
    ([], whole, subst (λ (x : List ℕ). Took LINE_END [] [] x) (sym (e ∙ none)) end)
