-- Texts in quotes.
use Rattle.std.specs.Prelude.{◌≡◌, ℕ, suc, ◌+◌, ◌-◌, List, [], ◌∷◌, drop, take, Some, None, slice_range}
use Rattle.std.proofs.Common.{refl, sym, ap, ◌∙◌, subst, arith, drop-drop}
use Rattle.std.proofs.lemmas.List.{drop_all}
use Rattle.memchr.specs.Find.{IsFirstByte, is_byte}
use Rattle.weedle_grammar.specs.declared.class.Class.TheVariants.{NotQuote}
use Rattle.weedle_grammar.specs.Rows.{run_length, take_bytes}
use Rattle.weedle_grammar.specs.Trees.{Text, Fails, Gives}
use Rattle.weedle_grammar.specs.Meaning.{by_seq}
use Rattle.weedle_grammar.specs.written.Table.{Reads}
use Rattle.weedle_grammar.specs.written.Table.Trivia.{TRIVIA}
use Rattle.weedle_grammar.specs.written.Table.Leaves.{BYTES_QUOTE, RUN_NOT_QUOTE, STRING_LIT}
use Rattle.weedle_grammar.proofs.Suffix.{then_on, then_fails_on, then_fails, fails, nothing, no_node}
use Rattle.weedle_grammar.proofs.RowFacts.{of_row, rest_add}
use Rattle.weedle_grammar.proofs.LeafFacts.{reads_bytes, reads_run, takes_some}
use Rattle.weedle_grammar.proofs.TriviaFacts.{slice_front, given}
use Rattle.weedle_grammar.specs.Trivia.{Took}
use Rattle.weedle_grammar.proofs.FindFacts.{found_front, run_before, run_whole}

module _ {s start : List ℕ} (a : Took TRIVIA s [] start) where
  pub no_quote : Reads start BYTES_QUOTE 0 Fails → Reads s STRING_LIT 0 Fails
  no_quote d = no_node refl (then_fails_on a.reads a.rest_is (fails d))

  module _ {after : List ℕ} (q : Took BYTES_QUOTE start [] after) where
    pub open_quote : IsFirstByte (is_byte 34) after None → Reads s STRING_LIT 0 Fails
    open_quote p =
        let e : drop (run_length NotQuote after) after ≡ [] = drop_all (run_length NotQuote after) after (omega (arith, run_whole NotQuote 34 (λ b. refl) after p)) in
        let none : take_bytes (34 ∷ []) (drop (run_length NotQuote after) after) ≡ None = rw e refl in
        no_node refl (then_fails_on a.reads a.rest_is (then_fails_on q.reads q.rest_is
        (then_fails (reads_run {s = after} {r = RUN_NOT_QUOTE} {c = NotQuote} refl refl) (fails (given (reads_bytes {r = BYTES_QUOTE} refl refl) none)))))

    module _ (i : ℕ) (p : IsFirstByte (is_byte 34) after (Some i)) where
      inside : Reads after RUN_NOT_QUOTE 0 (Gives [] i)
      inside = subst (λ (n : ℕ). Reads after RUN_NOT_QUOTE 0 (Gives [] n)) (sym (run_before NotQuote 34 (λ b. refl) after i p)) (reads_run {s = after} {r = RUN_NOT_QUOTE} {c = NotQuote} refl refl)

      closing : Reads (drop i after) BYTES_QUOTE 0 (Gives [] 1)
      closing = given (reads_bytes {r = BYTES_QUOTE} refl refl) (takes_some (34 ∷ []) (drop i after) (drop (suc i) after) (found_front 34 after i p))

      pub quoted : {text rest end : List ℕ} → text ≡ slice_range after 0 i → rest ≡ drop (i + 1) after → Took TRIVIA rest [] end → Took STRING_LIT s (Text text ∷ []) end
      quoted {text} {rest} {end} t r z =
          let here : after ≡ drop (a.place + q.place) s = rest_add s start after a.place q.place a.rest_is q.rest_is in
          let there : rest ≡ drop ((a.place + q.place) + (i + 1)) s = rest_add s after rest (a.place + q.place) (i + 1) here r in
          let behind : end ≡ drop (((a.place + q.place) + (i + 1)) + z.place) s = rest_add s rest end ((a.place + q.place) + (i + 1)) z.place there z.rest_is in
          let step : rest ≡ drop 1 (drop i after) = r ∙ sym (drop-drop 1 i after) in
          let size : i ≡ (a.place + (q.place + i)) - (a.place + q.place) = omega arith in
          let kept_is : text ≡ take ((a.place + (q.place + i)) - (a.place + q.place)) (drop (a.place + q.place) s) = t ∙ slice_front after i ∙ ap (λ (x : List ℕ). take i x) here ∙ ap (λ (n : ℕ). take n (drop (a.place + q.place) s)) size in
          record {
            place = a.place + (q.place + (i + (1 + z.place)));
            reads = of_row refl (by_seq (then_on a.reads a.rest_is (then_on q.reads q.rest_is (then_on inside refl (then_on closing step (then_on z.reads z.rest_is nothing))))) refl)
                (ap (λ (x : List ℕ). Gives (Text x ∷ []) (a.place + (q.place + (i + (1 + z.place))))) kept_is);
            rest_is = behind ∙ ap (λ (n : ℕ). drop n s) (omega arith);
          }
