-- A rule that keeps the text of its middle part.
use Rattle.std.specs.Prelude.{◌≡◌, ℕ, ◌+◌, ◌-◌, List, [], ◌∷◌, take, drop}
use Rattle.std.proofs.Common.{refl, ap, ◌∙◌, arith}
use Rattle.weedle_grammar.specs.Trivia.{Took, TookText}
use Rattle.weedle_grammar.proofs.RowFacts.{of_row, rest_add}
use Rattle.weedle_grammar.specs.Rows.{Seq}
use Rattle.weedle_grammar.specs.Trees.{Text, Fails, Gives}
use Rattle.weedle_grammar.specs.Meaning.{Kept, by_seq}
use Rattle.weedle_grammar.specs.written.Table.{row_of, shape_of, Reads}
use Rattle.weedle_grammar.specs.written.Table.Trivia.{TRIVIA}
use Rattle.weedle_grammar.proofs.Suffix.{then_on, then_fails_on, fails, nothing, no_node}

-- a rule that keeps the text of its middle part
module _ {s start : List ℕ} (a : Took TRIVIA s [] start) {r t : ℕ} (row : row_of r ≡ Seq (TRIVIA ∷ t ∷ TRIVIA ∷ [])) where
  pub no_kept : Reads start t 0 Fails → Reads s r 0 Fails
  no_kept d = no_node row (then_fails_on a.reads a.rest_is (fails d))

  pub kept_reads : shape_of r ≡ Kept 1 → {text rest end : List ℕ} → TookText t start text rest → Took TRIVIA rest [] end → Took r s (Text text ∷ []) end
  kept_reads shape {text} {rest} {end} m z =
      let there : rest ≡ drop (a.place + m.place) s = rest_add s start rest a.place m.place a.rest_is m.rest_is in
      let after : end ≡ drop ((a.place + m.place) + z.place) s = rest_add s rest end (a.place + m.place) z.place there z.rest_is in
      let size : m.place ≡ (a.place + m.place) - a.place = omega arith in
      let kept_is : text ≡ take ((a.place + m.place) - a.place) (drop a.place s) = m.text_is ∙ ap (λ (x : List ℕ). take m.place x) a.rest_is ∙ ap (λ (n : ℕ). take n (drop a.place s)) size in
      record {
        place = a.place + (m.place + z.place);
        reads = of_row row (by_seq (then_on a.reads a.rest_is (then_on m.reads m.rest_is (then_on z.reads z.rest_is nothing))) refl)
            (rw shape (ap (λ (x : List ℕ). Gives (Text x ∷ []) (a.place + (m.place + z.place))) kept_is));
        rest_is = after ∙ ap (λ (n : ℕ). drop n s) (omega arith);
      }
