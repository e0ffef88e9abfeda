-- Identifiers.
use Rattle.std.proofs.Common.{refl, ap, ◌∙◌, arith}
use Rattle.std.specs.Prelude.{◌≡◌, ℕ, ◌+◌, ◌-◌, List, [], ◌∷◌, drop, take}
use Rattle.weedle_grammar.proofs.RowFacts.{of_row, rest_add}
use Rattle.weedle_grammar.proofs.SilentRules.{lost}
use Rattle.weedle_grammar.specs.Trivia.{Took, TookText}
use Rattle.weedle_grammar.proofs.Suffix.{then_on, fails, nothing, no_node}
use Rattle.weedle_grammar.specs.Meaning.{by_seq}
use Rattle.weedle_grammar.specs.written.Table.{Reads}
use Rattle.weedle_grammar.specs.written.Table.Leaves.{OPT_BYTES_UNDERSCORE, IDENTIFIER_TEXT, IDENTIFIER}
use Rattle.weedle_grammar.specs.written.Table.Trivia.{TRIVIA}
use Rattle.weedle_grammar.specs.Trees.{Text, Fails, Gives}

-- An identifier: trivia, an underscore where there is one, the text that is kept, trivia.
module _ {s start : List ℕ} (a : Took TRIVIA s [] start) where
  module _ {body : List ℕ} (u : Took OPT_BYTES_UNDERSCORE start [] body) where
    -- no identifier without a letter
    pub no_identifier : Reads body IDENTIFIER_TEXT 0 Fails → Reads s IDENTIFIER 0 Fails
    no_identifier d = no_node refl (lost a (lost u (fails d)))

    -- an identifier, its text kept without the underscore
    pub identifier_reads : {text rest end : List ℕ} → TookText IDENTIFIER_TEXT body text rest → Took TRIVIA rest [] end
        → Took IDENTIFIER s (Text text ∷ []) end
    identifier_reads {text} {rest} {end} t z =
        let here : body ≡ drop (a.place + u.place) s = rest_add s start body a.place u.place a.rest_is u.rest_is in
        let there : rest ≡ drop ((a.place + u.place) + t.place) s = rest_add s body rest (a.place + u.place) t.place here t.rest_is in
        let after : end ≡ drop (((a.place + u.place) + t.place) + z.place) s =
        rest_add s rest end ((a.place + u.place) + t.place) z.place there z.rest_is in
        let size : t.place ≡ (a.place + (u.place + t.place)) - (a.place + u.place) = omega arith in
        let kept_is : text ≡ take ((a.place + (u.place + t.place)) - (a.place + u.place)) (drop (a.place + u.place) s) =
        t.text_is ∙ ap (λ (x : List ℕ). take t.place x) here ∙ ap (λ (n : ℕ). take n (drop (a.place + u.place) s)) size in
        record {
          place = a.place + (u.place + (t.place + z.place));
          reads = of_row refl
              (by_seq (then_on a.reads a.rest_is (then_on u.reads u.rest_is (then_on t.reads t.rest_is (then_on z.reads z.rest_is nothing)))) refl)
              (ap (λ (x : List ℕ). Gives (Text x ∷ []) (a.place + (u.place + (t.place + z.place)))) kept_is);
          rest_is = after ∙ ap (λ (n : ℕ). drop n s) (omega arith);
        }
