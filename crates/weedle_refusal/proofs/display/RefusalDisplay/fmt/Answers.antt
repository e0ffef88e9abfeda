use Rattle.std.proofs.Common.{true, [], get_or, append-nil, ◌≡◌, ◌∙◌, ◌<◌, ◌-◌, ◌++◌, ℕ, List, length, refl, sym, ap, subst, take, arith}
use Rattle.std.proofs.lemmas.List.{length-take-le}
use Rattle.std.specs.Prelude.{codes, decimal, map}
use Rattle.std.proofs.Output.{has_written_append, has_written_of_eq}
use Rattle.weedle_refusal.specs.Texts.{at_most_six, in_a_row, word_text}
use Rattle.weedle_refusal.specs.declared.expected.Expected.{Expected}
use Rattle.weedle_refusal.specs.declared.expected.Expected.TheVariants as word
use Rattle.weedle_refusal.proofs.TextFacts.{from_word, onward, end_none, end_some, finished}
use Rattle.weedle_refusal.proofs.display.RefusalDisplay.fmt.Goals as goal

pub loop-at-preserved : goal.loop-at-preserved
loop-at-preserved g c = λ plain.
    let so_far = c.loop-at.invariant plain in
    let before = c.in_ok-write_str-2.ensures.writes so_far.1.plain (refl {a = true}) in
    let written = c.in_ok-write.ensures.writes before.plain (refl {a = true}) in
    let shown = c.min-shown.result in
    let words = take shown c.deref.result.now in
    let more = c.len-2.result - shown in
    let whole : shown ≡ length words = sym (length-take-le shown c.deref.result.now (omega (arith, ap length c.deref.ensures.value))) in
    let low : c.loop-at.at < shown = omega arith in
    let next = from_word words more c.loop-at.at shown word.Type low whole in
    let text : List ℕ = word_text (get_or words c.loop-at.at word.Type) in (
      so_far.0 ++ (c.between.result.now ++ text),
      has_written_append _ _ _ _ _ _ so_far.1 (has_written_append _ _ _ _ _ _ before written),
      onward so_far.0 _ c.between.result.now text _ _ _ c.between.ensures next so_far.2,
    )

pub returns-else-more-gt0-clause-writes : goal.returns-else-more-gt0-clause-writes
returns-else-more-gt0-clause-writes g c = λ plain ok.
    let start = c.in_ok-write_str.ensures.writes plain (refl {a = true}) in
    let so_far = c.loop-at.invariant start.plain in
    let shown = c.min-shown.result in
    let items = c.deref.result.now in
    let more = c.len-2.result - shown in
    let same : length items ≡ length c.args.self.now.expected.items = ap length c.deref.ensures.value in
    let whole = finished items shown more c.loop-at.at so_far.0 [] (omega arith) (omega arith) (omega arith) (end_none more (omega arith)) so_far.2 in
    let E : List Expected → Type 0 = λ words. so_far.0 ++ [] ≡ in_a_row (at_most_six (map word_text words)) in
    has_written_of_eq _ _ _ _ _ (ap (λ (t : List ℕ). codes "expected " ++ t) (sym (append-nil so_far.0) ∙ subst E c.deref.ensures.value whole)) (has_written_append _ _ _ _ _ _ start so_far.1)

pub returns-in_ok-write-2-clause-writes : goal.returns-in_ok-write-2-clause-writes
returns-in_ok-write-2-clause-writes g c = λ plain ok.
    let start = c.in_ok-write_str.ensures.writes plain (refl {a = true}) in
    let so_far = c.loop-at.invariant start.plain in
    let shown = c.min-shown.result in
    let items = c.deref.result.now in
    let more = c.len-2.result - shown in
    let last = c.in_ok-write-2.ensures.writes so_far.1.plain (refl {a = true}) in
    let same : length items ≡ length c.args.self.now.expected.items = ap length c.deref.ensures.value in
    let whole = finished items shown more c.loop-at.at so_far.0 _ (omega arith) (omega arith) (omega arith) (end_some more (omega arith)) so_far.2 in
    let E : List Expected → Type 0 = λ words. so_far.0 ++ (codes " or " ++ (decimal more ++ codes " more")) ≡ in_a_row (at_most_six (map word_text words)) in
    has_written_of_eq _ _ _ _ _ (ap (λ (t : List ℕ). codes "expected " ++ t) (subst E c.deref.ensures.value whole)) (has_written_append _ _ _ _ _ _ start (has_written_append _ _ _ _ _ _ so_far.1 last))
