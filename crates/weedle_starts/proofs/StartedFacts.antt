-- The first sets of all rules: the table has them.
use Rattle.std.proofs.Common.{◌^◌, ◌-◌, ◌≡◌, inl, inr, ℕ, zero, suc, ◌+◌, ◌<◌, ◌≤◌, List, [], ◌∷◌, length, Bool, true, false, refl, sym, subst, ◌∙◌, ap, arith}
use Rattle.std.specs.Prelude.{if◌then◌else◌, slice_index}
use Rattle.std.specs.Int.{bit_at}
use Rattle.std.proofs.lemmas.Bool.{cases_lt}
use Rattle.std.proofs.lemmas.Nat.Bits.{bit_at_ones}
use Rattle.weedle_grammar.specs.Entry.{Entry}
use Rattle.weedle_grammar.specs.Trees.{Tree, Outcome, Fails, Gives}
use Rattle.weedle_grammar.specs.written.Bound.{rule_count}
use Rattle.weedle_grammar.specs.written.Table.{table, webidl, row_of, Reads}
use Rattle.weedle_grammar.proofs.Entries.{all_pass, passes}
use Rattle.weedle_grammar.proofs.Takes.{takes}
use Rattle.weedle_grammar.proofs.Checked.{rank, ranked}
use Rattle.weedle_grammar.proofs.Exists.{advances}
use Rattle.weedle_grammar.proofs.GrammarFacts.{one}
use Rattle.weedle_rules.specs.Outcomes.{FailsAt}
use Rattle.weedle_starts.specs.Starts.{CoversStarts}
use Rattle.weedle_starts.specs.declared.written.first_sets.TheConstants.{FIRST_SETS}
use Rattle.weedle_starts.proofs.BeginFacts.{Begins, CoversTaken, AreTaken, word_covers}
use Rattle.weedle_starts.proofs.TriedFacts.{CoversTried, AreTriedHere, stands_in, word_tried}
use Rattle.weedle_starts.proofs.WordTests.{has_begins, it_begins}
use Rattle.weedle_starts.proofs.Words.{words}

-- each rule has its word: the test is computed here
abbrev has_word : ℕ → Entry → Bool
has_word r e = has_begins words e.row (slice_index words r)

words_here : all_pass has_word 0 table ≡ true
words_here = refl

begun : (r : ℕ) → Begins words (row_of r) (slice_index words r)
begun r = it_begins words (row_of r) (slice_index words r) (passes has_word (λ n k. refl) words_here r)

-- so each word has the bytes with which its rule begins, and those that make it try something further on
known : (n : ℕ) → n ≤ rule_count → AreTaken words n × AreTriedHere words n
known zero l = (λ x k. absurd (omega arith), λ x k. absurd (omega arith))
known (suc n) l =
    let before = known n (omega arith) in
    let here = begun n in
    let covers : CoversTaken (slice_index words n) n = word_covers words n (slice_index words n) before.0 here in
    let stays : CoversTried (slice_index words n) n = word_tried words n (slice_index words n) before.0 before.1 (omega arith) here in (
      λ x k. elim (cases_lt x n) [
        | inl m ↦ before.0 x m
        | inr m ↦ (let same : n ≡ x = omega arith in subst (λ z. CoversTaken (slice_index words z) z) same covers)
      ],
      λ x k. elim (cases_lt x n) [
        | inl m ↦ before.1 x m
        | inr m ↦ (let same : n ≡ x = omega arith in subst (λ z. CoversTried (slice_index words z) z) same stays)
      ],
    )

-- a rule fails where it gives nothing
fails_at : (text : List ℕ) (r p : ℕ) → p ≤ length text → ((ts : List Tree) (q : ℕ) → Reads text r p (Gives ts q) → ⊥) → FailsAt text r p
fails_at text r p fits n = let o = one text r p fits in by_outcome o.0 o.1
  where
    by_outcome : (o : Outcome) → Reads text r p o → FailsAt text r p
    by_outcome Fails d = d
    by_outcome (Gives ts q) d = absurd (n ts q d)

-- the first set of a rule: its word, or each byte where the rule may take none
abbrev set_of : Bool → ℕ → ℕ
set_of always word = if always then word else 2 ^ 128 - 1

set_covers : (n word : ℕ) (always : Bool) → takes n ≡ always → CoversTaken word n → CoversTried word n → CoversStarts (set_of always word) n
set_covers n word true t w h text p b rest is ascii lacks = (
  fails_at text n p (stands_in text p b rest is) (λ ts q d. lacks (w text p q b rest (ts, d) (advances webidl text rank takes ranked d t) is ascii)),
  h text p b rest is ascii lacks,
)
set_covers n word false t w h text p b rest is ascii lacks = absurd (lacks (bit_at_ones 128 b ascii))

-- the table has them: it is compared here
abbrev sets_from : ℕ → List ℕ → List ℕ
sets_from k [] = []
sets_from k (w ∷ ws) = set_of (takes k) w ∷ sets_from (suc k) ws

sets_here : FIRST_SETS ≡ sets_from 0 words
sets_here = refl

set_at : (ws : List ℕ) (k i : ℕ) → i < length ws → slice_index (sets_from k ws) i ≡ set_of (takes (k + i)) (slice_index ws i)
set_at [] k i l = absurd (omega arith)
set_at (w ∷ ws) k zero l = let q : k ≡ k + 0 = omega arith in ap (λ z. set_of (takes z) w) q
set_at (w ∷ ws) k (suc i) l =
    let q : suc k + i ≡ k + suc i = omega arith in
    set_at ws (suc k) i (omega arith) ∙ ap (λ z. set_of (takes z) (slice_index ws i)) q

words_long : length words ≡ rule_count
words_long = refl

pub sets_cover : (r : ℕ) → r < rule_count → CoversStarts (slice_index FIRST_SETS r) r
sets_cover r l =
    let all = known rule_count (omega arith) in
    let is : slice_index FIRST_SETS r ≡ set_of (takes r) (slice_index words r) = ap (λ z. slice_index z r) sets_here ∙ set_at words 0 r (omega (arith, words_long)) ∙ ap (λ z. set_of (takes z) (slice_index words r)) (let q : 0 + r ≡ r = omega arith in q) in
    subst (λ z. CoversStarts z r) (sym is) (set_covers r (slice_index words r) (takes r) refl (all.0 r l) (all.1 r l))
