-- Where the word of a rule lacks the byte at a place, all that it tries is tried there.
use Rattle.std.proofs.Common.{◌≡◌, inl, inr, ℕ, suc, ◌-◌, ◌<◌, ◌≤◌, List, [], ◌∷◌, length, drop, true, sym, subst, ◌∙◌, ap, arith}
use Rattle.std.specs.Prelude.{◌&&◌, ◌||◌, nat_lt, slice_index}
use Rattle.std.specs.Int.{bit_at}
use Rattle.std.proofs.lemmas.Bool.{cases_lt}
use Rattle.std.proofs.lemmas.List.{length-drop}
use Rattle.weedle_grammar.specs.written.Bound.{rule_count}
use Rattle.weedle_grammar.specs.Rows.{Row, Bytes, OneOf, NotNext, Run, Past, Seq, First, Opt, Many, ListOf, List1, Tail, If}
use Rattle.weedle_grammar.specs.Meaning.{last_end}
use Rattle.weedle_grammar.specs.written.Table.{webidl, row_of}
use Rattle.weedle_grammar.proofs.Leaves.{both, one_of}
use Rattle.weedle_grammar.proofs.Ranked.{is_low, low_parts}
use Rattle.weedle_grammar.proofs.Takes.{takes}
use Rattle.weedle_grammar.proofs.Checked.{rank, ranked}
use Rattle.weedle_grammar.proofs.Exists.{advances, seq_grows}
use Rattle.weedle_rules.proofs.PartEnds.{below}
use Rattle.weedle_rules.specs.Outcomes.{EndsAt}
use Rattle.weedle_starts.specs.Tries.{SameAttempt, TriesInTurn, TriesByChoice, TriesListed, RowTries, Leads, itself, on, TriesHere}
use Rattle.weedle_starts.proofs.ReadFacts.{ends_after}
use Rattle.weedle_starts.proofs.LaterFacts.{tries_later}
use Rattle.weedle_starts.proofs.BeginFacts.{IsWithin, CoversParts, AllWithin, Begins, AreTaken, not_true, leads}

-- a place with a byte is in the text
pub stands_in : (text : List ℕ) (p b : ℕ) (rest : List ℕ) → drop p text ≡ b ∷ rest → p ≤ length text
stands_in text p b rest is =
    let l : length text - p ≡ suc (length rest) = sym (length-drop p text) ∙ ap length is in
    omega arith

module _ (text : List ℕ) (r p b : ℕ) (rest words : List ℕ) (known : AreTaken words r) (is : drop p text ≡ b ∷ rest) (ascii : b < 128) where
  abbrev Lacks : ℕ → Type 0
  Lacks word = bit_at word b ≡ 1 → ⊥

  -- tried at p, by a rule whose word lacks the byte
  abbrev Stays : ℕ → ℕ → Type 0
  Stays x q = (q ≡ p) × Lacks (slice_index words x)

  -- such a rule takes nothing
  unmoved : (x e : ℕ) → x < r → Lacks (slice_index words x) → EndsAt text x p e → e ≡ p
  unmoved x e low n h =
      let after : p ≤ e = ends_after h in
      elim (cases_lt p e) [
        | inl l ↦ absurd (n (known x low text p e b rest h l is ascii))
        | inr l ↦ omega arith
      ]

  without : (word part : ℕ) → Lacks word → IsWithin part word → Lacks part
  without word part n w h = n (w b h)

  alone : (x q y : ℕ) → SameAttempt y p x q → Lacks (slice_index words y) → Stays x q
  alone x q y i n = (i.1, subst (λ z. Lacks (slice_index words z)) (sym i.0) n)

  in_turn : (rs : List ℕ) (word : ℕ) → Lacks word → low_parts rank takes r rs ≡ true → CoversParts words word rs → (x q : ℕ) → TriesInTurn text rs p x q → Stays x q
  in_turn [] word n low w x q t = absurd t
  in_turn (s ∷ rs) word n low w x q (inl i) = alone x q s i (without word (slice_index words s) n w.0)
  in_turn (s ∷ rs) word n low w x q (inr (e, d, t)) =
      let stay : e ≡ p = unmoved s e (below _ _ (both _ _ low).0) (without word (slice_index words s) n w.0) d in
      elim (one_of (takes s) (low_parts rank takes r rs) (both _ _ low).1) [
        | inl k ↦ absurd (let f : p < e = advances webidl text rank takes ranked d.1 k in omega arith)
        | inr k ↦ in_turn rs word n k (w.1 (not_true (takes s) (λ h. let f : p < e = advances webidl text rank takes ranked d.1 h in omega arith))) x q (subst (λ z. TriesInTurn text rs z x q) stay t)
      ]

  by_choice : (rs : List ℕ) (word : ℕ) → Lacks word → AllWithin words word rs → (x q : ℕ) → TriesByChoice text rs p x q → Stays x q
  by_choice [] word n w x q t = absurd t
  by_choice (s ∷ rs) word n w x q (inl i) = alone x q s i (without word (slice_index words s) n w.0)
  by_choice (s ∷ rs) word n w x q (inr (f, t)) = by_choice rs word n w.1 x q t

  listed : (y t word : ℕ) → Lacks word → nat_lt (rank y) r && (takes y || nat_lt (rank t) r) ≡ true → IsWithin (slice_index words y) word × IsWithin (slice_index words t) word → (x q : ℕ) → TriesListed text y t p x q → Stays x q
  listed y t word n low w x q (inl i) = alone x q y i (without word (slice_index words y) n w.0)
  listed y t word n low w x q (inr (e, d, i)) =
      let stay : e ≡ p = unmoved y e (below _ _ (both _ _ low).0) (without word (slice_index words y) n w.0) d in
      alone x q t (i.0, i.1 ∙ stay) (without word (slice_index words t) n w.1)

  row_stays : (row : Row) (word : ℕ) → is_low rank takes r row ≡ true → Begins words row word → Lacks word → (x q : ℕ) → RowTries text row r p x q → Stays x q
  row_stays (Seq parts) word low w n x q t = in_turn parts word n low w x q t
  row_stays (First parts) word low w n x q t = by_choice parts word n w x q t
  row_stays (Opt y) word low w n x q t = alone x q y t (without word (slice_index words y) n w)
  row_stays (Many y) word low w n x q (inl i) = alone x q y i (without word (slice_index words y) n w)
  row_stays (Many y) word low w n x q (inr (e, d, ne, i)) = absurd (ne (unmoved y e (below _ _ low) (without word (slice_index words y) n w) d))
  row_stays (ListOf y t) word low w n x q k = listed y t word n low w x q k
  row_stays (List1 y t) word low w n x q k = listed y t word n low w x q k
  row_stays (Tail y s) word low w n x q (inl i) = alone x q s i (without word (slice_index words s) n w)
  row_stays (Tail y s) word low w n x q (inr (e, d, ne, i)) = absurd (ne (unmoved s e (below _ _ low) (without word (slice_index words s) n w) d))
  row_stays (If parts k y) word low w n x q (inl t) = in_turn parts word n (both _ _ low).0 w.0 x q t
  row_stays (If parts k y) word low w n x q (inr (e, (pieces, d, g, z), i)) =
      let after : p ≤ last_end p pieces = seq_grows webidl text d in
      elim (cases_lt p (last_end p pieces)) [
        | inl l ↦ absurd (n (leads text r p (last_end p pieces) b rest words known l is ascii parts pieces word d l (both _ _ low).0 w.0))
        | inr l ↦ (let stay : last_end p pieces ≡ p = omega arith in alone x q y (i.0, i.1 ∙ z ∙ stay) (without word (slice_index words y) n w.1))
      ]
  row_stays (Bytes c) word low w n x q t = absurd t
  row_stays (OneOf c) word low w n x q t = absurd t
  row_stays (NotNext c) word low w n x q t = absurd t
  row_stays (Run c) word low w n x q t = absurd t
  row_stays (Past c) word low w n x q t = absurd t

-- the word has the bit of each byte that makes rule r try something further on
abbrev pub CoversTried : ℕ → ℕ → Type 0
CoversTried word r = (text : List ℕ) (p b : ℕ) (rest : List ℕ) → drop p text ≡ b ∷ rest → b < 128 → (bit_at word b ≡ 1 → ⊥) → TriesHere text r p

-- so far known: the words of the rules below n
abbrev pub AreTriedHere : List ℕ → ℕ → Type 0
AreTriedHere words n = (x : ℕ) → x < n → CoversTried (slice_index words x) x

pub word_tried : (words : List ℕ) (n word : ℕ) → AreTaken words n → AreTriedHere words n → n < rule_count → Begins words (row_of n) word → CoversTried word n
word_tried words n word known tried low w text p b rest is ascii lacks x q (itself s) = s.1
word_tried words n word known tried low w text p b rest is ascii lacks x q (on {y = y} {z = z} t l) =
    let at = row_stays text n p b rest words known is ascii (row_of n) word (both _ _ (ranked n)).0 w lacks y z t in
    let later = tries_later text n p (stands_in text p b rest is) low y z t in
    tried y (later.smaller at.0) text p b rest is ascii at.1 x q (subst (λ k. Leads text x q y k) at.0 l)
