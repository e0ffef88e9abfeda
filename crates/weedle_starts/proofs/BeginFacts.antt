-- With which bytes a row begins that takes one.
use Rattle.std.proofs.Common.{◌≡◌, inl, inr, ℕ, suc, ◌+◌, ◌<◌, ◌≤◌, List, [], ◌∷◌, length, drop, Bool, true, false, Option, Some, None, refl, sym, subst, ◌∙◌, ap, arith}
use Rattle.std.specs.Prelude.{◌==◌, ◌&&◌, ◌||◌, if◌then◌else◌, nat_lt, slice_index}
use Rattle.std.specs.Int.{bit_at}
use Rattle.std.proofs.lemmas.Bool.{cases_lt, eqb-true}
use Rattle.weedle_grammar.specs.declared.class.Class.{Class}
use Rattle.weedle_grammar.specs.Rows.{Row, Bytes, OneOf, NotNext, Run, Past, Seq, First, Opt, Many, ListOf, List1, Tail, If, is_in, begins, take_bytes, take_one, take_not_next, run_length}
use Rattle.weedle_grammar.specs.Trees.{Tree, Gives}
use Rattle.weedle_grammar.specs.Meaning.{Piece, piece, with_piece, last_end, leaf, together, ReadsSeq, ReadsFirst, first_none}
use Rattle.weedle_grammar.specs.written.Table.{webidl, row_of, Reads}
use Rattle.weedle_grammar.proofs.Inversion.{of_bytes, of_one, of_not_next, of_run, of_no_parts, of_parts, of_seq, of_choice, of_many, of_tail}
use Rattle.weedle_grammar.proofs.Leaves.{both, one_of, not_next_zero}
use Rattle.weedle_grammar.proofs.Ranked.{is_low, low_parts, all_low, some_takes}
use Rattle.weedle_grammar.proofs.Takes.{takes}
use Rattle.weedle_grammar.proofs.Checked.{rank, ranked}
use Rattle.weedle_grammar.proofs.Exists.{advances, grows, seq_grows, seq_advances}
use Rattle.weedle_rules.proofs.PartEnds.{below}
use Rattle.weedle_rules.proofs.RowEnds.{row_ends, raw_end}
use Rattle.weedle_rules.specs.Outcomes.{EndsAt}
use Rattle.weedle_rules.proofs.OutcomeFacts.{has_end}
use Rattle.weedle_starts.proofs.ReadFacts.{ends_after, first_reads, opt_reads, list_reads, list1_reads, if_reads}

-- each bit of the one word is one of the other
abbrev pub IsWithin : ℕ → ℕ → Type 0
IsWithin part word = (b : ℕ) → bit_at part b ≡ 1 → bit_at word b ≡ 1

-- of a class: the word has the bits of its bytes
abbrev pub CoversClass : (ℕ → Bool) → ℕ → Type 0
CoversClass holds word = (b : ℕ) → b < 128 → holds b ≡ true → bit_at word b ≡ 1

-- of bytes: the word has the bit of the first
abbrev pub CoversFirst : List ℕ → ℕ → Type 0
CoversFirst [] word = Unit {0}
CoversFirst (b ∷ bs) word = b < 128 → bit_at word b ≡ 1

-- the words of these rules are within the word, up to the first that always takes a byte
abbrev pub CoversParts : List ℕ → ℕ → List ℕ → Type 0
CoversParts words word [] = Unit {0}
CoversParts words word (r ∷ rs) = IsWithin (slice_index words r) word × (takes r ≡ false → CoversParts words word rs)

-- the words of all these rules are within the word
abbrev pub AllWithin : List ℕ → ℕ → List ℕ → Type 0
AllWithin words word [] = Unit {0}
AllWithin words word (r ∷ rs) = IsWithin (slice_index words r) word × AllWithin words word rs

-- the word has the bits of all bytes with which the row can begin, where it takes one, by the words of the rules that it names
abbrev pub Begins : List ℕ → Row → ℕ → Type 0
Begins words (Bytes bs) word = CoversFirst bs word
Begins words (OneOf c) word = CoversClass (is_in c) word
Begins words (NotNext c) word = Unit {0}
Begins words (Run c) word = CoversClass (is_in c) word
Begins words (Past b) word = (b : ℕ) → b < 128 → bit_at word b ≡ 1
Begins words (Seq parts) word = CoversParts words word parts
Begins words (First parts) word = AllWithin words word parts
Begins words (Opt y) word = IsWithin (slice_index words y) word
Begins words (Many y) word = IsWithin (slice_index words y) word
Begins words (ListOf y t) word = IsWithin (slice_index words y) word × IsWithin (slice_index words t) word
Begins words (List1 y t) word = IsWithin (slice_index words y) word × IsWithin (slice_index words t) word
Begins words (Tail y s) word = IsWithin (slice_index words s) word
Begins words (If parts k y) word = CoversParts words word parts × IsWithin (slice_index words y) word

-- the word has the bit of each byte with which rule r begins where it takes one
abbrev pub CoversTaken : ℕ → ℕ → Type 0
CoversTaken word r = (text : List ℕ) (p e b : ℕ) (rest : List ℕ) → EndsAt text r p e → p < e → drop p text ≡ b ∷ rest → b < 128 → bit_at word b ≡ 1

-- so far known: the words of the rules below n
abbrev pub AreTaken : List ℕ → ℕ → Type 0
AreTaken words n = (x : ℕ) → x < n → CoversTaken (slice_index words x) x

gives_end : (q z : ℕ) (ts us : List Tree) → Gives ts z ≡ Gives us q → q ≡ z
gives_end q z ts us h = cc

pub not_true : (c : Bool) → (c ≡ true → ⊥) → c ≡ false
not_true true n = absurd (n refl)
not_true false n = refl

module _ (text : List ℕ) (r p e b : ℕ) (rest words : List ℕ) (known : AreTaken words r) (on : p < e) (is : drop p text ≡ b ∷ rest) (ascii : b < 128) where
  -- a part that takes a byte here
  by_part : (x q word : ℕ) → x < r → EndsAt text x p q → p < q → IsWithin (slice_index words x) word → bit_at word b ≡ 1
  by_part x q word low h go w = w b (known x low text p q b rest h go is ascii)

  -- rows without parts
  begun : (t : Bool) (n : ℕ) → Some e ≡ raw_end (leaf p (if t then Some n else None)) → t ≡ true
  begun true n h = refl
  begun false n h = cc

  first_byte : (bs : List ℕ) (word : ℕ) → Some e ≡ raw_end (leaf p (take_bytes bs (b ∷ rest))) → CoversFirst bs word → bit_at word b ≡ 1
  first_byte [] word h w = let s : e ≡ p + 0 = cc in absurd (omega arith)
  first_byte (c ∷ cs) word h w =
      let same : c ≡ b = eqb-true c b (both _ _ (begun (c == b && begins cs rest) (suc (length cs)) h)).0 in
      subst (λ z. bit_at word z ≡ 1) same (w (omega arith))

  ran : (t : Bool) (n : ℕ) → Some e ≡ Some (p + (if t then suc n else 0)) → t ≡ true
  ran true n h = refl
  ran false n h = let s : e ≡ p + 0 = cc in absurd (omega arith)

  stands : (c : Class) (o : Option ℕ) → o ≡ take_not_next c (drop p text) → Some e ≡ raw_end (leaf p o) → ⊥
  stands c None k h = cc
  stands c (Some n) k h =
      let s : e ≡ p + n = cc in
      let z : 0 ≡ n = not_next_zero c (drop p text) n (sym k) in
      absurd (omega arith)

  -- sequences: the first part that takes a byte
  first_leads : (x : ℕ) (xs : List ℕ) (pieces : List Piece) (word : ℕ)
      → ((ps : List Piece) → ReadsSeq webidl text xs p (Some ps) → p < last_end p ps → low_parts rank takes r xs ≡ true → CoversParts words word xs → bit_at word b ≡ 1)
      → (ts : List Tree) (q : ℕ) (v : Option (List Piece)) → Reads text x p (Gives ts q) → ReadsSeq webidl text xs q v → Some pieces ≡ with_piece (piece ts q) v → p < last_end p pieces
      → low_parts rank takes r (x ∷ xs) ≡ true → CoversParts words word (x ∷ xs) → bit_at word b ≡ 1
  first_leads x xs pieces word onward ts q None d m h go low w = cc
  first_leads x xs pieces word onward ts q (Some ps) d m h go low w =
      let same : pieces ≡ piece ts q ∷ ps = cc in
      let after : p ≤ q = grows webidl text d in
      elim (cases_lt p q) [
        | inl l ↦ by_part x q word (below _ _ (both _ _ low).0) (ts, d) l w.0
        | inr l ↦ (
            let stay : q ≡ p = omega arith in
            elim (one_of (takes x) (low_parts rank takes r xs) (both _ _ low).1) [
              | inl t ↦ absurd (let f : p < q = advances webidl text rank takes ranked d t in omega arith)
              | inr n ↦ onward ps (subst (λ z. ReadsSeq webidl text xs z (Some ps)) stay m) (subst (λ z. p < last_end z ps) stay (subst (λ z. p < last_end p z) same go)) n
                  (w.1 (not_true (takes x) (λ t. let f : p < q = advances webidl text rank takes ranked d t in omega arith)))
            ])
      ]

  pub leads : (parts : List ℕ) (pieces : List Piece) (word : ℕ) → ReadsSeq webidl text parts p (Some pieces) → p < last_end p pieces → low_parts rank takes r parts ≡ true → CoversParts words word parts → bit_at word b ≡ 1
  leads [] pieces word d go low w = let n : pieces ≡ [] = (let k = of_no_parts d in cc) in absurd (let z : p < last_end p [] = subst (λ s. p < last_end p s) n go in omega arith)
  leads (x ∷ xs) pieces word d go low w = elim (of_parts d) [
    | inl k ↦ absurd (let m = k.1 in let n : ⊥ = cc in n)
    | inr (ts, q, v, given, m, h) ↦ first_leads x xs pieces word (λ ps f g l u. leads xs ps word f g l u) ts q v given m h go low w
  ]

  chooses : (rs : List ℕ) (i : ℕ) (ts : List Tree) (word : ℕ) → ReadsFirst webidl text rs i p (Gives ts e) → all_low rank takes r rs ≡ true → AllWithin words word rs → bit_at word b ≡ 1
  chooses [] i ts word (first_none h) low w = cc
  chooses (x ∷ xs) i ts word d low w = elim (of_choice d) [
    | inl (us, q, given, h) ↦ (
        let there : q ≡ e = gives_end q e _ _ h in
        by_part x q word (below _ _ (both _ _ low).0) (us, given) (omega arith) w.0)
    | inr k ↦ chooses xs _ ts word k.1 (both _ _ low).1 w.1
  ]

  listed : (y t q word : ℕ) → EndsAt text y p q → EndsAt text t q e → nat_lt (rank y) r && (takes y || nat_lt (rank t) r) ≡ true → IsWithin (slice_index words y) word × IsWithin (slice_index words t) word → bit_at word b ≡ 1
  listed y t q word h k low w =
      let after : p ≤ q = ends_after h in
      elim (cases_lt p q) [
        | inl l ↦ by_part y q word (below _ _ (both _ _ low).0) h l w.0
        | inr l ↦ (
            let stay : q ≡ p = omega arith in
            elim (one_of (takes y) (nat_lt (rank t) r) (both _ _ low).1) [
              | inl m ↦ absurd (let f : p < q = advances webidl text rank takes ranked h.1 m in omega arith)
              | inr m ↦ by_part t e word (below _ _ m) (subst (λ z. EndsAt text t z e) stay k) on w.1
            ])
      ]

  conditional : (parts : List ℕ) (pieces : List Piece) (y word : ℕ) → ReadsSeq webidl text parts p (Some pieces) → EndsAt text y (last_end p pieces) e → low_parts rank takes r parts && (some_takes rank takes parts || nat_lt (rank y) r) ≡ true
      → CoversParts words word parts × IsWithin (slice_index words y) word → bit_at word b ≡ 1
  conditional parts pieces y word h k low w =
      let after : p ≤ last_end p pieces = seq_grows webidl text h in
      elim (cases_lt p (last_end p pieces)) [
        | inl l ↦ leads parts pieces word h l (both _ _ low).0 w.0
        | inr l ↦ (
            let stay : last_end p pieces ≡ p = omega arith in
            elim (one_of (some_takes rank takes parts) (nat_lt (rank y) r) (both _ _ low).1) [
              | inl m ↦ absurd (let f : p < last_end p pieces = seq_advances webidl text rank takes ranked h m in omega arith)
              | inr m ↦ by_part y e word (below _ _ m) (subst (λ z. EndsAt text y z e) stay k) on w.1
            ])
      ]

  pieces_of : (parts : List ℕ) (o : Option (List Piece)) (word : ℕ) → ReadsSeq webidl text parts p o → Some e ≡ raw_end (together p o) → low_parts rank takes r parts ≡ true → CoversParts words word parts → bit_at word b ≡ 1
  pieces_of parts None word d h low w = cc
  pieces_of parts (Some pieces) word d h low w = let last : e ≡ last_end p pieces = cc in leads parts pieces word d (omega arith) low w

  pub row_begins : (row : Row) (word : ℕ) → row_of r ≡ row → is_low rank takes r row ≡ true → EndsAt text r p e → Begins words row word → bit_at word b ≡ 1
  row_begins (Bytes bs) word k low d w =
      let m = row_ends k (has_end d) in
      first_byte bs word (m.is ∙ ap raw_end (of_bytes m.reads) ∙ ap (λ z. raw_end (leaf p (take_bytes bs z))) is) w
  row_begins (OneOf c) word k low d w =
      let m = row_ends k (has_end d) in
      w b ascii (begun (is_in c b) 1 (m.is ∙ ap raw_end (of_one m.reads) ∙ ap (λ z. raw_end (leaf p (take_one c z))) is))
  row_begins (NotNext c) word k low d w =
      let m = row_ends k (has_end d) in
      absurd (stands c (take_not_next c (drop p text)) refl (m.is ∙ ap raw_end (of_not_next m.reads)))
  row_begins (Run c) word k low d w =
      let m = row_ends k (has_end d) in
      w b ascii (ran (is_in c b) (run_length c rest) (m.is ∙ ap raw_end (of_run m.reads) ∙ ap (λ z. Some (p + run_length c z)) is))
  row_begins (Past bs) word k low d w = w b ascii
  row_begins (Seq parts) word k low d w =
      let m = row_ends k (has_end d) in
      let o = of_seq m.reads in
      pieces_of parts o.0 word o.1 (m.is ∙ ap raw_end o.2) low w
  row_begins (First parts) word k low d w = let f = first_reads text r p e d k in chooses parts 0 f.0 word f.1 low w
  row_begins (Opt y) word k low d w = elim (opt_reads text r p e d k) [
    | inl h ↦ absurd (let z = h.1 in omega arith)
    | inr h ↦ by_part y e word (below _ _ low) h on w
  ]
  row_begins (Many y) word k low d w =
      let m = row_ends k (has_end d) in
      elim (of_many m.reads) [
        | inl h ↦ absurd (let a = m.is ∙ ap raw_end h.1 in let z : e ≡ p = cc in omega arith)
        | inr (inl h) ↦ absurd (let a = m.is ∙ ap raw_end h.2 in let n : ⊥ = cc in n)
        | inr (inr (ts, q, v, given, ne, more, h)) ↦ (let after : p ≤ q = grows webidl text given in by_part y q word (below _ _ low) (ts, given) (omega (arith, ne)) w)
      ]
  row_begins (ListOf y t) word k low d w = elim (list_reads text r p e d k) [
    | inl h ↦ absurd (let z = h.1 in omega arith)
    | inr (q, g, h) ↦ listed y t q word g h low w
  ]
  row_begins (List1 y t) word k low d w = elim (list1_reads text r p e d k) [
    | inl h ↦ absurd (let z = h.1 in omega arith)
    | inr (q, g, h) ↦ listed y t q word g h low w
  ]
  row_begins (Tail y s) word k low d w =
      let m = row_ends k (has_end d) in
      elim (of_tail m.reads) [
        | inl h ↦ absurd (let a = m.is ∙ ap raw_end h.1 in let z : e ≡ p = cc in omega arith)
        | inr (inl h) ↦ absurd (let a = m.is ∙ ap raw_end h.2 in let n : ⊥ = cc in n)
        | inr (inr (inl (ts, u, given, ne, fails, h))) ↦ absurd (let a = m.is ∙ ap raw_end h in let z : e ≡ p = cc in omega arith)
        | inr (inr (inr (ts, us, u, x, v, given, ne, item, more, h))) ↦ (let after : p ≤ u = grows webidl text given in by_part s u word (below _ _ low) (ts, given) (omega (arith, ne)) w)
      ]
  row_begins (If parts j y) word k low d w =
      let i = if_reads text r p e d k in
      elim i.2 [
        | inl h ↦ leads parts i.0 word i.1 (let z = h.1 in omega arith) (both _ _ low).0 w.0
        | inr h ↦ conditional parts i.0 y word i.1 h.1 low w
      ]

-- the word of the next rule
pub word_covers : (words : List ℕ) (n word : ℕ) → AreTaken words n → Begins words (row_of n) word → CoversTaken word n
word_covers words n word known w text p q b rest d on is ascii = row_begins text n p q b rest words known on is ascii (row_of n) word refl (both _ _ (ranked n)).0 d w
