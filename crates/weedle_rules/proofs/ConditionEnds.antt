-- Sequences whose last part has a condition, while their parts are looked at one after another.
use Rattle.std.proofs.Common.{◌≡◌, ◌≢◌, ◌⊎◌, inl, inr, ℕ, zero, suc, ◌+◌, ◌++◌, ◌-◌, ◌<◌, ◌≤◌, List, [], ◌∷◌, length, map, Bool, true, false, Option, Some, None, refl, ap, sym, subst, ◌∙◌, arith}
use Rattle.std.specs.Prelude.{◌==◌, nat_le, not, if◌then◌else◌}
use Rattle.std.proofs.lemmas.Bool.{cases_lt}
use Rattle.weedle_grammar.specs.written.Bound.{table_count, rule_count}
use Rattle.weedle_grammar.specs.Rows.{Opt, If}
use Rattle.weedle_grammar.specs.Trees.{Tree, Mark, Absent, Present, Outcome, Fails, Gives}
use Rattle.weedle_grammar.specs.Meaning.{Grammar, Marked, Plain, Piece, piece, Breaks, Yields, ReadsBy, ReadsSeq, by_row, if_fails, if_absent, if_present, seq_end, seq_fails, seq_more, shaped, raw_of, opted, before, with_piece, gave_some, is_present, given_of, last_end}
use Rattle.weedle_rules.specs.Cells.{EndsBy, cell_number, turn_number}
use Rattle.weedle_grammar.proofs.Ranked.{is_ranked, low_parts}
use Rattle.weedle_grammar.proofs.Leaves.{both, one_of}
use Rattle.weedle_grammar.proofs.Inversion.{at_row, of_opt}
use Rattle.weedle_grammar.proofs.Exists.{grows, stays_inside, advances, seq_advances}
use Rattle.std.proofs.lemmas.Bool.Decides.{leb_tells}
use Rattle.weedle_rules.proofs.RowEnds.{is_before, turn_before, pieces_end, piece_end, before_end, raw_of_end, RowEnds, gave, failed}
use Rattle.weedle_rules.proofs.PartEnds.{below, low_row}
use Rattle.weedle_rules.proofs.ByteEnds.{differ, same}

-- rows with a condition: whether part k gave something is noted while the parts are read
module _ (G : Grammar) (text : List ℕ) where
  -- it is still to come, so many parts on; or it came
  abbrev pub Note : Type 0
  Note = ℕ ⊎ Bool

  abbrev pub noted : Note → List Piece → Bool
  noted (inl j) pieces = gave_some j pieces
  noted (inr b) pieces = b

  abbrev pub note_after : Note → Bool → Note
  note_after (inl zero) b = inr b
  note_after (inl (suc j)) b = inl j
  note_after (inr c) b = inr c

  noted_after : (n : Note) (given : List Tree) (e : ℕ) (pieces : List Piece) → noted n (piece given e ∷ pieces) ≡ noted (note_after n (is_present given)) pieces
  noted_after (inl zero) given e pieces = refl
  noted_after (inl (suc j)) given e pieces = refl
  noted_after (inr b) given e pieces = refl

  pub record NoteEnds (n : Note) (rs : List ℕ) (p : ℕ) (e : Option ℕ) (b : Bool) : Type 0 where
    pub pieces : Option (List Piece)
    pub reads : ReadsSeq G text rs p pieces
    pub is : e ≡ pieces_end p pieces
    pub note_is : (ps : List Piece) → pieces ≡ Some ps → noted n ps ≡ b

  pub record AlongIf (takes : ℕ → Bool) (r k p : ℕ) (parts rest : List ℕ) (n : Note) (q : ℕ) : Type 0 where
    pub onward : (e : Option ℕ) (b : Bool) → NoteEnds n rest q e b → NoteEnds (inl k) parts p e b
    pub after : p ≤ q
    pub within : q ≤ length text
    pub low : q ≡ p → low_parts (λ r. r) takes r rest ≡ true

  pub if_along_fails : (takes : ℕ → Bool) (r k p x q : ℕ) (parts rest : List ℕ) (n : Note) → AlongIf takes r k p parts (x ∷ rest) n q
      → EndsBy G text x q None → NoteEnds (inl k) parts p None false
  if_along_fails takes r k p x q parts rest n a h =
      a.onward None false (record { pieces = None; reads = seq_fails (failed h) refl; is = refl; note_is = λ ps e. cc })

  pub if_along_ends : (takes : ℕ → Bool) (r k p q : ℕ) (parts : List ℕ) (b : Bool) → AlongIf takes r k p parts [] (inr b) q → NoteEnds (inl k) parts p (Some q) b
  if_along_ends takes r k p q parts b a =
      a.onward (Some q) b (record { pieces = Some []; reads = seq_end refl; is = refl; note_is = λ ps e. refl })

  -- where the row ends
  pub if_ends_none : (parts : List ℕ) (k y p : ℕ) → NoteEnds (inl k) parts p None false → RowEnds G text (If parts k y) p None
  if_ends_none parts k y p h = fails_by h.pieces h.reads h.is
    where
      fails_by : (o : Option (List Piece)) → ReadsSeq G text parts p o → None ≡ pieces_end p o → RowEnds G text (If parts k y) p None
      fails_by None d e = record { raw = Breaks; reads = if_fails d refl; is = refl }
      fails_by (Some ps) d e = cc

  pub if_ends_absent : (parts : List ℕ) (k y p q : ℕ) → NoteEnds (inl k) parts p (Some q) false → RowEnds G text (If parts k y) p (Some q)
  if_ends_absent parts k y p q h = by h.pieces h.reads h.is h.note_is
    where
      by : (o : Option (List Piece)) → ReadsSeq G text parts p o → Some q ≡ pieces_end p o → ((ps : List Piece) → o ≡ Some ps → noted (inl k) ps ≡ false) → RowEnds G text (If parts k y) p (Some q)
      by None d e f = cc
      by (Some ps) d e f = record { raw = Yields (given_of ps ++ Rattle.weedle_grammar.specs.Trees.Tree.Absent ∷ []) [] (last_end p ps); reads = if_absent d (f ps refl) refl; is = e }

  pub if_ends_present : (parts : List ℕ) (k y p q : ℕ) (e : Option ℕ) → NoteEnds (inl k) parts p (Some q) true → EndsBy G text y q e → RowEnds G text (If parts k y) p e
  if_ends_present parts k y p q e h m = by h.pieces h.reads h.is h.note_is
    where
      by : (o : Option (List Piece)) → ReadsSeq G text parts p o → Some q ≡ pieces_end p o → ((ps : List Piece) → o ≡ Some ps → noted (inl k) ps ≡ true) → RowEnds G text (If parts k y) p e
      by None d i f = cc
      by (Some ps) d i f =
          let n : q ≡ last_end p ps = cc in
          record {
            raw = before (given_of ps) (raw_of m.outcome);
            reads = if_present d (f ps refl) (subst (λ z. ReadsBy G text y z m.outcome) n m.reads) refl;
            is = m.is ∙ sym (before_end (given_of ps) (raw_of m.outcome) ∙ raw_of_end m.outcome);
          }

  -- a marked rule gives a mark
  marked_gives : {x q : ℕ} {o : Outcome} → ReadsBy G text x q o → G.shape x ≡ Marked → (us : List Tree) (z : ℕ) → o ≡ Gives us z → us ≡ Mark ∷ []
  marked_gives {x} {q} (by_row {w = Breaks} d e) m us z h = cc
  marked_gives {x} {q} {o} (by_row {w = Yields ts ends f} d e) m us z h =
      let k : o ≡ Gives (Mark ∷ []) f = e ∙ ap (λ s. shaped text (G.row x) s q (Yields ts ends f)) m in
      cc

  module _ (takes : ℕ → Bool) (ranked : (r : ℕ) → is_ranked (λ r. r) takes r (G.row r) ≡ true) where
    -- an optional mark is there exactly where it takes bytes
    present_by : (s x q : ℕ) (o : Outcome) → ReadsBy G text x q o → G.shape x ≡ Marked → takes x ≡ true
        → (ts : List Tree) (e : ℕ) → Gives ts e ≡ shaped text (Opt x) Plain q (opted q o)
        → ((e ≡ q) × (is_present ts ≡ false)) ⊎ ((e ≢ q) × (is_present ts ≡ true))
    present_by s x q Fails d m t ts e h = let a : ts ≡ Absent ∷ [] = cc in inl (cc, ap is_present a)
    present_by s x q (Gives us z) d m t ts e h =
        let u = marked_gives d m us z refl in
        let l : q < z = advances G text (λ r. r) takes ranked d t in
        let n : e ≡ z = cc in
        let k : ts ≡ map Present us = cc in
        inr (λ g. absurd (omega arith), ap is_present (k ∙ ap (map Present) u))

    pub present : (s x q e : ℕ) (ts : List Tree) → G.row s ≡ Opt x → G.shape s ≡ Plain → G.shape x ≡ Marked → takes x ≡ true → ReadsBy G text s q (Gives ts e)
        → ((e ≡ q) × (is_present ts ≡ false)) ⊎ ((e ≢ q) × (is_present ts ≡ true))
    present s x q e ts r sh m t d =
        let a = at_row r d in
        let o = of_opt a.1 in
        present_by s x q o.0 o.1 m t ts e (a.2 ∙ ap (λ z. shaped text (Opt x) z q a.0) sh ∙ ap (shaped text (Opt x) Plain q) o.2)

    pub if_start : (r k y p : ℕ) (parts : List ℕ) → G.row r ≡ If parts k y → p ≤ length text → AlongIf takes r k p parts parts (inl k) p
    if_start r k y p parts e l = record { onward = λ e b h. h; after = omega arith; within = l; low = λ h. (both _ _ (low_row G text takes ranked e)).0 }

    pub if_known : (r k p x q : ℕ) (parts rest : List ℕ) (n : Note) → AlongIf takes r k p parts (x ∷ rest) n q → x < table_count → cell_number (length text) x q < cell_number (length text) r p
    if_known r k p x q parts rest n a l = is_before p q x r (length text) a.after a.within l (λ h. below x r (both _ _ (a.low h)).0)

    pub if_before : (r k p x q : ℕ) (parts rest : List ℕ) (n : Note) → AlongIf takes r k p parts (x ∷ rest) n q → x < rule_count → turn_number (length text) x q < turn_number (length text) r p
    if_before r k p x q parts rest n a l = turn_before p q x r (length text) a.after a.within l (λ h. below x r (both _ _ (a.low h)).0)

    pub if_step : (r k p x q e : ℕ) (parts rest : List ℕ) (n n' : Note) → AlongIf takes r k p parts (x ∷ rest) n q → EndsBy G text x q (Some e)
        → ((ts : List Tree) → ReadsBy G text x q (Gives ts e) → note_after n (is_present ts) ≡ n') → AlongIf takes r k p parts rest n' e
    if_step r k p x q e parts rest n n' a h f =
        let g = gave h in
        let after = a.after in
        let within = a.within in
        let on : q ≤ e = grows G text g.1 in
        let to : note_after n (is_present g.0) ≡ n' = f g.0 g.1 in
        record {
          onward = λ z b m. a.onward z b (record {
            pieces = with_piece (piece g.0 e) m.pieces;
            reads = seq_more g.1 m.reads refl;
            is = m.is ∙ sym (piece_end q e g.0 m.pieces);
            note_is = noted_before n n' g.0 e b to m.pieces m.note_is;
          });
          after = omega arith;
          within = stays_inside G text g.1 within;
          low = λ s. (
              let here : q ≡ p = omega arith in
              elim (one_of _ _ (both _ _ (a.low here)).1) [
                | inl t ↦ absurd (let m : q < e = advances G text (λ r. r) takes ranked g.1 t in omega arith)
                | inr t ↦ t
              ]);
        }
      where
        noted_before : (n n' : Note) (given : List Tree) (e : ℕ) (b : Bool) → note_after n (is_present given) ≡ n' → (o : Option (List Piece))
            → ((ps : List Piece) → o ≡ Some ps → noted n' ps ≡ b) → (qs : List Piece) → with_piece (piece given e) o ≡ Some qs → noted n qs ≡ b
        noted_before n n' given e b to None m qs i = cc
        noted_before n n' given e b to (Some ps) m qs i =
            let k : qs ≡ piece given e ∷ ps = cc in
            ap (noted n) k ∙ noted_after n given e ps ∙ ap (λ z. noted z ps) to ∙ m ps refl

    pub if_next_low : (r k y p q : ℕ) (parts : List ℕ) → G.row r ≡ If parts k y → NoteEnds (inl k) parts p (Some q) true → p ≤ q → q ≡ p → y < r
    if_next_low r k y p q parts e h l s = by h.pieces h.reads h.is
      where
        by : (o : Option (List Piece)) → ReadsSeq G text parts p o → Some q ≡ pieces_end p o → y < r
        by None d i = cc
        by (Some ps) d i = elim (one_of _ _ (both _ _ (low_row G text takes ranked e)).1) [
          | inl t ↦ absurd (let m : p < last_end p ps = seq_advances G text (λ r. r) takes ranked d t in let n : q ≡ last_end p ps = cc in omega arith)
          | inr t ↦ below y r t
        ]

-- what is noted of part k before part i
abbrev pub note_at : ℕ → ℕ → Bool → ℕ ⊎ Bool
note_at k i b = if nat_le i k then inl (k - i) else inr b

pub note_low : (k i : ℕ) (b : Bool) → k < i → note_at k i b ≡ inr b
note_low k i b h = elim (leb_tells i k) [ inl l ↦ absurd (omega (arith, l.1)) | inr l ↦ rw l.0 refl ]

pub note_high : (k i : ℕ) (b : Bool) → i ≤ k → note_at k i b ≡ inl (k - i)
note_high k i b h = elim (leb_tells i k) [ inl l ↦ rw l.0 refl | inr l ↦ absurd (omega (arith, l.1)) ]

-- the note behind part i
pub note_more : (G : Grammar) (text : List ℕ) (k i : ℕ) (b c d : Bool) → (i ≡ k → c ≡ d) → (i ≢ k → d ≡ b) → note_after G text (note_at k i b) c ≡ note_at k (i + 1) d
note_more G text k i b c d same other = elim (cases_lt i k) [
  | inl l ↦ (
      let e : k - i ≡ suc (k - (i + 1)) = omega arith in
      rw (note_high k i b (omega arith), note_high k (i + 1) d (omega arith), e) refl)
  | inr l ↦ elim (cases_lt k i) [
    | inl m ↦ (
        let n : d ≡ b = other (λ z. absurd (omega arith)) in
        rw (note_low k i b m, note_low k (i + 1) d (omega arith), n) refl)
    | inr m ↦ (
        let z : i ≡ k = omega arith in
        let e : k - i ≡ 0 = omega arith in
        rw (note_high k i b (omega arith), note_low k (i + 1) d (omega arith), e) (ap inr (same z)))
  ]
]

-- whether the part was there: as its end says at part k, as before at each other part
pub chosen_here : (i k e q : ℕ) (p r b : Bool) → i ≡ k → r ≡ (if i == k then not (e == q) else p)
    → ((e ≡ q) × (b ≡ false)) ⊎ ((e ≢ q) × (b ≡ true)) → b ≡ r
chosen_here i k e q p r b h c (inl w) = w.1 ∙ sym (c ∙ rw (same i k (sym h), same e q (sym w.0)) refl)
chosen_here i k e q p r b h c (inr w) = w.1 ∙ sym (c ∙ rw (same i k (sym h), differ e q (λ z. w.0 (sym z))) refl)

pub chosen_other : (i k : ℕ) (t p r : Bool) → i ≢ k → r ≡ (if i == k then t else p) → r ≡ p
chosen_other i k t p r h c = c ∙ rw (differ i k (λ z. h (sym z))) refl
