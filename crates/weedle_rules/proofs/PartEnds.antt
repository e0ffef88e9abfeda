-- Sequences and choices while their parts are looked at one after another, and which cells are known then.
use Rattle.std.proofs.Common.{◌≡◌, inl, inr, ℕ, ◌+◌, ◌-◌, ◌<◌, ◌≤◌, List, [], ◌∷◌, length, map, Bool, true, ◌&&◌, ◌||◌, Option, Some, None, refl, sym, subst, ◌∙◌, add-one, arith}
use Rattle.std.specs.Prelude.{nat_lt}
use borrow.Author.Tests.{ltb-true}
use Rattle.weedle_grammar.specs.written.Bound.{table_count, rule_count}
use Rattle.weedle_grammar.specs.Rows.{Row, Seq, First, Opt, Many, ListOf, List1, Tail}
use Rattle.weedle_grammar.specs.Trees.{Tree, Fails, Gives}
use Rattle.weedle_grammar.specs.Meaning.{Grammar, piece, seq_end, seq_fails, seq_more, first_none, first_here, first_next, with_piece}
use Rattle.weedle_rules.specs.Cells.{EndsBy, cell_number, turn_number}
use Rattle.weedle_grammar.proofs.Ranked.{is_ranked, is_low, low_parts, all_low}
use Rattle.weedle_grammar.proofs.Leaves.{both, one_of}
use Rattle.weedle_grammar.proofs.Exists.{grows, stays_inside, advances}
use Rattle.weedle_rules.proofs.RowEnds.{is_before, turn_before, piece_end, SeqEnds, FirstEnds, gave, failed}

pub below : (a b : ℕ) → nat_lt a b ≡ true → a < b
below a b h = omega (arith, ltb-true)

module _ (G : Grammar) (text : List ℕ) where
  -- a choice that is being tried: the alternatives from i on decide
  pub record Trying (takes : ℕ → Bool) (r : ℕ) (parts rest : List ℕ) (i p : ℕ) : Type 0 where
    pub onward : (e : Option ℕ) → FirstEnds G text rest i p e → FirstEnds G text parts 0 p e
    pub low : all_low (λ r. r) takes r rest ≡ true

  pub first_fits : (takes : ℕ → Bool) (r i p x q : ℕ) (parts rest : List ℕ) → Trying takes r parts (x ∷ rest) i p → EndsBy G text x p (Some q) → FirstEnds G text parts 0 p (Some q)
  first_fits takes r i p x q parts rest t h = let g = gave h in t.onward (Some q) (record { outcome = Gives (Rattle.std.proofs.Common.map (Rattle.weedle_grammar.specs.Trees.Tree.Alt i) g.0) q; reads = first_here g.1 refl; is = refl })

  pub first_tries_on : (takes : ℕ → Bool) (r i p x : ℕ) (parts rest : List ℕ) → Trying takes r parts (x ∷ rest) i p → EndsBy G text x p None → Trying takes r parts rest (i + 1) p
  first_tries_on takes r i p x parts rest t h = subst (λ z. Trying takes r parts rest z p) (sym (add-one i)) (record {
    onward = λ e k. t.onward e (record { outcome = k.outcome; reads = first_next (failed h) k.reads; is = k.is });
    low = (both _ _ t.low).1;
  })

  pub first_fits_none : (takes : ℕ → Bool) (r i p : ℕ) (parts : List ℕ) → Trying takes r parts [] i p → FirstEnds G text parts 0 p None
  first_fits_none takes r i p parts t = t.onward None (record { outcome = Fails; reads = first_none refl; is = refl })

  -- a sequence that is being read: what the parts from q on do decides
  pub record Along (takes : ℕ → Bool) (r p : ℕ) (parts rest : List ℕ) (q : ℕ) : Type 0 where
    pub onward : (e : Option ℕ) → SeqEnds G text rest q e → SeqEnds G text parts p e
    pub after : p ≤ q
    pub within : q ≤ length text
    pub low : q ≡ p → low_parts (λ r. r) takes r rest ≡ true

  pub along_fails : (takes : ℕ → Bool) (r p x q : ℕ) (parts rest : List ℕ) → Along takes r p parts (x ∷ rest) q → EndsBy G text x q None → SeqEnds G text parts p None
  along_fails takes r p x q parts rest a h = a.onward None (record { pieces = None; reads = seq_fails (failed h) refl; is = refl })

  pub along_ends : (takes : ℕ → Bool) (r p q : ℕ) (parts : List ℕ) → Along takes r p parts [] q → SeqEnds G text parts p (Some q)
  along_ends takes r p q parts a = a.onward (Some q) (record { pieces = Some []; reads = seq_end refl; is = refl })

  module _ (takes : ℕ → Bool) (ranked : (r : ℕ) → is_ranked (λ r. r) takes r (G.row r) ≡ true) where
    -- what the row reads first has a smaller number
    pub low_row : {r : ℕ} {row : Row} → G.row r ≡ row → is_low (λ r. r) takes r row ≡ true
    low_row {r} e = subst (λ row. is_low (λ r. r) takes r row ≡ true) e (both _ _ (ranked r)).0

    -- at the start of a sequence
    pub along_start : (r p : ℕ) (parts : List ℕ) → G.row r ≡ Seq parts → p ≤ length text → Along takes r p parts parts p
    along_start r p parts e l = record { onward = λ e h. h; after = omega arith; within = l; low = λ h. low_row e }

    -- the cell of its next part is known
    pub along_known : (r p x q : ℕ) (parts rest : List ℕ) → Along takes r p parts (x ∷ rest) q → x < table_count → cell_number (length text) x q < cell_number (length text) r p
    along_known r p x q parts rest a l =
        let after = a.after in
        let within = a.within in
        let low : q ≡ p → x < r = λ h. below x r (both _ _ (a.low h)).0 in
        is_before p q x r (length text) after within l low

    -- the turn of its next part comes before
    pub along_before : (r p x q : ℕ) (parts rest : List ℕ) → Along takes r p parts (x ∷ rest) q → x < rule_count → turn_number (length text) x q < turn_number (length text) r p
    along_before r p x q parts rest a l =
        let after = a.after in
        let within = a.within in
        let low : q ≡ p → x < r = λ h. below x r (both _ _ (a.low h)).0 in
        turn_before p q x r (length text) after within l low

    pub along_step : (r p x q e : ℕ) (parts rest : List ℕ) → Along takes r p parts (x ∷ rest) q → EndsBy G text x q (Some e) → Along takes r p parts rest e
    along_step r p x q e parts rest a h =
        let g = gave h in
        let after = a.after in
        let within = a.within in
        let on : q ≤ e = grows G text g.1 in
        record {
          onward = λ z k. a.onward z (record { pieces = with_piece (piece g.0 e) k.pieces; reads = seq_more g.1 k.reads refl; is = k.is ∙ sym (piece_end q e g.0 k.pieces) });
          after = omega arith;
          within = stays_inside G text g.1 within;
          low = λ s. (
              let here : q ≡ p = omega arith in
              elim (one_of _ _ (both _ _ (a.low here)).1) [
                | inl t ↦ absurd (let m : q < e = advances G text (λ r. r) takes ranked g.1 t in omega arith)
                | inr t ↦ t
              ]);
        }

    -- at the start of a choice
    pub trying_start : (r p : ℕ) (parts : List ℕ) → G.row r ≡ First parts → Trying takes r parts parts 0 p
    trying_start r p parts e = record { onward = λ e h. h; low = low_row e }

    pub trying_known : (r i p x : ℕ) (parts rest : List ℕ) → Trying takes r parts (x ∷ rest) i p → cell_number (length text) x p < cell_number (length text) r p
    trying_known r i p x parts rest t = let l = below x r (both _ _ t.low).0 in omega arith

    pub trying_before : (r i p x : ℕ) (parts rest : List ℕ) → Trying takes r parts (x ∷ rest) i p → turn_number (length text) x p < turn_number (length text) r p
    trying_before r i p x parts rest t = let l = below x r (both _ _ t.low).0 in omega arith

    -- the rule that an option, a repetition or a tail reads first is known at its place
    pub opt_low : (r x : ℕ) → G.row r ≡ Opt x → x < r
    opt_low r x e = below x r (low_row e)

    pub many_low : (r x : ℕ) → G.row r ≡ Many x → x < r
    many_low r x e = below x r (low_row e)

    pub tail_low : (r x s : ℕ) → G.row r ≡ Tail x s → s < r
    tail_low r x s e = below s r (low_row e)

    pub list_low : (r x t : ℕ) → G.row r ≡ ListOf x t → x < r
    list_low r x t e = below x r (both _ _ (low_row e)).0

    pub list1_low : (r x t : ℕ) → G.row r ≡ List1 x t → x < r
    list1_low r x t e = below x r (both _ _ (low_row e)).0

    behind_first : (r x t p q : ℕ) → nat_lt x r && (takes x || nat_lt t r) ≡ true → EndsBy G text x p (Some q) → q ≡ p → t < r
    behind_first r x t p q h d s = elim (one_of _ _ (both _ _ h).1) [
      | inl k ↦ absurd (let m : p < q = advances G text (λ r. r) takes ranked (gave d).1 k in omega arith)
      | inr k ↦ below t r k
    ]

    pub list_next_low : (r x t p q : ℕ) → G.row r ≡ ListOf x t → EndsBy G text x p (Some q) → q ≡ p → t < r
    list_next_low r x t p q e = behind_first r x t p q (low_row e)

    pub list1_next_low : (r x t p q : ℕ) → G.row r ≡ List1 x t → EndsBy G text x p (Some q) → q ≡ p → t < r
    list1_next_low r x t p q e = behind_first r x t p q (low_row e)
