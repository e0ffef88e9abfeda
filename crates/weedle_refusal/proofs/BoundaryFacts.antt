-- What is tried from a boundary on is tried at boundaries.
use Rattle.std.proofs.Common.{◌≡◌, inl, inr, ℕ, List, [], ◌∷◌, Option, Some, None, refl, sym, subst, ◌∙◌}
use Rattle.std.specs.Prelude.{IsUtf8, IsCharBoundary}
use Rattle.weedle_grammar.specs.Rows.{Row, Bytes, OneOf, NotNext, Run, Past, Seq, First, Opt, Many, ListOf, List1, Tail, If}
use Rattle.weedle_grammar.specs.Meaning.{Piece, piece, ReadsSeq, seq_end, seq_fails, seq_more, with_piece, last_end}
use Rattle.weedle_grammar.specs.written.Table.{webidl, row_of}
use Rattle.weedle_grammar.proofs.GrammarFacts.{at_boundary}
use Rattle.weedle_rules.specs.Outcomes.{EndsAt}
use Rattle.weedle_starts.specs.Tries.{TriesInTurn, TriesByChoice, RowTries, Tried, at_first, by, Leads, itself, on}

module _ (text : List ℕ) (utf8 : IsUtf8 text) where
  to_end : (r p e : ℕ) → EndsAt text r p e → IsCharBoundary text p → IsCharBoundary text e
  to_end r p e d b = at_boundary text r p utf8 b d.0 e d.1

  there : (q e : ℕ) → q ≡ e → IsCharBoundary text e → IsCharBoundary text q
  there q e h b = subst (IsCharBoundary text) (sym h) b

  more : (q : ℕ) (given : Piece) (o : Option (List Piece)) (ps : List Piece) → with_piece given o ≡ Some ps → (qs : List Piece) × (o ≡ Some qs) × (ps ≡ given ∷ qs)
  more q given None ps h = cc
  more q given (Some qs) ps h = (qs, refl, cc)

  to_last : {rs : List ℕ} {p : ℕ} {o : Option (List Piece)} → ReadsSeq webidl text rs p o → (ps : List Piece) → o ≡ Some ps → IsCharBoundary text p → IsCharBoundary text (last_end p ps)
  to_last {p = p} (seq_end e) ps h b = let n : ps ≡ [] = cc in subst (λ z. IsCharBoundary text (last_end p z)) (sym n) b
  to_last (seq_fails d e) ps h b = cc
  to_last {p = p} (seq_more {r = r} {q = q} {ts = ts} {o = o} d m e) ps h b =
      let k = more p (piece ts q) o ps (sym e ∙ h) in
      subst (λ z. IsCharBoundary text (last_end p z)) (sym k.2) (to_last m k.0 k.1 (to_end r p q (ts, d) b))

  in_turn : (rs : List ℕ) (p x q : ℕ) → TriesInTurn text rs p x q → IsCharBoundary text p → IsCharBoundary text q
  in_turn [] p x q t b = absurd t
  in_turn (r ∷ rs) p x q (inl i) b = there q p i.1 b
  in_turn (r ∷ rs) p x q (inr t) b = in_turn rs t.0 x q t.2 (to_end r p t.0 t.1 b)

  by_choice : (rs : List ℕ) (p x q : ℕ) → TriesByChoice text rs p x q → IsCharBoundary text p → IsCharBoundary text q
  by_choice [] p x q t b = absurd t
  by_choice (r ∷ rs) p x q (inl i) b = there q p i.1 b
  by_choice (r ∷ rs) p x q (inr t) b = by_choice rs p x q t.1 b

  row_tries : (row : Row) (r p x q : ℕ) → RowTries text row r p x q → IsCharBoundary text p → IsCharBoundary text q
  row_tries (Seq parts) r p x q t b = in_turn parts p x q t b
  row_tries (First parts) r p x q t b = by_choice parts p x q t b
  row_tries (Opt y) r p x q t b = there q p t.1 b
  row_tries (Many y) r p x q (inl i) b = there q p i.1 b
  row_tries (Many y) r p x q (inr (e, d, n, i)) b = there q e i.1 (to_end y p e d b)
  row_tries (ListOf y s) r p x q (inl i) b = there q p i.1 b
  row_tries (ListOf y s) r p x q (inr (e, d, i)) b = there q e i.1 (to_end y p e d b)
  row_tries (List1 y s) r p x q (inl i) b = there q p i.1 b
  row_tries (List1 y s) r p x q (inr (e, d, i)) b = there q e i.1 (to_end y p e d b)
  row_tries (Tail y s) r p x q (inl i) b = there q p i.1 b
  row_tries (Tail y s) r p x q (inr (e, d, n, inl i)) b = there q e i.1 (to_end s p e d b)
  row_tries (Tail y s) r p x q (inr (e, d, n, inr (z, f, i))) b = there q z i.1 (to_end y e z f (to_end s p e d b))
  row_tries (If parts k y) r p x q (inl t) b = in_turn parts p x q t b
  row_tries (If parts k y) r p x q (inr (e, (ps, d, g, l), i)) b = there q e i.1 (there e (last_end p ps) l (to_last d ps refl b))
  row_tries (Bytes c) r p x q t b = absurd t
  row_tries (OneOf c) r p x q t b = absurd t
  row_tries (NotNext c) r p x q t b = absurd t
  row_tries (Run c) r p x q t b = absurd t
  row_tries (Past c) r p x q t b = absurd t

  pub tried_boundary : (start : ℕ) → IsCharBoundary text start → {x q : ℕ} → Tried text start x q → IsCharBoundary text q
  tried_boundary start b {x} {q} (at_first s) = there q start s.1 b
  tried_boundary start b (by {r = r} {p = p} {x = x} {q = q} d t) = row_tries (row_of r) r p x q t (tried_boundary start b d)

  -- the same of what is tried where a rule is read
  pub led_boundary : {x q r p : ℕ} → Leads text x q r p → IsCharBoundary text p → IsCharBoundary text q
  led_boundary {q = q} {p = p} (itself s) b = there q p s.1 b
  led_boundary {r = r} {p = p} (on {y = y} {z = z} t l) b = led_boundary l (row_tries (row_of r) r p y z t b)
