-- Some rule without parts is tried and fails.
use Rattle.std.proofs.Common.{◌≡◌, inl, inr, ℕ, ◌<◌, ◌≤◌, List, [], ◌∷◌, length, Bool, true, false, Option, Some, None, refl, sym, subst, ap, ◌∙◌, arith}
use Rattle.weedle_grammar.specs.written.Bound.{rule_count}
use Rattle.weedle_grammar.specs.Rows.{Row, First, Many, Tail}
use Rattle.weedle_grammar.specs.Trees.{Tree, Outcome, Fails, Gives}
use Rattle.weedle_grammar.specs.Meaning.{Piece, piece, Raw, Breaks, Yields, ReadsBy, ReadsRow, ReadsSeq, ReadsFirst, by_row, by_bytes, by_one, by_not_next, by_run, by_past, by_seq, by_first, by_opt, many_end, many_stuck, many_more, list_none, list_more, list1_fails, list1_more, tail_end, tail_stuck, tail_back, tail_more, if_fails, if_absent, if_present, seq_end, seq_fails, seq_more, first_none, first_here, first_next, shaped, together, raw_of, opted, before, with_piece, last_end}
use Rattle.weedle_grammar.specs.written.Table.{webidl, row_of}
use Rattle.weedle_grammar.specs.written.Table.Definitions.{DEFINITIONS, DEFINITION}
use Rattle.weedle_grammar.proofs.Takes.{takes}
use Rattle.weedle_grammar.proofs.Checked.{rank, ranked}
use Rattle.weedle_grammar.proofs.Exists.{advances, has_outcome}
use Rattle.weedle_grammar.proofs.Inversion.{at_row}
use Rattle.weedle_rules.proofs.RowTests.{row_passes}
use Rattle.weedle_rules.specs.Outcomes.{FailsAt}
use Rattle.weedle_starts.specs.Tries.{Tries, TriesInTurn, TriesByChoice, RowTries, Tried, at_first, by, Leads, itself, on, has_no_parts, IsUnmet}
use Rattle.weedle_refusal.specs.Diagnosis.{IsUnmetIn}
use Rattle.weedle_starts.proofs.LaterFacts.{tries_later}

-- a choice has an alternative, and what is repeated or separates takes a byte
abbrev pub blames : Row → Bool
blames (First []) = false
blames (First (x ∷ xs)) = true
blames (Many x) = takes x
blames (Tail x s) = takes s
blames _ = true

blame : {r : ℕ} {row : Row} → r < rule_count → row_of r ≡ row → blames row ≡ true
blame l e = row_passes blames refl l e

-- what comes to nothing
together_breaks : (p : ℕ) (o : Option (List Piece)) → together p o ≡ Breaks → o ≡ None
together_breaks p None h = refl
together_breaks p (Some ps) h = cc

raw_breaks : (o : Outcome) → raw_of o ≡ Breaks → o ≡ Fails
raw_breaks Fails h = refl
raw_breaks (Gives ts e) h = cc

opted_breaks : (p : ℕ) (o : Outcome) → opted p o ≡ Breaks → ⊥
opted_breaks p Fails h = cc
opted_breaks p (Gives ts e) h = cc

before_breaks : (ts : List Tree) (w : Raw) → before ts w ≡ Breaks → w ≡ Breaks
before_breaks ts Breaks h = refl
before_breaks ts (Yields us ends e) h = cc

piece_breaks : (p : Piece) (o : Option (List Piece)) → with_piece p o ≡ None → o ≡ None
piece_breaks p None h = refl
piece_breaks p (Some ps) h = cc

shaped_fails : (text : List ℕ) (row : Row) (shape : Rattle.weedle_grammar.specs.Meaning.Shape) (p : ℕ) (w : Raw) → shaped text row shape p w ≡ Fails → w ≡ Breaks
shaped_fails text row shape p Breaks h = refl
shaped_fails text row shape p (Yields ts ends e) h = cc

module _ (text : List ℕ) (P : ℕ → ℕ → Type 0) (onward : (r p x q : ℕ) → P r p → Tries text r p x q → P x q) where
  -- a rule that is tried, in the text
  pub record At (r p : ℕ) : Type 0 where
    pub tried : P r p
    pub low : r < rule_count
    pub within : p ≤ length text

  at_next : {r p : ℕ} (x q : ℕ) → At r p → Tries text r p x q → At x q
  at_next {r} {p} x q a t = let l = tries_later text r p a.within a.low x q t in record { tried = onward r p x q a.tried t; low = l.low; within = l.within }

  -- the same by a rule's row
  at_row_next : {r p : ℕ} {row : Row} (x q : ℕ) → row_of r ≡ row → At r p → RowTries text row r p x q → At x q
  at_row_next {r} {p} x q e a t = at_next x q a (subst (λ w. RowTries text w r p x q) (sym e) t)

  pub record Unmet : Type 0 where
    pub rule : ℕ
    pub place : ℕ
    pub plain : has_no_parts (row_of rule) ≡ true
    pub tried : P rule place
    pub fails : FailsAt text rule place

  leaf_fails : {r p : ℕ} {row : Row} {w : Raw} → has_no_parts row ≡ true → row_of r ≡ row → ReadsRow webidl text row p w → w ≡ Breaks → At r p → Unmet
  leaf_fails {r} {p} {row} {w} h e d b a = record {
    rule = r;
    place = p;
    plain = ap has_no_parts e ∙ h;
    tried = a.tried;
    fails = by_row {w = Breaks} (subst (λ v. ReadsRow webidl text v p Breaks) (sym e) (subst (λ v. ReadsRow webidl text row p v) b d)) refl;
  }

  mutual
    pub rule_fails : {r p : ℕ} {o : Outcome} → ReadsBy webidl text r p o → o ≡ Fails → At r p → Unmet
    rule_fails {r} {p} (by_row {w = w} d e) h a = row_fails r d refl (shaped_fails text (row_of r) (webidl.shape r) p w (sym e ∙ h)) a

    row_fails : {row : Row} {p : ℕ} {w : Raw} (r : ℕ) → ReadsRow webidl text row p w → row_of r ≡ row → w ≡ Breaks → At r p → Unmet
    row_fails r (by_bytes {b = b} e) is h a = leaf_fails refl is (by_bytes e) h a
    row_fails r (by_one e) is h a = leaf_fails refl is (by_one e) h a
    row_fails r (by_not_next e) is h a = leaf_fails refl is (by_not_next e) h a
    row_fails r (by_run e) is h a = leaf_fails refl is (by_run e) h a
    row_fails r (by_past e) is h a = leaf_fails refl is (by_past e) h a
    row_fails {p = p} r (by_seq {o = o} d e) is h a = turn_fails d (together_breaks p o (sym e ∙ h)) (λ x q t. at_row_next x q is a t)
    row_fails r (by_first {parts = []} {o = o} d e) is h a = let b = blame a.low is in cc
    row_fails r (by_first {parts = x ∷ xs} {o = o} d e) is h a = choice_fails d (raw_breaks o (sym e ∙ h)) (λ x q t. at_row_next x q is a t)
    row_fails {p = p} r (by_opt {o = o} d e) is h a = absurd (opted_breaks p o (sym e ∙ h))
    row_fails r (many_end d e) is h a = cc
    row_fails {p = p} r (many_stuck {q = q} d s e) is h a = absurd (let m : p < q = advances webidl text rank takes ranked d (blame a.low is) in omega arith)
    row_fails r (many_more {q = q} {ts = ts} {w = w} d n m e) is h a = row_fails r m is (before_breaks ts w (sym e ∙ h)) (at_row_next r q is a (inr (q, (ts, d), n, (refl, refl))))
    row_fails r (list_none d e) is h a = cc
    row_fails r (list_more {t = t} {q = q} {ts = ts} {o = o} d m e) is h a = rule_fails m (raw_breaks o (before_breaks ts (raw_of o) (sym e ∙ h))) (at_row_next t q is a (inr (q, (ts, d), (refl, refl))))
    row_fails {p = p} r (list1_fails {x = x} d e) is h a = rule_fails d refl (at_row_next x p is a (inl (refl, refl)))
    row_fails r (list1_more {t = t} {q = q} {ts = ts} {o = o} d m e) is h a = rule_fails m (raw_breaks o (before_breaks ts (raw_of o) (sym e ∙ h))) (at_row_next t q is a (inr (q, (ts, d), (refl, refl))))
    row_fails r (tail_end d e) is h a = cc
    row_fails {p = p} r (tail_stuck {q = q} d s e) is h a = absurd (let m : p < q = advances webidl text rank takes ranked d (blame a.low is) in omega arith)
    row_fails r (tail_back d n m e) is h a = cc
    row_fails r (tail_more {q = q} {e = z} {ts = ts} {us = us} {w = w} d n m t e) is h a = row_fails r t is (before_breaks us w (sym e ∙ h)) (at_row_next r z is a (inr (q, (ts, d), n, inr (z, (us, m), (refl, refl)))))
    row_fails r (if_fails d e) is h a = turn_fails d refl (λ x q t. at_row_next x q is a (inl t))
    row_fails r (if_absent d g e) is h a = cc
    row_fails {p = p} r (if_present {y = y} {o = o} {pieces = pieces} d g m e) is h a = rule_fails m (raw_breaks o (before_breaks _ (raw_of o) (sym e ∙ h))) (at_row_next y (last_end p pieces) is a (inr (last_end p pieces, (pieces, d, g, refl), (refl, refl))))

    turn_fails : {rs : List ℕ} {p : ℕ} {o : Option (List Piece)} → ReadsSeq webidl text rs p o → o ≡ None → ((x q : ℕ) → TriesInTurn text rs p x q → At x q) → Unmet
    turn_fails (seq_end e) h f = cc
    turn_fails (seq_fails {r = r} {p = p} d e) h f = rule_fails d refl (f r p (inl (refl, refl)))
    turn_fails (seq_more {q = q} {ts = ts} {o = o} d m e) h f = turn_fails m (piece_breaks (piece ts q) o (sym e ∙ h)) (λ x z t. f x z (inr (q, (ts, d), t)))

    choice_fails : {x i p : ℕ} {rs : List ℕ} {o : Outcome} → ReadsFirst webidl text (x ∷ rs) i p o → o ≡ Fails → ((y q : ℕ) → TriesByChoice text (x ∷ rs) p y q → At y q) → Unmet
    choice_fails (first_here d e) h f = cc
    choice_fails {x = x} {p = p} (first_next d m) h f = rule_fails d refl (f x p (inl (refl, refl)))

  -- a repetition ends where its rule fails
  pub many_ends : {x p : ℕ} {w : Raw} (r : ℕ) → ReadsRow webidl text (Many x) p w → row_of r ≡ Many x → At r p → Unmet
  many_ends {x} {p} r (many_end d e) is a = rule_fails d refl (at_row_next x p is a (inl (refl, refl)))
  many_ends {x} {p} r (many_stuck {q = q} d s e) is a = absurd (let m : p < q = advances webidl text rank takes ranked d (blame a.low is) in omega arith)
  many_ends {x} {p} r (many_more {q = q} {ts = ts} d n m e) is a = many_ends r m is (at_row_next r q is a (inr (q, (ts, d), n, (refl, refl))))

-- so where definitions are read from a place in the text
pub record SomeUnmet (text : List ℕ) (start : ℕ) : Type 0 where
  pub rule : ℕ
  pub place : ℕ
  pub is : IsUnmet text start rule place

pub some_unmet : (text : List ℕ) (start : ℕ) → start ≤ length text → SomeUnmet text start
some_unmet text start fits =
    let o = has_outcome webidl text rank takes ranked DEFINITIONS start fits in
    let is : row_of DEFINITIONS ≡ Many DEFINITION = refl in
    let d = at_row is o.1 in
    let u = many_ends text (Tried text start) (λ r p x q t m. by t m) DEFINITIONS d.1 is (record { tried = at_first (refl, refl); low = omega arith; within = fits }) in
    record { rule = u.rule; place = u.place; is = record { plain = u.plain; tried = u.tried; fails = u.fails } }

pub led_on : (text : List ℕ) {r p a b x q : ℕ} → Leads text r p a b → Tries text r p x q → Leads text x q a b
led_on text {r} {p} {a} {b} {x} {q} (itself s) t = on (subst (λ k. Tries text k b x q) s.0 (subst (λ k. Tries text r k x q) s.1 t)) (itself (refl, refl))
led_on text (on m l) t = on m (led_on text l t)

-- and where a rule fails
pub some_fails : (text : List ℕ) (r p : ℕ) → p ≤ length text → r < rule_count → FailsAt text r p → (x : ℕ) × (q : ℕ) × IsUnmetIn text r p x q
some_fails text r p fits low f =
    let u = rule_fails text (λ x q. Leads text x q r p) (λ y z x q l m. led_on text l m) f refl (record { tried = itself (refl, refl); low = low; within = fits }) in
    (u.rule, u.place, record { plain = u.plain; tried = u.tried; fails = u.fails })

-- and where a rule of repetition is read
pub some_led : (text : List ℕ) (s x start : ℕ) → s < rule_count → row_of s ≡ Many x → start ≤ length text → (r : ℕ) × (p : ℕ) × IsUnmetIn text s start r p
some_led text s x start low is fits =
    let o = has_outcome webidl text rank takes ranked s start fits in
    let d = at_row is o.1 in
    let u = many_ends text (λ y z. Leads text y z s start) (λ y z a b l m. led_on text l m) s d.1 is (record { tried = itself (refl, refl); low = low; within = fits }) in
    (u.rule, u.place, record { plain = u.plain; tried = u.tried; fails = u.fails })
