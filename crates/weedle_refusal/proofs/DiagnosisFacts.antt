-- What a descent from the rule of a whole text on has noted.
use Rattle.std.proofs.Common.{◌≡◌, inl, inr, ℕ, ◌+◌, ◌<◌, ◌≤◌, List, length, true, refl, sym, subst, ◌∙◌, arith}
use Rattle.std.specs.Prelude.{◌↔◌}
use Rattle.std.specs.List.{Contains}
use Rattle.std.proofs.lemmas.Bool.{cases_lt}
use Rattle.weedle_grammar.specs.written.Bound.{rule_count}
use Rattle.weedle_grammar.specs.written.Table.Definitions.{DEFINITION, DEFINITIONS}
use Rattle.weedle_grammar.specs.written.Table.TodayDefinitions.{TODAY_DEFINITIONS, TODAY_PIECE}
use Rattle.weedle_grammar.specs.Rows.{Row, Bytes, OneOf, NotNext, Run, Past, Seq, First, Opt, Many, ListOf, List1, Tail, If}
use Rattle.weedle_grammar.specs.written.Table.{row_of}
use Rattle.weedle_starts.specs.Tries.{RowTries, Leads, itself, on, has_no_parts}
use Rattle.weedle_refusal.specs.Marks.{IsSet}
use Rattle.weedle_refusal.specs.Noted.{Notes, IsUnmetInMarked, AreOpened, IsFurthestFrom}
use Rattle.weedle_refusal.specs.Diagnosis.{IsDiagnosisIn, IsRising, IsUnmetIn}
use Rattle.weedle_refusal.specs.declared.diagnose.noted.Furthest.{Furthest}
use Rattle.weedle_syntax.specs.Dialects.{start_of}
use Rattle.weedle_syntax.specs.declared.dialect.Dialect.{Dialect}
use Rattle.weedle_syntax.specs.declared.dialect.Dialect.TheVariants.{Weedle2, Today}
use Rattle.weedle_refusal.proofs.BoundaryFacts.{led_boundary}
use Rattle.weedle_refusal.proofs.FailureFacts.{some_led}
use Rattle.weedle_starts.proofs.LaterFacts.{tries_later}
use Rattle.weedle_refusal.proofs.LeadFacts.{is_unmet_by, by_unmet}
use Rattle.weedle_refusal.proofs.NotingFacts.{nothing_noted, alike, joined}
use Rattle.weedle_refusal.proofs.OutcomeFacts.{never_so}

-- what is tried where a rule is read: from its place on, in the text
pub led_within : (text : List ℕ) {x q r p : ℕ} → Leads text x q r p → r < rule_count → p ≤ length text → (x < rule_count) × (p ≤ q) × (q ≤ length text)
led_within text (itself s) low fits = let e = s.0 in let d = s.1 in (omega arith, omega arith, omega arith)
led_within text {r = r} {p = p} (on {y = y} {z = z} t l) low fits =
    let m = tries_later text r p fits low y z t in
    let h = led_within text l m.low m.within in
    let after = m.after in
    let further = h.1 in
    (h.0, omega arith, h.2)

-- a row without parts tries nothing
tries_none : (text : List ℕ) (row : Row) (r p x q : ℕ) → has_no_parts row ≡ true → RowTries text row r p x q → ⊥
tries_none text (Bytes b) r p x q h t = t
tries_none text (OneOf c) r p x q h t = t
tries_none text (NotNext c) r p x q h t = t
tries_none text (Run c) r p x q h t = t
tries_none text (Past b) r p x q h t = t
tries_none text (Seq parts) r p x q h t = never_so h
tries_none text (First parts) r p x q h t = never_so h
tries_none text (Opt y) r p x q h t = never_so h
tries_none text (Many y) r p x q h t = never_so h
tries_none text (ListOf y s) r p x q h t = never_so h
tries_none text (List1 y s) r p x q h t = never_so h
tries_none text (Tail y s) r p x q h t = never_so h
tries_none text (If parts k y) r p x q h t = never_so h

alone : (text : List ℕ) {x q y p : ℕ} → has_no_parts (row_of y) ≡ true → Leads text x q y p → x ≡ y
alone text plain (itself s) = s.0
alone text {y = y} {p = p} plain (on {y = a} {z = b} t l) = absurd (tries_none text (row_of y) y p a b plain t)

-- the dialect's rule of a whole text is one of repetition
pub start_low : (dialect : Dialect) → start_of dialect < rule_count
start_low Weedle2 = let low : DEFINITIONS < rule_count = omega arith in low
start_low Today = let low : TODAY_DEFINITIONS < rule_count = omega arith in low

start_repeats : (dialect : Dialect) → (item : ℕ) × (row_of (start_of dialect) ≡ Many item)
start_repeats Weedle2 = (DEFINITION, refl)
start_repeats Today = (TODAY_PIECE, refl)

module _ (dialect : Dialect) (text : List ℕ) (start : ℕ) (fits : start ≤ length text) (old first : Furthest) (at_start : old.place ≡ start) (unmarked : (x : ℕ) → IsSet old.marks x → ⊥) (n : Notes text (IsUnmetIn text (start_of dialect) start) old first) where
  pub first_within : first.place ≤ length text
  first_within = elim n.some [
    | inl e ↦ omega arith
    | inr (x, h) ↦ (led_within text h.tried (start_low dialect) fits).2
  ]

  marked_fail : (x q : ℕ) → IsUnmetInMarked text first rule_count x q → IsUnmetIn text (start_of dialect) start x q
  marked_fail x q (y, low, set, u) = elim (n.sound y set) [ inl k ↦ absurd (unmarked y k.1) | inr k ↦ k.all x q u ]

  fails_marked : (x : ℕ) → IsUnmetIn text (start_of dialect) start x first.place → IsUnmetInMarked text first rule_count x first.place
  fails_marked x u =
      let c = n.complete x u in
      elim (n.sound c.0 c.1) [ inl k ↦ absurd (unmarked c.0 k.1) | inr k ↦ (c.0, k.low, c.1, c.2) ]

  some_first : (r : ℕ) × IsUnmetIn text (start_of dialect) start r first.place
  some_first = elim n.some [
    | inl e ↦ (
        let u = some_led text (start_of dialect) (start_repeats dialect).0 start (start_low dialect) (start_repeats dialect).1 fits in
        let after : start ≤ u.1 = (led_within text u.2.tried (start_low dialect) fits).1 in
        let before : u.1 ≤ first.place = n.furthest u.0 u.1 u.2 in
        let here : u.1 ≡ first.place = omega arith in
        (u.0, subst (IsUnmetIn text (start_of dialect) start u.0) here u.2))
    | inr (x, h) ↦ (x, h)
  ]

  module _ (found : Furthest) (o : AreOpened text first rule_count found) where
    pub same_place : found.place ≡ first.place
    same_place =
        let forward = o.notes.forward in
        let at = o.at in
        elim o.notes.some [
          | inl e ↦ e ∙ o.at
          | inr (x, h) ↦ (let far = n.furthest x found.place (marked_fail x found.place h) in omega arith)
        ]

    plain : (y : ℕ) → IsSet found.marks y → has_no_parts (row_of y) ≡ true
    plain = o.notes.plain o.whole (λ y h. absurd (o.none y h))

    unmet_there : (r : ℕ) → IsSet found.marks r → IsUnmetIn text (start_of dialect) start r found.place
    unmet_there r h = elim (o.notes.sound r h) [
      | inl k ↦ absurd (o.none r k.1)
      | inr k ↦ marked_fail r found.place (k.all r found.place (record { plain = plain r h; tried = itself (refl, refl); fails = k.fails }))
    ]

    marked_there : (r : ℕ) → IsUnmetIn text (start_of dialect) start r found.place → IsSet found.marks r
    marked_there r u =
        let v = subst (IsUnmetIn text (start_of dialect) start r) same_place u in
        let c = o.notes.complete r (subst (IsUnmetInMarked text first rule_count r) (sym same_place) (fails_marked r v)) in
        subst (IsSet found.marks) (sym (alone text (plain c.0 c.1) c.2.tried)) c.1

    pub furthest_found : IsFurthestFrom text (start_of dialect) start found
    furthest_found = record {
      some = (some_first.0, subst (IsUnmetIn text (start_of dialect) start some_first.0) (sym same_place) some_first.1);
      furthest = λ r p u. (let far = n.furthest r p u in let at = same_place in omega arith);
      exact = λ r. (unmet_there r, marked_there r);
    }

pub diagnosed : (dialect : Dialect) (text : List ℕ) (start : ℕ) → start ≤ length text → (found : Furthest) → IsFurthestFrom text (start_of dialect) start found → (expected : List ℕ) → ((r : ℕ) → Contains expected r ↔ ((r < rule_count) × IsSet found.marks r)) → IsRising expected → IsDiagnosisIn dialect text start found.place expected
diagnosed dialect text start fits found f expected are up = record {
  some = (f.some.0, is_unmet_by dialect text start f.some.0 found.place f.some.1);
  furthest = λ r p u. f.furthest r p (by_unmet dialect text start r p u);
  exact = λ r. (
    λ k. is_unmet_by dialect text start r found.place ((f.exact r).0 ((are r).0 k).1),
    λ u. (let v = by_unmet dialect text start r found.place u in (are r).1 ((led_within text v.tried (start_low dialect) fits).0, (f.exact r).1 v)),
  );
  rising = up;
  boundary = λ utf8 b. led_boundary text utf8 f.some.1.tried b;
}

-- the rules that are opened one after another
pub none_opened : (text : List ℕ) (first from : Furthest) → from.place ≡ first.place → from.leaves ≡ true → ((x : ℕ) → IsSet from.marks x → ⊥) → AreOpened text first 0 from
none_opened text first from at leaves none = record {
  from = from;
  at = at;
  whole = leaves;
  none = none;
  notes = nothing_noted (IsUnmetInMarked text first 0) from (λ x q m. absurd (let l : m.0 < 0 = m.1 in omega arith));
}

pub one_opened : (text : List ℕ) (first : Furthest) (n : ℕ) {now new : Furthest} → AreOpened text first n now → IsSet first.marks n → Notes text (IsUnmetIn text n first.place) now new → AreOpened text first (n + 1) new
one_opened text first n o set m = record {
  from = o.from;
  at = o.at;
  whole = o.whole;
  none = o.none;
  notes = joined (IsUnmetInMarked text first (n + 1)) o.notes m (λ x q w. elim (cases_lt w.0 n) [
    | inl l ↦ inl (w.0, l, w.2, w.3)
    | inr l ↦ (
        let below : w.0 < n + 1 = w.1 in
        let same : w.0 ≡ n = omega arith in
        inr (subst (λ y. IsUnmetIn text y first.place x q) same w.3))
  ]) (λ x q w. (let l : w.0 < n = w.1 in (w.0, omega arith, w.2, w.3))) (λ x q u. (n, omega arith, set, u));
}

pub none_more : (text : List ℕ) (first : Furthest) (n : ℕ) {now : Furthest} → AreOpened text first n now → (IsSet first.marks n → ⊥) → AreOpened text first (n + 1) now
none_more text first n o unset = record {
  from = o.from;
  at = o.at;
  whole = o.whole;
  none = o.none;
  notes = alike (IsUnmetInMarked text first (n + 1)) o.notes (λ x q w. (let l : w.0 < n = w.1 in (w.0, omega arith, w.2, w.3))) (λ x q w. elim (cases_lt w.0 n) [
    | inl l ↦ (w.0, l, w.2, w.3)
    | inr l ↦ absurd (
        let below : w.0 < n + 1 = w.1 in
        let same : w.0 ≡ n = omega arith in
        unset (subst (IsSet first.marks) same w.2))
  ]);
}
