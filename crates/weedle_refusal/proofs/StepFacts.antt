-- How many rules a descent tries: in rows with a condition, and where marked rules are read again.
use Rattle.std.proofs.Common.{◌≡◌, inl, inr, ℕ, ◌+◌, ◌-◌, ◌*◌, ◌≤◌, List, [], ◌∷◌, true, false, Option, Some, None, refl, sym, subst, arith}
use Rattle.std.specs.Prelude.{IfSome}
use Rattle.weedle_grammar.specs.Meaning.{Piece, ReadsSeq}
use Rattle.weedle_grammar.specs.Rows.{Row, If}
use Rattle.weedle_grammar.specs.written.Table.{webidl, row_of}
use Rattle.weedle_syntax.specs.Dialects.{start_of}
use Rattle.weedle_syntax.specs.declared.dialect.Dialect.{Dialect}
use Rattle.weedle_grammar.proofs.Takes.{takes}
use Rattle.weedle_rules.specs.Cells.{HasEnd}
use Rattle.weedle_rules.proofs.ConditionEnds.{Note, NoteEnds, noted, if_along_fails, if_along_ends}
use Rattle.weedle_rules.proofs.RowEnds.{pieces_end}
use Rattle.weedle_syntax.specs.Steps.{RowSteps, Spends, Steps, TurnSteps, if_absent, if_fails, if_present}
use Rattle.weedle_syntax.proofs.ConditionFacts.{gave_by}
use Rattle.weedle_syntax.proofs.CountFacts.{Counting, count_part_fails, count_parts_end, spends_both, spends_so}
use Rattle.weedle_refusal.specs.Descent.{AtMostSteps, DescentSteps, DescentStepsIn, EachSteps, none, one_more}
use Rattle.weedle_refusal.specs.declared.diagnose.diagnosis.Diagnosis.{Diagnosis}
use Rattle.weedle_refusal.specs.declared.diagnose.noted.Furthest.{Furthest}
use Rattle.weedle_refusal.proofs.ConditionFacts.{ends_so}
use Rattle.weedle_refusal.proofs.TestFacts.{Testing}

module _ (text : List ℕ) where
  of_row : (r : ℕ) {p : ℕ} {row : Row} → row_of r ≡ row → (k : ℕ) → RowSteps text row p k → RowSteps text (row_of r) p k
  of_row r {p} is k s = subst (λ z. RowSteps text z p k) (sym is) s

  fails_with : (parts : List ℕ) (k p : ℕ) → NoteEnds webidl text (inl k) parts p None false → ReadsSeq webidl text parts p None
  fails_with parts k p n = by n.pieces n.reads n.is
    where
      by : (o : Option (List Piece)) → ReadsSeq webidl text parts p o → None ≡ pieces_end p o → ReadsSeq webidl text parts p None
      by None h i = h
      by (Some ps) h i = cc

  module _ (r k y p : ℕ) (parts : List ℕ) (is : row_of r ≡ If parts k y) {first : Furthest} where
    pub count_no_condition : {x : ℕ} {rest : List ℕ} {note : Note webidl text} {at : ℕ} {now : Furthest} {old mid new : ℕ} → Testing text r k y p parts first (x ∷ rest) note at now
        → Counting (TurnSteps text (x ∷ rest) at) (TurnSteps text parts p) old mid → Spends (Steps text x at) mid new → HasEnd text x at None → Spends (RowSteps text (row_of r) p) old new
    count_no_condition {x} {rest} {note} {at} t g s h =
        let fails = fails_with parts k p (if_along_fails webidl text takes r k p x at parts rest note t.along h) in
        spends_so (count_part_fails text g s h) (λ n a. of_row r is n (if_fails a fails))

    pub count_absent : {at : ℕ} {now : Furthest} {old mid : ℕ} → Testing text r k y p parts first [] (inr false) at now → Counting (TurnSteps text [] at) (TurnSteps text parts p) old mid → Spends (RowSteps text (row_of r) p) old mid
    count_absent {at} t g =
        let gave = gave_by text parts k p at false (if_along_ends webidl text takes r k p at parts false t.along) in
        spends_so (count_parts_end text g) (λ n a. of_row r is n (if_absent a gave))

    pub count_present : {at : ℕ} {now : Furthest} {old mid new : ℕ} → Testing text r k y p parts first [] (inr true) at now → Counting (TurnSteps text [] at) (TurnSteps text parts p) old mid
        → Spends (Steps text y at) mid new → Spends (RowSteps text (row_of r) p) old new
    count_present {at} t g s =
        let gave = ends_so text parts k p at (if_along_ends webidl text takes r k p at parts true t.along) in
        spends_both (count_parts_end text g) s (λ n m a b. of_row r is (n + m) (if_present a gave b refl))

  -- rules that are read again at a place, the last first
  abbrev pub Opening : ℕ → ℕ → ℕ → Type 0
  Opening p old new = (rules : List ℕ) × Spends (EachSteps text p rules) old new

  pub count_none : (p old : ℕ) → Opening p old old
  count_none p old = ([], record { taken = 0; are = none refl; is = omega arith })

  pub count_one : {r p old mid new : ℕ} → Opening p old mid → Spends (Steps text r p) mid new → Opening p old new
  count_one {r} {p} {old} {mid} {new} o s =
      let a = o.1.is in
      let b = s.is in
      (r ∷ o.0, record { taken = s.taken + o.1.taken; are = one_more s.are o.1.are refl; is = omega (arith, a, b) })

  -- both readings
  pub count_both : (dialect : Dialect) {start p old mid new : ℕ} → Spends (Steps text (start_of dialect) start) old mid → Opening p mid new
      → Spends (DescentStepsIn dialect text start p) old new
  count_both dialect {start} {p} {old} {mid} {new} s o =
      let a = s.is in
      let b = o.1.is in
      record {
        taken = s.taken + o.1.taken;
        are = record { first = s.taken; reads = s.are; opened = o.0; second = o.1.taken; opens = o.1.are; is = refl };
        is = omega (arith, a, b);
      }

  pub at_most : {start p old new most : ℕ} → Spends (DescentSteps text start p) old new → old ≤ most → AtMostSteps text start p most
  at_most {start} {p} {old} {new} {most} s few =
      let a = s.is in
      record { steps = s.taken; are = s.are; few = omega (arith, a, few) }

  pub found_at_most : (start old new : ℕ) {most : ℕ} (found : Option Diagnosis) → IfSome found (λ d. Spends (DescentSteps text start d.place) old new) → old ≤ most → IfSome found (λ d. AtMostSteps text start d.place most)
  found_at_most start old new None s few = tt
  found_at_most start old new (Some d) s few = at_most s few
