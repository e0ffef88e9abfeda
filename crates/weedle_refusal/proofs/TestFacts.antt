-- Sequences with a condition that are read by descent.
use Rattle.std.proofs.Common.{◌≡◌, ◌⊎◌, inl, inr, ℕ, ◌<◌, ◌≤◌, List, [], ◌∷◌, length, true, false, Option, Some, None, refl, subst, ◌∙◌}
use Rattle.weedle_grammar.specs.Rows.{If}
use Rattle.weedle_grammar.specs.written.Table.{webidl, row_of}
use Rattle.weedle_grammar.specs.written.Bound.{rule_count}
use Rattle.weedle_grammar.proofs.Takes.{takes}
use Rattle.weedle_grammar.proofs.Checked.{ranked}
use Rattle.weedle_rules.specs.Cells.{HasEnd, turn_number}
use Rattle.weedle_rules.proofs.RowEnds.{rule_ends}
use Rattle.weedle_rules.proofs.ConditionEnds.{Note, NoteEnds, AlongIf, if_start, if_along_fails, if_along_ends, if_ends_none, if_ends_absent, if_ends_present}
use Rattle.weedle_rules.proofs.OutcomeFacts.{it_ends}
use Rattle.weedle_starts.specs.Tries.{SameAttempt, TriesInTurn, EndsWith, RowTries}
use Rattle.weedle_refusal.specs.Diagnosis.{IsUnmetIn}
use Rattle.weedle_refusal.specs.Noted.{Notes}
use Rattle.weedle_refusal.specs.declared.diagnose.noted.Furthest.{Furthest}
use Rattle.weedle_refusal.proofs.AddingFacts.{Attempts}
use Rattle.weedle_refusal.proofs.OutcomeFacts.{same_end, no_end}
use Rattle.weedle_refusal.proofs.ConditionFacts.{one_end, breaks_off, ends_so, gave_none}
use Rattle.weedle_refusal.proofs.NotingFacts.{Left, set_out, go_on, finish, arrive}
use Rattle.weedle_refusal.proofs.LeadFacts.{row_before, by_its_row}

-- parts that are left from a place on, and the last one behind all of them
abbrev pub AndLast : List ℕ → List ℕ → List ℕ → ℕ → ℕ → ℕ → ℕ → Attempts
AndLast text parts rest k y p at x q = TriesInTurn text rest at x q ⊎ ((e : ℕ) × EndsWith text parts k p e × SameAttempt y e x q)

-- the parts `rest` are left, from `at` on
pub record Testing (text : List ℕ) (r k y p : ℕ) (parts : List ℕ) (old : Furthest) (rest : List ℕ) (note : Note webidl text) (at : ℕ) (now : Furthest) : Type 0 where
  pub along : AlongIf webidl text takes r k p parts rest note at
  pub left : Left text old (RowTries text (If parts k y) r p) now (AndLast text parts rest k y p at)

module _ (text : List ℕ) (r k y p : ℕ) (parts : List ℕ) (is : row_of r ≡ If parts k y) {old : Furthest} where
  pub testing_start : p ≤ length text → Testing text r k y p parts old parts (inl k) p old
  testing_start l = record { along = if_start webidl text takes ranked r k y p parts is l; left = set_out text old (RowTries text (If parts k y) r p) }

  module _ {x : ℕ} {rest : List ℕ} {note : Note webidl text} {at : ℕ} {now : Furthest} (g : Testing text r k y p parts old (x ∷ rest) note at now) where
    pub testing_before : p ≤ length text → r < rule_count → (at ≤ length text) × (x < rule_count) × (turn_number (length text) x at < turn_number (length text) r p)
    testing_before fits low = row_before text is fits low (g.left.from x at (inl (inl (refl, refl))))

    pub testing_fails : HasEnd text x at None → HasEnd text r p None
    testing_fails h = rule_ends is (if_ends_none webidl text parts k y p (if_along_fails webidl text takes r k p x at parts rest note g.along h))

    pub fails_noted : {new : Furthest} → Notes text (IsUnmetIn text x at) now new → HasEnd text x at None → Notes text (IsUnmetIn text r p) old new
    fails_noted n h = by_its_row text r p is refl (finish g.left x at n (λ w q t. elim t [
      | inl (inl i) ↦ i
      | inl (inr i) ↦ absurd (no_end h i.1)
      | inr i ↦ absurd (breaks_off text parts k p i.0 false (if_along_fails webidl text takes r k p x at parts rest note g.along h) i.1)
    ]) (inl (inl (refl, refl))))

    pub testing_step : {next : Note webidl text} {e : ℕ} {new : Furthest} → AlongIf webidl text takes r k p parts rest next e → HasEnd text x at (Some e) → Notes text (IsUnmetIn text x at) now new → Testing text r k y p parts old rest next e new
    testing_step {e = e} along h n = record {
      along = along;
      left = go_on g.left x at (AndLast text parts rest k y p e) n (λ w q t. elim t [
        | inl (inl i) ↦ inl i
        | inl (inr i) ↦ inr (inl (subst (λ z. TriesInTurn text rest z w q) (same_end h i.1) i.2))
        | inr i ↦ inr (inr i)
      ]) (inl (inl (refl, refl))) (λ w q t. elim t [
        | inl i ↦ inl (inr (e, it_ends h, i))
        | inr i ↦ inr i
      ]);
    }

  module _ {at : ℕ} {now : Furthest} where
    absent : Testing text r k y p parts old [] (inr false) at now → NoteEnds webidl text (inl k) parts p (Some at) false
    absent g = if_along_ends webidl text takes r k p at parts false g.along

    present : Testing text r k y p parts old [] (inr true) at now → NoteEnds webidl text (inl k) parts p (Some at) true
    present g = if_along_ends webidl text takes r k p at parts true g.along

    pub absent_end : Testing text r k y p parts old [] (inr false) at now → HasEnd text r p (Some at)
    absent_end g = rule_ends is (if_ends_absent webidl text parts k y p at (absent g))

    pub absent_noted : Testing text r k y p parts old [] (inr false) at now → Notes text (IsUnmetIn text r p) old now
    absent_noted g = by_its_row text r p is refl (arrive g.left (λ w q t. elim t [ inl i ↦ i | inr i ↦ gave_none text parts k p at i.0 (absent g) i.1 ]))

    behind_all : Testing text r k y p parts old [] (inr true) at now → EndsWith text parts k p at
    behind_all g = ends_so text parts k p at (present g)

    pub present_before : Testing text r k y p parts old [] (inr true) at now → p ≤ length text → r < rule_count → (at ≤ length text) × (y < rule_count) × (turn_number (length text) y at < turn_number (length text) r p)
    present_before g fits low = row_before text is fits low (inr (at, behind_all g, (refl, refl)))

    pub present_end : (o : Option ℕ) → Testing text r k y p parts old [] (inr true) at now → HasEnd text y at o → HasEnd text r p o
    present_end o g h = rule_ends is (if_ends_present webidl text parts k y p at o (present g) h)

    pub present_noted : {new : Furthest} → Testing text r k y p parts old [] (inr true) at now → Notes text (IsUnmetIn text y at) now new → Notes text (IsUnmetIn text r p) old new
    present_noted g n = by_its_row text r p is refl (finish g.left y at n (λ w q t. elim t [
      | inl i ↦ absurd i
      | inr i ↦ (i.2.0, i.2.1 ∙ one_end text parts k p i.0 at i.1 (behind_all g))
    ]) (inr (at, behind_all g, (refl, refl))))
