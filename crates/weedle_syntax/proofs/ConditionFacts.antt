-- Sequences with a condition that are being read.
use Rattle.std.proofs.Common.{◌≡◌, inl, inr, ℕ, ◌<◌, ◌≤◌, List, [], ◌∷◌, ◌++◌, length, Bool, true, false, Option, Some, None, refl, sym, subst, append_assoc, append-nil}
use Rattle.weedle_grammar.specs.Rows.{If}
use Rattle.weedle_grammar.specs.Meaning.{Piece, ReadsSeq}
use Rattle.weedle_grammar.specs.written.Table.{webidl, row_of}
use Rattle.weedle_grammar.specs.written.Bound.{rule_count}
use Rattle.weedle_grammar.proofs.Takes.{takes}
use Rattle.weedle_grammar.proofs.Checked.{ranked}
use Rattle.weedle_grammar.proofs.Leaves.{both}
use Rattle.weedle_rules.specs.Cells.{HasEnd, turn_number}
use Rattle.weedle_rules.proofs.RowEnds.{turn_before, rule_ends, pieces_end}
use Rattle.weedle_rules.proofs.PartEnds.{below}
use Rattle.weedle_rules.proofs.ConditionEnds.{Note, NoteEnds, noted, AlongIf, if_start, if_before, if_along_fails, if_along_ends, if_ends_none, if_ends_absent, if_ends_present, if_next_low}
use Rattle.weedle_rules.proofs.OutcomeFacts.{it_ends}
use Rattle.weedle_syntax.specs.declared.node.Node.{Node}
use Rattle.weedle_syntax.specs.Parts.{AreInTurn, Gave}
use Rattle.weedle_syntax.specs.Laid.{node, Adds, LaysNode, LaysParts}
use Rattle.weedle_syntax.proofs.TurnFacts.{is_node, one_node, turn_append}
use Rattle.weedle_syntax.proofs.LayFacts.{by_its_row}
use Rattle.weedle_syntax.proofs.RepeatFacts.{row_named}
use Rattle.weedle_syntax.proofs.DescentFacts.{none_added, more_added, still_added, added_length, some_more}

-- the parts `rest` are left, from `at` on
pub record Testing (text : List ℕ) (r k p d : ℕ) (parts : List ℕ) (old : List Node) (rest : List ℕ) (note : Note webidl text) (at : ℕ) (now : List Node) : Type 0 where
  pub along : AlongIf webidl text takes r k p parts rest note at
  pub inner : List Node
  pub adds : Adds text inner old now
  pub onward : (ns : List Node) (e : ℕ) → AreInTurn text rest d at e ns → AreInTurn text parts d p e (inner ++ ns)

pub gave_by : (text parts : List ℕ) (k p q : ℕ) (b : Bool) → NoteEnds webidl text (inl k) parts p (Some q) b → Gave text parts k p b
gave_by text parts k p q b n = by n.pieces n.reads n.is n.note_is
  where
    by : (o : Option (List Piece)) → ReadsSeq webidl text parts p o → Some q ≡ pieces_end p o → ((ps : List Piece) → o ≡ Some ps → noted webidl text (inl k) ps ≡ b) → Gave text parts k p b
    by None h i f = cc
    by (Some ps) h i f = (ps, h, f ps refl)

module _ (text : List ℕ) (r k y p d : ℕ) (parts : List ℕ) (old : List Node) (is : row_of r ≡ If parts k y) where
  pub testing_start : p ≤ length text → Testing text r k p d parts old parts (inl k) p old
  testing_start l = record { along = if_start webidl text takes ranked r k y p parts is l; inner = []; adds = none_added text old; onward = λ ns e a. a }

  pub testing_before : (x : ℕ) (rest : List ℕ) (note : Note webidl text) (at : ℕ) (now : List Node) → Testing text r k p d parts old (x ∷ rest) note at now → x < rule_count → turn_number (length text) x at < turn_number (length text) r p
  testing_before x rest note at now g l = if_before webidl text takes ranked r k p x at parts rest note g.along l

  pub testing_fails : (x : ℕ) (rest : List ℕ) (note : Note webidl text) (at : ℕ) (now : List Node) → Testing text r k p d parts old (x ∷ rest) note at now → HasEnd text x at None → HasEnd text r p None
  testing_fails x rest note at now g h = rule_ends is (if_ends_none webidl text parts k y p (if_along_fails webidl text takes r k p x at parts rest note g.along h))

  pub testing_more : (rest : List ℕ) (note : Note webidl text) (at : ℕ) (now new : List Node) → Testing text r k p d parts old rest note at now → new ≡ now → (more : List Node) × (new ≡ old ++ more)
  testing_more rest note at now new g e = some_more text g.inner old new (still_added text g.inner old now new g.adds e)

  pub testing_step : (x : ℕ) (rest : List ℕ) (note next : Note webidl text) (at e : ℕ) (now new : List Node) → Testing text r k p d parts old (x ∷ rest) note at now → AlongIf webidl text takes r k p parts rest next e → HasEnd text x at (Some e) → Adds text (node x at e d ∷ []) now new
      → Testing text r k p d parts old rest next e new
  testing_step x rest note next at e now new g along h a = record {
    along = along;
    inner = g.inner ++ node x at e d ∷ [];
    adds = more_added text g.inner (node x at e d ∷ []) old now new g.adds a;
    onward = λ ns z j. subst (AreInTurn text parts d p z) (sym (append_assoc g.inner (node x at e d ∷ []) ns)) (g.onward (node x at e d ∷ ns) z (is_node text x d at e (it_ends h), j));
  }

  module _ (at : ℕ) (now : List Node) where
    all_parts : (note : Note webidl text) (g : Testing text r k p d parts old [] note at now) → AreInTurn text parts d p at g.inner
    all_parts note g = subst (AreInTurn text parts d p at) (append-nil g.inner) (g.onward [] at (refl, refl))

    pub absent_end : Testing text r k p d parts old [] (inr false) at now → HasEnd text r p (Some at)
    absent_end g = rule_ends is (if_ends_absent webidl text parts k y p at (if_along_ends webidl text takes r k p at parts false g.along))

    pub absent_laid : Testing text r k p d parts old [] (inr false) at now → LaysParts text r p d old now (Some at)
    absent_laid g = (g.inner, by_its_row text r d p at g.inner is (inr (gave_by text parts k p at false (if_along_ends webidl text takes r k p at parts false g.along), all_parts (inr false) g)), g.adds)

    pub present_end : (o : Option ℕ) → Testing text r k p d parts old [] (inr true) at now → HasEnd text y at o → HasEnd text r p o
    present_end o g h = rule_ends is (if_ends_present webidl text parts k y p at o (if_along_ends webidl text takes r k p at parts true g.along) h)

    pub present_laid : (new : List Node) (o : Option ℕ) → Testing text r k p d parts old [] (inr true) at now → HasEnd text y at o → LaysNode text y at d now new o → LaysParts text r p d old new o
    present_laid new None g h a = some_more text g.inner old new (still_added text g.inner old now new g.adds a)
    present_laid new (Some e) g h a = (
      g.inner ++ node y at e d ∷ [],
      by_its_row text r d p e (g.inner ++ node y at e d ∷ []) is (inl (gave_by text parts k p at true (if_along_ends webidl text takes r k p at parts true g.along), turn_append text parts (y ∷ []) d p at e g.inner (node y at e d ∷ []) (all_parts (inr true) g) (one_node text y d at e (it_ends h)))),
      more_added text g.inner (node y at e d ∷ []) old now new g.adds a,
    )

    pub testing_next : Testing text r k p d parts old [] (inr true) at now → (at ≤ length text) × (y < rule_count) × (turn_number (length text) y at < turn_number (length text) r p)
    testing_next g =
        let low : y < rule_count = below _ _ (both _ _ (row_named r is)).1 in
        let a = g.along in
        (a.within, low, turn_before p at y r (length text) a.after a.within low (λ s. if_next_low webidl text takes ranked r k y p at parts is (if_along_ends webidl text takes r k p at parts true a) a.after s))

    pub testing_length : (note : Note webidl text) → Testing text r k p d parts old [] note at now → length old ≤ length now
    testing_length note g = added_length text g.inner old now g.adds
