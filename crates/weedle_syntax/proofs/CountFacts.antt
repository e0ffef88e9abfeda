-- How many steps a row takes, while it is read.
use Rattle.std.proofs.Common.{◌≡◌, ◌≢◌, inl, inr, ℕ, ◌+◌, List, [], ◌∷◌, true, false, Option, Some, None, refl, sym, subst, ap, arith}
use Rattle.weedle_grammar.specs.Rows.{Row, Seq, First, Opt, Many, ListOf, List1, Tail, If}
use Rattle.weedle_grammar.specs.Meaning.{Piece, ReadsSeq}
use Rattle.weedle_grammar.specs.written.Table.{webidl, row_of}
use Rattle.weedle_grammar.proofs.Takes.{takes}
use Rattle.weedle_rules.specs.Cells.{HasEnd}
use Rattle.weedle_rules.proofs.RowEnds.{pieces_end}
use Rattle.weedle_rules.proofs.ConditionEnds.{NoteEnds, noted, if_along_fails, if_along_ends}
use Rattle.weedle_rules.proofs.OutcomeFacts.{it_ends, it_fails}
use Rattle.weedle_starts.specs.Tries.{EndsWith, TriesHere, has_no_parts}
use Rattle.weedle_syntax.specs.declared.node.Node.{Node}
use Rattle.weedle_syntax.specs.Steps.{Steps, passed, tried, RowSteps, leaf_steps, seq_steps, first_steps, opt_steps, many_last, many_more, list_none, list_more, list1_none, list1_more, tail_last, tail_back, tail_more, if_fails, if_absent, if_present, TurnSteps, turn_end, turn_fails, turn_more, ChoiceSteps, choice_end, choice_fits, choice_next, Spends}
use Rattle.weedle_syntax.proofs.ConditionFacts.{Testing, gave_by}

-- what is left takes as many as Left says, and then all took as many as All says
pub record Counting (Left All : ℕ → Type 0) (old now : ℕ) : Type 0 where
  pub taken : ℕ
  pub is : old ≡ taken + now
  pub onward : (m : ℕ) → Left m → All (taken + m)

module _ {Left All : ℕ → Type 0} where
  pub count_from : (old : ℕ) → ((m : ℕ) → Left m → All m) → Counting Left All old old
  count_from old f = record { taken = 0; is = omega arith; onward = λ m s. let e : m ≡ 0 + m = omega arith in subst All e (f m s) }

  pub count_on : {Call Rest : ℕ → Type 0} {old now new : ℕ} → Counting Left All old now → Spends Call now new → ((k m : ℕ) → Call k → Rest m → Left (k + m)) → Counting Rest All old new
  count_on {Call} {Rest} {old} {now} {new} g s f =
      let a = g.is in
      let b = s.is in
      record {
        taken = g.taken + s.taken;
        is = omega (arith, a, b);
        onward = λ m t.
            let e : g.taken + (s.taken + m) ≡ g.taken + s.taken + m = omega arith in
            subst All e (g.onward (s.taken + m) (f s.taken m s.are t));
      }

  pub count_last : {Call : ℕ → Type 0} {old now new : ℕ} → Counting Left All old now → Spends Call now new → ((k : ℕ) → Call k → Left k) → Spends All old new
  count_last {Call} {old} {now} {new} g s f =
      let a = g.is in
      let b = s.is in
      record { taken = g.taken + s.taken; are = g.onward s.taken (f s.taken s.are); is = omega (arith, a, b) }

  pub count_end : {old now : ℕ} → Counting Left All old now → Left 0 → Spends All old now
  count_end {old} {now} g n =
      let a = g.is in
      record { taken = g.taken + 0; are = g.onward 0 n; is = omega (arith, a) }

pub spends_so : {A B : ℕ → Type 0} {old new : ℕ} → Spends A old new → ((k : ℕ) → A k → B k) → Spends B old new
spends_so s f = record { taken = s.taken; are = f s.taken s.are; is = s.is }

pub spends_both : {A B C : ℕ → Type 0} {old now new : ℕ} → Spends A old now → Spends B now new → ((k m : ℕ) → A k → B m → C (k + m)) → Spends C old new
spends_both {A} {B} {C} {old} {now} {new} s t f =
    let a = s.is in
    let b = t.is in
    record { taken = s.taken + t.taken; are = f s.taken t.taken s.are t.are; is = omega (arith, a, b) }

module _ (text : List ℕ) where
  -- a rule
  pub count_passed : {r p old : ℕ} → HasEnd text r p None → TriesHere text r p → Spends (Steps text r p) old old
  count_passed h here = record { taken = 0; are = passed (it_fails h) here refl; is = omega arith }

  pub count_tried : {r p old mid new : ℕ} → old ≡ 1 + mid → Spends (RowSteps text (row_of r) p) mid new → Spends (Steps text r p) old new
  count_tried {r} {p} {old} {mid} {new} e s =
      let a = s.is in
      record { taken = 1 + s.taken; are = tried s.are refl; is = omega (arith, a, e) }

  -- its row, once that is known
  of_row : (r : ℕ) {p : ℕ} {row : Row} → row_of r ≡ row → (k : ℕ) → RowSteps text row p k → RowSteps text (row_of r) p k
  of_row r {p} is k s = subst (λ z. RowSteps text z p k) (sym is) s

  pub count_leaf : (r : ℕ) {p old : ℕ} {row : Row} → row_of r ≡ row → has_no_parts row ≡ true → Spends (RowSteps text (row_of r) p) old old
  count_leaf r is plain = record { taken = 0; are = of_row r is 0 (leaf_steps plain refl); is = omega arith }

  -- sequences
  pub count_parts : (r : ℕ) {p : ℕ} {parts : List ℕ} (old : ℕ) → row_of r ≡ Seq parts → Counting (TurnSteps text parts p) (RowSteps text (row_of r) p) old old
  count_parts r old is = count_from old (λ m s. of_row r is m (seq_steps s))

  pub count_part : {x at e old now new : ℕ} {rest : List ℕ} {All : ℕ → Type 0} → Counting (TurnSteps text (x ∷ rest) at) All old now → Spends (Steps text x at) now new → HasEnd text x at (Some e) → Counting (TurnSteps text rest e) All old new
  count_part g s h = count_on g s (λ k m a b. turn_more a (it_ends h) b refl)

  pub count_part_fails : {x at old now new : ℕ} {rest : List ℕ} {All : ℕ → Type 0} → Counting (TurnSteps text (x ∷ rest) at) All old now → Spends (Steps text x at) now new → HasEnd text x at None → Spends All old new
  count_part_fails g s h = count_last g s (λ k a. turn_fails a (it_fails h))

  pub count_parts_end : {at old now : ℕ} {All : ℕ → Type 0} → Counting (TurnSteps text [] at) All old now → Spends All old now
  count_parts_end g = count_end g (turn_end refl)

  -- choices
  pub count_choices : (r : ℕ) {p : ℕ} {parts : List ℕ} (old : ℕ) → row_of r ≡ First parts → Counting (ChoiceSteps text parts p) (RowSteps text (row_of r) p) old old
  count_choices r old is = count_from old (λ m s. of_row r is m (first_steps s))

  pub count_choice : {x p old now new : ℕ} {rest : List ℕ} {All : ℕ → Type 0} → Counting (ChoiceSteps text (x ∷ rest) p) All old now → Spends (Steps text x p) now new → HasEnd text x p None → Counting (ChoiceSteps text rest p) All old new
  count_choice g s h = count_on g s (λ k m a b. choice_next a (it_fails h) b refl)

  pub count_choice_fits : {x p e old now new : ℕ} {rest : List ℕ} {All : ℕ → Type 0} → Counting (ChoiceSteps text (x ∷ rest) p) All old now → Spends (Steps text x p) now new → HasEnd text x p (Some e) → Spends All old new
  count_choice_fits g s h = count_last g s (λ k a. choice_fits a (it_ends h))

  pub count_choices_end : {p old now : ℕ} {All : ℕ → Type 0} → Counting (ChoiceSteps text [] p) All old now → Spends All old now
  count_choices_end g = count_end g (choice_end refl)

  -- options and lists
  pub count_optional : (r : ℕ) {y p old new : ℕ} → row_of r ≡ Opt y → Spends (Steps text y p) old new → Spends (RowSteps text (row_of r) p) old new
  count_optional r is s = spends_so s (λ k a. of_row r is k (opt_steps a))

  pub count_no_list : (r : ℕ) {y t p old new : ℕ} → row_of r ≡ ListOf y t → Spends (Steps text y p) old new → HasEnd text y p None → Spends (RowSteps text (row_of r) p) old new
  count_no_list r is s h = spends_so s (λ k a. of_row r is k (list_none a (it_fails h)))

  pub count_list : (r : ℕ) {y t p q old now new : ℕ} → row_of r ≡ ListOf y t → Spends (Steps text y p) old now → HasEnd text y p (Some q) → Spends (Steps text t q) now new → Spends (RowSteps text (row_of r) p) old new
  count_list r is s h t = spends_both s t (λ k m a b. of_row r is (k + m) (list_more a (it_ends h) b refl))

  pub count_no_list1 : (r : ℕ) {y t p old new : ℕ} → row_of r ≡ List1 y t → Spends (Steps text y p) old new → HasEnd text y p None → Spends (RowSteps text (row_of r) p) old new
  count_no_list1 r is s h = spends_so s (λ k a. of_row r is k (list1_none a (it_fails h)))

  pub count_list1 : (r : ℕ) {y t p q old now new : ℕ} → row_of r ≡ List1 y t → Spends (Steps text y p) old now → HasEnd text y p (Some q) → Spends (Steps text t q) now new → Spends (RowSteps text (row_of r) p) old new
  count_list1 r is s h t = spends_both s t (λ k m a b. of_row r is (k + m) (list1_more a (it_ends h) b refl))

  -- repetitions
  pub count_items : (r : ℕ) {y p : ℕ} (old : ℕ) → row_of r ≡ Many y → Counting (RowSteps text (Many y) p) (RowSteps text (row_of r) p) old old
  count_items r old is = count_from old (of_row r is)

  pub count_item : {y at e old now new : ℕ} {All : ℕ → Type 0} → Counting (RowSteps text (Many y) at) All old now → Spends (Steps text y at) now new → HasEnd text y at (Some e) → e ≢ at → Counting (RowSteps text (Many y) e) All old new
  count_item g s h n = count_on g s (λ k m a b. many_more a (it_ends h) n b refl)

  pub count_items_end : {y at old now new : ℕ} {All : ℕ → Type 0} → Counting (RowSteps text (Many y) at) All old now → Spends (Steps text y at) now new → HasEnd text y at None → Spends All old new
  count_items_end g s h = count_last g s (λ k a. many_last a (inl (it_fails h)))

  pub count_items_stuck : {y at e old now new : ℕ} {All : ℕ → Type 0} → Counting (RowSteps text (Many y) at) All old now → Spends (Steps text y at) now new → HasEnd text y at (Some e) → e ≡ at → Spends All old new
  count_items_stuck {y} {at} g s h n = count_last g s (λ k a. many_last a (inr (it_ends (subst (λ z. HasEnd text y at (Some z)) n h))))

  -- items behind separators
  pub count_tail : (r : ℕ) {y s p : ℕ} (old : ℕ) → row_of r ≡ Tail y s → Counting (RowSteps text (Tail y s) p) (RowSteps text (row_of r) p) old old
  count_tail r old is = count_from old (of_row r is)

  pub count_tail_end : {y s at old now new : ℕ} {All : ℕ → Type 0} → Counting (RowSteps text (Tail y s) at) All old now → Spends (Steps text s at) now new → HasEnd text s at None → Spends All old new
  count_tail_end g t h = count_last g t (λ k a. tail_last a (inl (it_fails h)))

  pub count_tail_stuck : {y s at e old now new : ℕ} {All : ℕ → Type 0} → Counting (RowSteps text (Tail y s) at) All old now → Spends (Steps text s at) now new → HasEnd text s at (Some e) → e ≡ at → Spends All old new
  count_tail_stuck {y} {s} {at} g t h n = count_last g t (λ k a. tail_last a (inr (it_ends (subst (λ z. HasEnd text s at (Some z)) n h))))

  pub count_tail_back : {y s at q old now mid new : ℕ} {All : ℕ → Type 0} → Counting (RowSteps text (Tail y s) at) All old now → Spends (Steps text s at) now mid → HasEnd text s at (Some q) → q ≢ at → Spends (Steps text y q) mid new → HasEnd text y q None → Spends All old new
  count_tail_back {y} {s} {at} g t h n u k =
      count_last g (spends_both t u (λ a b i j. tail_back {y = y} i (it_ends h) n j (it_fails k) refl)) (λ a i. i)

  pub count_tail_on : {y s at q e old now mid new : ℕ} {All : ℕ → Type 0} → Counting (RowSteps text (Tail y s) at) All old now → Spends (Steps text s at) now mid → HasEnd text s at (Some q) → q ≢ at → Spends (Steps text y q) mid new → HasEnd text y q (Some e) → Counting (RowSteps text (Tail y s) e) All old new
  count_tail_on {y} {s} {at} {q} {e} g t h n u k =
      let Behind : ℕ → Type 0 = λ z. (l : ℕ) × (m : ℕ) × Steps text y q l × RowSteps text (Tail y s) e m × (z ≡ l + m) in
      let first : Counting Behind _ _ _ = count_on g t (λ a z i b. tail_more i (it_ends h) n b.2 (it_ends k) b.3 (ap (λ w. a + w) b.4)) in
      count_on first u (λ l m i j. (l, m, i, j, refl))

  -- sequences with a condition
  pub count_conditional : {p : ℕ} {parts : List ℕ} (old : ℕ) → Counting (TurnSteps text parts p) (TurnSteps text parts p) old old
  count_conditional old = count_from old (λ m s. s)

  ends_with : (parts : List ℕ) (k p q : ℕ) → NoteEnds webidl text (inl k) parts p (Some q) true → EndsWith text parts k p q
  ends_with parts k p q n = by n.pieces n.reads n.is n.note_is
    where
      by : (o : Option (List Piece)) → ReadsSeq webidl text parts p o → Some q ≡ pieces_end p o → ((ps : List Piece) → o ≡ Some ps → noted webidl text (inl k) ps ≡ true) → EndsWith text parts k p q
      by None h i f = cc
      by (Some ps) h i f = (ps, h, f ps refl, cc)

  fails_with : (parts : List ℕ) (k p : ℕ) → NoteEnds webidl text (inl k) parts p None false → ReadsSeq webidl text parts p None
  fails_with parts k p n = by n.pieces n.reads n.is
    where
      by : (o : Option (List Piece)) → ReadsSeq webidl text parts p o → None ≡ pieces_end p o → ReadsSeq webidl text parts p None
      by None h i = h
      by (Some ps) h i = cc

  module _ (r k y p d : ℕ) (parts : List ℕ) (nodes : List Node) (is : row_of r ≡ If parts k y) where
    pub count_no_condition : (x : ℕ) (rest : List ℕ) (at : ℕ) (now : List Node) {note : _} {old mid new : ℕ} → Testing text r k p d parts nodes (x ∷ rest) note at now → Counting (TurnSteps text (x ∷ rest) at) (TurnSteps text parts p) old mid → Spends (Steps text x at) mid new → HasEnd text x at None → Spends (RowSteps text (row_of r) p) old new
    count_no_condition x rest at now {note} t g s h =
        let fails = fails_with parts k p (if_along_fails webidl text takes r k p x at parts rest note t.along h) in
        spends_so (count_part_fails g s h) (λ n a. of_row r is n (if_fails a fails))

    pub count_absent : (at : ℕ) (now : List Node) {old mid : ℕ} → Testing text r k p d parts nodes [] (inr false) at now → Counting (TurnSteps text [] at) (TurnSteps text parts p) old mid → Spends (RowSteps text (row_of r) p) old mid
    count_absent at now t g =
        let gave = gave_by text parts k p at false (if_along_ends webidl text takes r k p at parts false t.along) in
        spends_so (count_parts_end g) (λ n a. of_row r is n (if_absent a gave))

    pub count_present : (at : ℕ) (now : List Node) {old mid new : ℕ} → Testing text r k p d parts nodes [] (inr true) at now → Counting (TurnSteps text [] at) (TurnSteps text parts p) old mid → Spends (Steps text y at) mid new → Spends (RowSteps text (row_of r) p) old new
    count_present at now t g s =
        let gave = ends_with parts k p at (if_along_ends webidl text takes r k p at parts true t.along) in
        spends_both (count_parts_end g) s (λ n m a b. of_row r is (n + m) (if_present a gave b refl))
