-- Nodes that are written one after another.
use Rattle.std.proofs.Common.{◌≡◌, ◌≢◌, inl, inr, ℕ, ◌<◌, ◌≤◌, List, [], ◌∷◌, ◌++◌, length, get_or, Bool, true, false, Some, None, refl, sym, subst, ◌∙◌, ap, arith, append_assoc, append-nil}
use Rattle.weedle_grammar.specs.Rows.{Row, Seq, First, Opt, Many, List1, Tail, If}
use Rattle.weedle_grammar.specs.Trees.{Tree, Gives}
use Rattle.weedle_grammar.specs.Meaning.{Piece, ReadsSeq, ReadsFirst, first_none, last_end}
use Rattle.weedle_grammar.specs.written.Table.{webidl, row_of}
use Rattle.weedle_grammar.specs.written.Bound.{rule_count}
use Rattle.weedle_grammar.proofs.Inversion.{of_choice}
use Rattle.weedle_rules.specs.Cells.{HasEnd}
use Rattle.weedle_rules.proofs.FewReads.{if_switch}
use Rattle.weedle_rules.specs.Outcomes.{EndsAt}
use Rattle.weedle_rules.proofs.OutcomeFacts.{it_ends, it_fails, one_end, not_both}
use Rattle.weedle_syntax.specs.declared.node.Node.{Node}
use Rattle.weedle_syntax.specs.Parts.{AreInTurn, IsFirst, AreItems, AreFollowing, AreListed, ListReads, AreParts, Gave}
use Rattle.weedle_starts.proofs.ReadFacts.{AreRead, first_part, ends_inside, ends_after, first_reads, opt_reads, list1_item, many_goes, many_stops, tail_goes, tail_stops, tail_turns_back, if_reads}
use Rattle.weedle_syntax.specs.Laid.{node}
use Rattle.weedle_syntax.proofs.TurnFacts.{is_node, one_node, sequence_end, turn_append, turn_end_is, turn_length, Tells, tells}

-- by a rule's row
pub by_its_row : (text : List ℕ) (r d p e : ℕ) (ns : List Node) {row : Row} → row_of r ≡ row → AreParts text row d p e ns → AreParts text (row_of r) d p e ns
by_its_row text r d p e ns is a = subst (λ row. AreParts text row d p e ns) (sym is) a

-- one node more
pushed : (F : List Node → Type 0) (inner new rest : List Node) (n : Node) → new ≡ inner ++ n ∷ [] → F (inner ++ (n ∷ rest)) → F (new ++ rest)
pushed F inner new rest n is h = subst (λ s. F (s ++ rest)) (sym is) (subst F (sym (append_assoc inner (n ∷ []) rest)) h)

-- a sequence of which the parts `rest` are left, from `at` on
pub record Laying (text parts : List ℕ) (d p : ℕ) (rest : List ℕ) (at : ℕ) (inner : List Node) : Type 0 where
  pub onward : (ns : List Node) (e : ℕ) → AreInTurn text rest d at e ns → AreInTurn text parts d p e (inner ++ ns)
  pub reads : AreRead text rest at
  pub within : at ≤ length text

module _ (text parts : List ℕ) (d p : ℕ) where
  pub set_out : (inner : List Node) → inner ≡ [] → AreRead text parts p → p ≤ length text → Laying text parts d p parts p inner
  set_out inner is r l = record { onward = λ ns e a. subst (λ s. AreInTurn text parts d p e (s ++ ns)) (sym is) a; reads = r; within = l }

  pub one_part : (r : ℕ) (rest : List ℕ) (at e : ℕ) (inner new : List Node) → new ≡ inner ++ node r at e d ∷ [] → Laying text parts d p (r ∷ rest) at inner → HasEnd text r at (Some e) → Laying text parts d p rest e new
  one_part r rest at e inner new is g h =
      let f = first_part text r rest at g.reads in
      record {
        onward = λ ns z a. pushed (AreInTurn text parts d p z) inner new ns (node r at e d) is (g.onward (node r at e d ∷ ns) z (is_node text r d at e (it_ends h), a));
        reads = subst (AreRead text rest) (one_end (it_ends h) f.1) f.2;
        within = ends_inside (it_ends h) g.within;
      }

  pub no_part_fails : {A : Type 0} (r : ℕ) (rest : List ℕ) (at : ℕ) (inner : List Node) → Laying text parts d p (r ∷ rest) at inner → HasEnd text r at None → A
  no_part_fails r rest at inner g h = absurd (not_both (it_fails h) (first_part text r rest at g.reads).1)

  pub finish : (at : ℕ) (inner : List Node) → Laying text parts d p [] at inner → AreInTurn text parts d p at inner
  finish at inner g = subst (AreInTurn text parts d p at) (append-nil inner) (g.onward [] at (refl, refl))

-- a choice of which the parts `rest` are left; it ends at e
pub record Choosing (text parts : List ℕ) (d p e : ℕ) (rest : List ℕ) (inner : List Node) : Type 0 where
  pub onward : (ns : List Node) → IsFirst text rest d p e ns → IsFirst text parts d p e ns
  pub left : (i : ℕ) × (ts : List Tree) × ReadsFirst webidl text rest i p (Gives ts e)
  pub none : inner ≡ []

never_fits : (text : List ℕ) (i p e : ℕ) (ts : List Tree) → ReadsFirst webidl text [] i p (Gives ts e) → ⊥
never_fits text i p e ts (first_none h) = cc

module _ (text parts : List ℕ) (d p e : ℕ) where
  pub set_out_choice : (r : ℕ) (inner : List Node) → row_of r ≡ First parts → EndsAt text r p e → inner ≡ [] → Choosing text parts d p e parts inner
  set_out_choice r inner is h n = let f = first_reads text r p e h is in record { onward = λ ns a. a; left = (0, f.0, f.1); none = n }

  same_place : (q z : ℕ) (ts us : List Tree) → Gives ts z ≡ Gives us q → q ≡ z
  same_place q z ts us h = cc

  pub one_fits : (r : ℕ) (rest : List ℕ) (z : ℕ) (inner new : List Node) → new ≡ inner ++ node r p z d ∷ [] → Choosing text parts d p e (r ∷ rest) inner → HasEnd text r p (Some z) → IsFirst text parts d p e new
  one_fits r rest z inner new is g h =
      let alone : new ≡ node r p z d ∷ [] = is ∙ ap (λ s. s ++ node r p z d ∷ []) g.none in
      elim (of_choice g.left.2) [
        | inl (ts, q, given, w) ↦ (
            let there : z ≡ e = one_end (ts, given) (it_ends h) ∙ same_place q e _ _ w in
            subst (IsFirst text parts d p e) (sym alone) (g.onward (node r p z d ∷ []) (inl (subst (λ k. AreInTurn text (r ∷ []) d p k (node r p z d ∷ [])) there (one_node text r d p z (it_ends h))))))
        | inr k ↦ absurd (not_both k.0 (it_ends h))
      ]

  pub one_fails : (r : ℕ) (rest : List ℕ) (inner : List Node) → Choosing text parts d p e (r ∷ rest) inner → HasEnd text r p None → Choosing text parts d p e rest inner
  one_fails r rest inner g h = record {
    onward = λ ns a. g.onward ns (inr (it_fails h, a));
    left = elim (of_choice g.left.2) [
      | inl (ts, q, given, w) ↦ absurd (not_both (it_fails h) (ts, given))
      | inr k ↦ (_, _, k.1)
    ];
    none = g.none;
  }

  pub all_fail : {A : Type 0} (inner : List Node) → Choosing text parts d p e [] inner → A
  all_fail inner g = absurd (never_fits text _ p e _ g.left.2)

-- a repetition of rule y from `at` on
pub record Repeating (text : List ℕ) (r y d p e at : ℕ) (inner : List Node) : Type 0 where
  pub onward : (ns : List Node) → AreItems text y d at e ns → AreItems text y d p e (inner ++ ns)
  pub left : EndsAt text r at e
  pub within : at ≤ length text

module _ (text : List ℕ) (r y d p e : ℕ) (is_many : row_of r ≡ Many y) where
  pub set_out_items : (inner : List Node) → inner ≡ [] → EndsAt text r p e → p ≤ length text → Repeating text r y d p e p inner
  set_out_items inner is h l = record { onward = λ ns a. subst (λ s. AreItems text y d p e (s ++ ns)) (sym is) a; left = h; within = l }

  pub one_item : (at z : ℕ) (inner new : List Node) → new ≡ inner ++ node y at z d ∷ [] → Repeating text r y d p e at inner → HasEnd text y at (Some z) → Repeating text r y d p e z new
  one_item at z inner new is g h = record {
    onward = λ ns a. pushed (AreItems text y d p e) inner new ns (node y at z d) is (g.onward (node y at z d ∷ ns) (is_node text y d at z (it_ends h), a));
    left = (many_goes text r at e g.left is_many (it_ends h)).1;
    within = ends_inside (it_ends h) g.within;
  }

  pub items_on : (at z : ℕ) (inner : List Node) → Repeating text r y d p e at inner → HasEnd text y at (Some z) → (at < z) × (z ≤ length text)
  items_on at z inner g h = ((many_goes text r at e g.left is_many (it_ends h)).0, ends_inside (it_ends h) g.within)

  pub items_end : (at : ℕ) (inner : List Node) → Repeating text r y d p e at inner → HasEnd text y at None → AreParts text (row_of r) d p e inner
  items_end at inner g h = by_its_row text r d p e inner is_many (subst (AreItems text y d p e) (append-nil inner) (g.onward [] (many_stops text r at e g.left is_many (it_fails h), it_fails h)))

-- separators and items from `at` on
pub record Following (text : List ℕ) (r y s d p e at : ℕ) (inner : List Node) : Type 0 where
  pub onward : (ns : List Node) → AreFollowing text y s d at e ns → AreFollowing text y s d p e (inner ++ ns)
  pub left : EndsAt text r at e
  pub within : at ≤ length text

module _ (text : List ℕ) (r y s d p e : ℕ) (is_tail : row_of r ≡ Tail y s) where
  pub set_out_tail : (inner : List Node) → inner ≡ [] → EndsAt text r p e → p ≤ length text → Following text r y s d p e p inner
  set_out_tail inner is h l = record { onward = λ ns a. subst (λ s'. AreFollowing text y s d p e (s' ++ ns)) (sym is) a; left = h; within = l }

  pub one_follows : (at q z : ℕ) (inner next new : List Node) → next ≡ inner ++ node s at q d ∷ [] → new ≡ next ++ node y q z d ∷ [] → Following text r y s d p e at inner → HasEnd text s at (Some q) → HasEnd text y q (Some z) → Following text r y s d p e z new
  one_follows at q z inner next new is is' g h k = record {
    onward = λ ns a. pushed (AreFollowing text y s d p e) next new ns (node y q z d) is' (pushed (AreFollowing text y s d p e) inner next (node y q z d ∷ ns) (node s at q d) is
        (g.onward (node s at q d ∷ node y q z d ∷ ns) (is_node text s d at q (it_ends h), is_node text y d q z (it_ends k), a)));
    left = (tail_goes text r at e g.left is_tail (it_ends h) (it_ends k)).1;
    within = ends_inside (it_ends k) (ends_inside (it_ends h) g.within);
  }

  pub tail_on : (at q z : ℕ) (inner : List Node) → Following text r y s d p e at inner → HasEnd text s at (Some q) → HasEnd text y q (Some z) → (at < z) × (z ≤ length text)
  tail_on at q z inner g h k =
      let on : at < q = (tail_goes text r at e g.left is_tail (it_ends h) (it_ends k)).0 in
      let more = ends_after (it_ends k) in
      (omega (arith, more), ends_inside (it_ends k) (ends_inside (it_ends h) g.within))

  pub separator_inside : (at q : ℕ) (inner : List Node) → Following text r y s d p e at inner → HasEnd text s at (Some q) → q ≤ length text
  separator_inside at q inner g h = ends_inside (it_ends h) g.within

  pub no_separator : (at : ℕ) (inner : List Node) → Following text r y s d p e at inner → HasEnd text s at None → AreParts text (row_of r) d p e inner
  no_separator at inner g h = by_its_row text r d p e inner is_tail (subst (AreFollowing text y s d p e) (append-nil inner) (g.onward [] (tail_stops text r at e g.left is_tail (it_fails h), inl (it_fails h))))

  pub no_item_follows : (at q : ℕ) (inner : List Node) → Following text r y s d p e at inner → HasEnd text s at (Some q) → HasEnd text y q None → AreParts text (row_of r) d p e inner
  no_item_follows at q inner g h k = by_its_row text r d p e inner is_tail (subst (AreFollowing text y s d p e) (append-nil inner) (g.onward [] (tail_turns_back text r at e g.left is_tail (it_ends h) (it_fails k), inr (q, it_ends h, it_fails k))))

-- lists of one node or two, written behind none
module _ (text : List ℕ) (d p e : ℕ) where
  alone : (F : List Node → Type 0) (inner new : List Node) (n : Node) → inner ≡ [] → new ≡ inner ++ n ∷ [] → F (n ∷ []) → F new
  alone F inner new n none is h = subst F (sym (is ∙ ap (λ s. s ++ n ∷ []) none)) h

  pub opt_there : (r y z : ℕ) (inner new : List Node) → row_of r ≡ Opt y → EndsAt text r p e → inner ≡ [] → new ≡ inner ++ node y p z d ∷ [] → HasEnd text y p (Some z) → AreParts text (row_of r) d p e new
  opt_there r y z inner new is h none more k = by_its_row text r d p e new is (elim (opt_reads text r p e h is) [
    | inl w ↦ absurd (not_both w.0 (it_ends k))
    | inr w ↦ inl (alone (AreInTurn text (y ∷ []) d p e) inner new (node y p z d) none more (subst (λ q. AreInTurn text (y ∷ []) d p q (node y p z d ∷ [])) (one_end w (it_ends k)) (one_node text y d p z (it_ends k))))
  ])

  pub opt_absent : (r y : ℕ) (inner : List Node) → row_of r ≡ Opt y → EndsAt text r p e → inner ≡ [] → HasEnd text y p None → AreParts text (row_of r) d p e inner
  opt_absent r y inner is h none k = by_its_row text r d p e inner is (elim (opt_reads text r p e h is) [
    | inl w ↦ inr (w.0, (none, w.1))
    | inr w ↦ absurd (not_both (it_fails k) w)
  ])

  pub listed_two : (y t q z : ℕ) (inner next new : List Node) → ListReads text y t p e → inner ≡ [] → next ≡ inner ++ node y p q d ∷ [] → new ≡ next ++ node t q z d ∷ []
      → HasEnd text y p (Some q) → HasEnd text t q (Some z) → AreListed text y t d p e new
  listed_two y t q z inner next new l none one two h k = elim l [
    | inl w ↦ absurd (not_both w.0 (it_ends h))
    | inr (x, a, b) ↦ (
        let same : x ≡ q = one_end (it_ends h) a in
        let there : z ≡ e = one_end (subst (λ c. EndsAt text t c e) same b) (it_ends k) in
        inl (subst (AreInTurn text (y ∷ t ∷ []) d p e) (sym (two ∙ ap (λ s. s ++ node t q z d ∷ []) (one ∙ ap (λ s. s ++ node y p q d ∷ []) none)))
        (subst (λ c. AreInTurn text (y ∷ t ∷ []) d p c (node y p q d ∷ node t q z d ∷ [])) there (is_node text y d p q (it_ends h), one_node text t d q z (it_ends k)))))
  ]

  pub listed_stuck : {A : Type 0} (y t q : ℕ) → ListReads text y t p e → HasEnd text y p (Some q) → HasEnd text t q None → A
  listed_stuck y t q l h k = elim l [
    | inl w ↦ absurd (not_both w.0 (it_ends h))
    | inr (x, a, b) ↦ absurd (not_both (it_fails k) (subst (λ c. EndsAt text t c e) (one_end (it_ends h) a) b))
  ]

  pub listed_none : (y t : ℕ) (inner : List Node) → ListReads text y t p e → inner ≡ [] → HasEnd text y p None → AreListed text y t d p e inner
  listed_none y t inner l none h = elim l [
    | inl w ↦ inr (w.0, (none, w.1))
    | inr (x, a, b) ↦ absurd (not_both (it_fails h) a)
  ]

  pub list1_listed : (r y t : ℕ) (ns : List Node) → row_of r ≡ List1 y t → EndsAt text r p e → AreListed text y t d p e ns → AreParts text (row_of r) d p e ns
  list1_listed r y t ns is h a = by_its_row text r d p e ns is (elim a [
    | inl w ↦ w
    | inr w ↦ absurd (not_both w.0 (list1_item text r p e h is).1)
  ])

-- rows with a condition
module _ (text : List ℕ) (r d p e : ℕ) {parts : List ℕ} {k y : ℕ} (is_if : row_of r ≡ If parts k y) (reads : EndsAt text r p e) (low : r < rule_count) where
  pub if_parts : AreRead text parts p
  if_parts = let i = if_reads text r p e reads is_if in (i.0, i.1)

  pub switch_inside : (at : ℕ) (ns : List Node) → AreInTurn text parts d p at ns → k < length ns
  switch_inside at ns a =
      let s = if_switch low is_if in
      omega (arith, s.1, turn_length text parts d p at ns a)

  told : (at : ℕ) (ns : List Node) (m : Node) (pieces : List Piece) → ReadsSeq webidl text parts p (Some pieces) → AreInTurn text parts d p at ns → m ≡ get_or ns k m → Tells pieces k m
  told at ns m pieces h a is = let s = if_switch low is_if in subst (Tells pieces k) (sym is) (tells text parts d p at k ns pieces m a h s.1 s.2)

  clash : {A : Type 0} (b : Bool) → b ≡ true → b ≡ false → A
  clash b h i = cc

  -- the part with the condition gave something
  pub if_gave : (at : ℕ) (ns : List Node) (m : Node) → AreInTurn text parts d p at ns → m ≡ get_or ns k m → m.start ≢ m.end → Gave text parts k p true
  if_gave at ns m a is n =
      let i = if_reads text r p e reads is_if in
      elim (told at ns m i.0 i.1 a is) [
        | inl t ↦ absurd (n t.0)
        | inr t ↦ (i.0, i.1, t.1)
      ]

  pub if_there : (at z : ℕ) (ns new : List Node) (m : Node) → AreInTurn text parts d p at ns → m ≡ get_or ns k m → m.start ≢ m.end → new ≡ ns ++ node y at z d ∷ [] → HasEnd text y at (Some z) → AreParts text (row_of r) d p e new
  if_there at z ns new m a is n more h =
      let i = if_reads text r p e reads is_if in
      let here : at ≡ last_end p i.0 = turn_end_is text parts d p at ns i.0 a i.1 in
      by_its_row text r d p e new is_if (elim (told at ns m i.0 i.1 a is) [
        | inl t ↦ absurd (n t.0)
        | inr t ↦ elim i.2 [
          | inl w ↦ clash _ t.1 w.0
          | inr w ↦ (
              let there : z ≡ e = one_end (subst (λ q. EndsAt text y q e) (sym here) w.1) (it_ends h) in
              inl ((i.0, i.1, t.1), subst (AreInTurn text (parts ++ y ∷ []) d p e) (sym more) (turn_append text parts (y ∷ []) d p at e ns (node y at z d ∷ []) a (subst (λ q. AreInTurn text (y ∷ []) d at q (node y at z d ∷ [])) there (one_node text y d at z (it_ends h))))))
        ]
      ])

  pub if_stuck : {A : Type 0} (at : ℕ) (ns : List Node) (m : Node) → AreInTurn text parts d p at ns → m ≡ get_or ns k m → m.start ≢ m.end → HasEnd text y at None → A
  if_stuck at ns m a is n h =
      let i = if_reads text r p e reads is_if in
      let here : at ≡ last_end p i.0 = turn_end_is text parts d p at ns i.0 a i.1 in
      elim (told at ns m i.0 i.1 a is) [
        | inl t ↦ absurd (n t.0)
        | inr t ↦ elim i.2 [
          | inl w ↦ clash _ t.1 w.0
          | inr w ↦ absurd (not_both (it_fails h) (subst (λ q. EndsAt text y q e) (sym here) w.1))
        ]
      ]

  pub if_absent : (at : ℕ) (ns : List Node) (m : Node) → AreInTurn text parts d p at ns → m ≡ get_or ns k m → m.start ≡ m.end → AreParts text (row_of r) d p e ns
  if_absent at ns m a is n =
      let i = if_reads text r p e reads is_if in
      let here : at ≡ last_end p i.0 = turn_end_is text parts d p at ns i.0 a i.1 in
      by_its_row text r d p e ns is_if (elim (told at ns m i.0 i.1 a is) [
        | inl t ↦ elim i.2 [
          | inl w ↦ inr ((i.0, i.1, w.0), subst (λ q. AreInTurn text parts d p q ns) (here ∙ sym w.1) a)
          | inr w ↦ clash _ w.0 t.1
        ]
        | inr t ↦ absurd (t.0 n)
      ])

-- a sequence that was written
pub seq_laid : (text : List ℕ) (r d p e z : ℕ) (parts : List ℕ) (ns : List Node) → row_of r ≡ Seq parts → EndsAt text r p z → AreInTurn text parts d p e ns → AreParts text (row_of r) d p z ns
seq_laid text r d p e z parts ns is h a = by_its_row text r d p z ns is (subst (λ q. AreInTurn text parts d p q ns) (sequence_end text r d p e z parts ns is h a) a)
