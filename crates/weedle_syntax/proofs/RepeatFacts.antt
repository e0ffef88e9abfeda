-- Options, lists and repetitions that are being read.
use Rattle.std.proofs.Common.{◌≡◌, ◌≢◌, inl, inr, ℕ, ◌<◌, ◌≤◌, List, [], ◌∷◌, ◌++◌, length, take, true, Option, Some, None, refl, sym, subst, ◌∙◌, ap, arith, append_assoc, append-nil}
use Rattle.std.proofs.lemmas.List.{take_at}
use Rattle.weedle_grammar.specs.Rows.{Row, Opt, Many, ListOf, List1, Tail}
use Rattle.weedle_grammar.specs.written.Table.{webidl, row_of}
use Rattle.weedle_grammar.specs.written.Bound.{rule_count}
use Rattle.weedle_grammar.proofs.Takes.{takes}
use Rattle.weedle_grammar.proofs.Checked.{ranked}
use Rattle.weedle_grammar.proofs.Leaves.{both}
use Rattle.weedle_rules.specs.Cells.{HasEnd, turn_number}
use Rattle.weedle_rules.proofs.RowEnds.{turn_before, RowEnds, rule_ends, opt_absent, opt_present, many_ends, many_fails, many_goes, list_ends, list_goes, list1_ends, list1_goes, tail_ends, tail_fails, tail_gives_back, tail_goes}
use Rattle.weedle_rules.proofs.PartEnds.{below, opt_low, many_low, tail_low, list_low, list1_low, list_next_low, list1_next_low}
use Rattle.weedle_rules.proofs.OutcomeFacts.{it_ends, it_fails}
use Rattle.weedle_syntax.specs.declared.node.Node.{Node}
use Rattle.weedle_syntax.specs.Parts.{AreInTurn, AreItems, AreFollowing, AreParts}
use Rattle.weedle_syntax.specs.Laid.{node, Adds, LaysNode, LaysParts}
use Rattle.weedle_starts.proofs.ReadFacts.{ends_after, ends_inside}
use Rattle.weedle_syntax.proofs.TurnFacts.{is_node, one_node}
use Rattle.weedle_syntax.proofs.LayFacts.{by_its_row}
use Rattle.weedle_starts.proofs.LaterFacts.{names_rules, named}
use Rattle.weedle_syntax.proofs.DescentFacts.{none_added, more_added, still_added, some_more}

pub row_named : (r : ℕ) {row : Row} → row_of r ≡ row → names_rules row ≡ true
row_named r e = subst (λ row. names_rules row ≡ true) e (named r)

module _ (text : List ℕ) (r p d : ℕ) (old : List Node) where
  -- options
  module _ (y : ℕ) (is : row_of r ≡ Opt y) where
    pub opt_there : (e : ℕ) → HasEnd text y p (Some e) → HasEnd text r p (Some e)
    opt_there e h = rule_ends is (opt_present webidl text y p e h)

    pub opt_none : HasEnd text y p None → HasEnd text r p (Some p)
    opt_none h = rule_ends is (opt_absent webidl text y p h)

    pub opt_laid : (e : ℕ) (new : List Node) → HasEnd text y p (Some e) → Adds text (node y p e d ∷ []) old new → LaysParts text r p d old new (Some e)
    opt_laid e new h a = (node y p e d ∷ [], by_its_row text r d p e (node y p e d ∷ []) is (inl (one_node text y d p e (it_ends h))), a)

    pub opt_not_laid : (new : List Node) → HasEnd text y p None → new ≡ old → LaysParts text r p d old new (Some p)
    opt_not_laid new h e = ([], by_its_row text r d p p [] is (inr (it_fails h, (refl, refl))), still_added text [] old old new (none_added text old) e)

    pub opt_before : turn_number (length text) y p < turn_number (length text) r p
    opt_before = let l : y < r = opt_low webidl text takes ranked r y is in omega arith

  -- an item and what follows it are written
  two_laid : (y t q : ℕ) (mid new : List Node) (o : Option ℕ) → HasEnd text y p (Some q) → HasEnd text t q o → Adds text (node y p q d ∷ []) old mid → LaysNode text t q d mid new o
      → ((e : ℕ) (ns : List Node) → AreInTurn text (y ∷ t ∷ []) d p e ns → AreParts text (row_of r) d p e ns) → LaysParts text r p d old new o
  two_laid y t q mid new None h k a b f = some_more text (node y p q d ∷ []) old new (still_added text (node y p q d ∷ []) old mid new a b)
  two_laid y t q mid new (Some e) h k a b f = (
    node y p q d ∷ node t q e d ∷ [],
    f e (node y p q d ∷ node t q e d ∷ []) (is_node text y d p q (it_ends h), one_node text t d q e (it_ends k)),
    more_added text (node y p q d ∷ []) (node t q e d ∷ []) old mid new a b,
  )

  module _ (y t : ℕ) (is : row_of r ≡ ListOf y t) where
    pub list_more : (q : ℕ) (o : Option ℕ) → HasEnd text y p (Some q) → HasEnd text t q o → HasEnd text r p o
    list_more q o h k = rule_ends is (list_goes webidl text y t p q o h k)

    pub list_none : HasEnd text y p None → HasEnd text r p (Some p)
    list_none h = rule_ends is (list_ends webidl text y t p h)

    pub list_laid : (q : ℕ) (mid new : List Node) (o : Option ℕ) → HasEnd text y p (Some q) → HasEnd text t q o → Adds text (node y p q d ∷ []) old mid → LaysNode text t q d mid new o → LaysParts text r p d old new o
    list_laid q mid new o h k a b = two_laid y t q mid new o h k a b (λ e ns s. by_its_row text r d p e ns is (inl s))

    pub list_not_laid : (new : List Node) → HasEnd text y p None → new ≡ old → LaysParts text r p d old new (Some p)
    list_not_laid new h e = ([], by_its_row text r d p p [] is (inr (it_fails h, (refl, refl))), still_added text [] old old new (none_added text old) e)

    pub list_before : turn_number (length text) y p < turn_number (length text) r p
    list_before = let l : y < r = list_low webidl text takes ranked r y t is in omega arith

    pub list_next : (q : ℕ) → HasEnd text y p (Some q) → p ≤ length text → (q ≤ length text) × (t < rule_count) × (turn_number (length text) t q < turn_number (length text) r p)
    list_next q h w =
        let l : t < rule_count = below _ _ (both _ _ (row_named r is)).1 in
        let on = ends_after (it_ends h) in
        let in_text = ends_inside (it_ends h) w in
        (in_text, l, turn_before p q t r (length text) on in_text l (list_next_low webidl text takes ranked r y t p q is h))

  module _ (y t : ℕ) (is : row_of r ≡ List1 y t) where
    pub list1_more : (q : ℕ) (o : Option ℕ) → HasEnd text y p (Some q) → HasEnd text t q o → HasEnd text r p o
    list1_more q o h k = rule_ends is (list1_goes webidl text y t p q o h k)

    pub list1_none : HasEnd text y p None → HasEnd text r p None
    list1_none h = rule_ends is (list1_ends webidl text y t p h)

    pub list1_laid : (q : ℕ) (mid new : List Node) (o : Option ℕ) → HasEnd text y p (Some q) → HasEnd text t q o → Adds text (node y p q d ∷ []) old mid → LaysNode text t q d mid new o → LaysParts text r p d old new o
    list1_laid q mid new o h k a b = two_laid y t q mid new o h k a b (λ e ns s. by_its_row text r d p e ns is s)

    pub list1_before : turn_number (length text) y p < turn_number (length text) r p
    list1_before = let l : y < r = list1_low webidl text takes ranked r y t is in omega arith

    pub list1_next : (q : ℕ) → HasEnd text y p (Some q) → p ≤ length text → (q ≤ length text) × (t < rule_count) × (turn_number (length text) t q < turn_number (length text) r p)
    list1_next q h w =
        let l : t < rule_count = below _ _ (both _ _ (row_named r is)).1 in
        let on = ends_after (it_ends h) in
        let in_text = ends_inside (it_ends h) w in
        (in_text, l, turn_before p q t r (length text) on in_text l (list1_next_low webidl text takes ranked r y t p q is h))

-- a repetition that is being read
pub record Again (text : List ℕ) (r y p d : ℕ) (old : List Node) (at : ℕ) (now : List Node) : Type 0 where
  pub ends : (e : Option ℕ) → RowEnds webidl text (Many y) at e → RowEnds webidl text (Many y) p e
  pub after : p ≤ at
  pub within : at ≤ length text
  pub inner : List Node
  pub adds : Adds text inner old now
  pub onward : (ns : List Node) (e : ℕ) → AreItems text y d at e ns → AreItems text y d p e (inner ++ ns)

module _ (text : List ℕ) (r y p d : ℕ) (old : List Node) (is : row_of r ≡ Many y) where
  pub again_start : p ≤ length text → Again text r y p d old p old
  again_start l = record { ends = λ e h. h; after = omega arith; within = l; inner = []; adds = none_added text old; onward = λ ns e a. a }

  pub again_before : (at : ℕ) (now : List Node) → r < rule_count → Again text r y p d old at now → (y < rule_count) × (turn_number (length text) y at < turn_number (length text) r p)
  again_before at now low g =
      let l : y < r = many_low webidl text takes ranked r y is in
      (omega arith, turn_before p at y r (length text) g.after g.within (omega arith) (λ h. l))

  pub again_step : (at e : ℕ) (now new : List Node) → Again text r y p d old at now → HasEnd text y at (Some e) → e ≢ at → Adds text (node y at e d ∷ []) now new → Again text r y p d old e new
  again_step at e now new g h n a =
      let on = ends_after (it_ends h) in
      let after = g.after in
      record {
        ends = λ o m. g.ends o (many_goes webidl text y at e o h n m);
        after = omega arith;
        within = ends_inside (it_ends h) g.within;
        inner = g.inner ++ node y at e d ∷ [];
        adds = more_added text g.inner (node y at e d ∷ []) old now new g.adds a;
        onward = λ ns z k. subst (AreItems text y d p z) (sym (append_assoc g.inner (node y at e d ∷ []) ns)) (g.onward (node y at e d ∷ ns) z (is_node text y d at e (it_ends h), k));
      }

  pub again_on : (at e : ℕ) (now : List Node) → Again text r y p d old at now → HasEnd text y at (Some e) → e ≢ at → (at < e) × (e ≤ length text)
  again_on at e now g h n = let on = ends_after (it_ends h) in (omega (arith, on, n), ends_inside (it_ends h) g.within)

  pub again_stuck : (at e : ℕ) (now : List Node) → Again text r y p d old at now → HasEnd text y at (Some e) → e ≡ at → HasEnd text r p None
  again_stuck at e now g h n = rule_ends is (g.ends None (many_fails webidl text y at (subst (λ z. HasEnd text y at (Some z)) n h)))

  pub again_more : (at e : ℕ) (now new : List Node) → Again text r y p d old at now → Adds text (node y at e d ∷ []) now new → (more : List Node) × (new ≡ old ++ more)
  again_more at e now new g a = some_more text (g.inner ++ node y at e d ∷ []) old new (more_added text g.inner (node y at e d ∷ []) old now new g.adds a)

  pub again_end : (at : ℕ) (now : List Node) → Again text r y p d old at now → HasEnd text y at None → HasEnd text r p (Some at)
  again_end at now g h = rule_ends is (g.ends (Some at) (many_ends webidl text y at h))

  pub again_laid : (at : ℕ) (now new : List Node) → Again text r y p d old at now → HasEnd text y at None → new ≡ now → LaysParts text r p d old new (Some at)
  again_laid at now new g h e = (
    g.inner,
    by_its_row text r d p at g.inner is (subst (AreItems text y d p at) (append-nil g.inner) (g.onward [] at (refl, it_fails h))),
    still_added text g.inner old now new g.adds e,
  )

-- items behind separators that are being read
pub record Behind (text : List ℕ) (r y s p d : ℕ) (old : List Node) (at : ℕ) (now : List Node) : Type 0 where
  pub ends : (e : Option ℕ) → RowEnds webidl text (Tail y s) at e → RowEnds webidl text (Tail y s) p e
  pub after : p ≤ at
  pub within : at ≤ length text
  pub inner : List Node
  pub adds : Adds text inner old now
  pub onward : (ns : List Node) (e : ℕ) → AreFollowing text y s d at e ns → AreFollowing text y s d p e (inner ++ ns)

module _ (text : List ℕ) (r y s p d : ℕ) (old : List Node) (is : row_of r ≡ Tail y s) where
  pub behind_start : p ≤ length text → Behind text r y s p d old p old
  behind_start l = record { ends = λ e h. h; after = omega arith; within = l; inner = []; adds = none_added text old; onward = λ ns e a. a }

  pub behind_before : (at : ℕ) (now : List Node) → r < rule_count → Behind text r y s p d old at now → (s < rule_count) × (turn_number (length text) s at < turn_number (length text) r p)
  behind_before at now low g =
      let l : s < r = tail_low webidl text takes ranked r y s is in
      (omega arith, turn_before p at s r (length text) g.after g.within (omega arith) (λ h. l))

  pub behind_item : (at q : ℕ) (now : List Node) → Behind text r y s p d old at now → HasEnd text s at (Some q) → q ≢ at → (q ≤ length text) × (y < rule_count) × (turn_number (length text) y q < turn_number (length text) r p)
  behind_item at q now g h n =
      let l : y < rule_count = below _ _ (both _ _ (row_named r is)).0 in
      let on = ends_after (it_ends h) in
      let after = g.after in
      let in_text = ends_inside (it_ends h) g.within in
      (in_text, l, turn_before p q y r (length text) (omega (arith, on, after)) in_text l (λ k. absurd (n (omega (arith, on, after, k)))))

  pub behind_step : (at q e : ℕ) (now mid new : List Node) → Behind text r y s p d old at now → HasEnd text s at (Some q) → q ≢ at → Adds text (node s at q d ∷ []) now mid → HasEnd text y q (Some e) → Adds text (node y q e d ∷ []) mid new
      → Behind text r y s p d old e new
  behind_step at q e now mid new g h n a k b =
      let on = ends_after (it_ends h) in
      let more = ends_after (it_ends k) in
      let after = g.after in
      record {
        ends = λ o m. g.ends o (tail_goes webidl text y s at q e o h n k m);
        after = omega (arith, on, more, after);
        within = ends_inside (it_ends k) (ends_inside (it_ends h) g.within);
        inner = g.inner ++ node s at q d ∷ node y q e d ∷ [];
        adds = more_added text g.inner (node s at q d ∷ node y q e d ∷ []) old now new g.adds (more_added text (node s at q d ∷ []) (node y q e d ∷ []) now mid new a b);
        onward = λ ns z i. subst (AreFollowing text y s d p z) (sym (append_assoc g.inner (node s at q d ∷ node y q e d ∷ []) ns)) (g.onward (node s at q d ∷ node y q e d ∷ ns) z (is_node text s d at q (it_ends h), is_node text y d q e (it_ends k), i));
      }

  pub behind_on : (at q e : ℕ) (now : List Node) → Behind text r y s p d old at now → HasEnd text s at (Some q) → q ≢ at → HasEnd text y q (Some e) → (at < e) × (e ≤ length text)
  behind_on at q e now g h n k =
      let on = ends_after (it_ends h) in
      let more = ends_after (it_ends k) in
      (omega (arith, on, more, n), ends_inside (it_ends k) (ends_inside (it_ends h) g.within))

  pub behind_stuck : (at q : ℕ) (now : List Node) → Behind text r y s p d old at now → HasEnd text s at (Some q) → q ≡ at → HasEnd text r p None
  behind_stuck at q now g h n = rule_ends is (g.ends None (tail_fails webidl text y s at (subst (λ z. HasEnd text s at (Some z)) n h)))

  pub behind_more : (at q : ℕ) (now new : List Node) → Behind text r y s p d old at now → Adds text (node s at q d ∷ []) now new → (more : List Node) × (new ≡ old ++ more)
  behind_more at q now new g a = some_more text (g.inner ++ node s at q d ∷ []) old new (more_added text g.inner (node s at q d ∷ []) old now new g.adds a)

  pub behind_end : (at : ℕ) (now : List Node) → Behind text r y s p d old at now → HasEnd text s at None → HasEnd text r p (Some at)
  behind_end at now g h = rule_ends is (g.ends (Some at) (tail_ends webidl text y s at h))

  pub behind_laid : (at : ℕ) (now new : List Node) → Behind text r y s p d old at now → HasEnd text s at None → new ≡ now → LaysParts text r p d old new (Some at)
  behind_laid at now new g h e = (
    g.inner,
    by_its_row text r d p at g.inner is (subst (AreFollowing text y s d p at) (append-nil g.inner) (g.onward [] at (refl, inl (it_fails h)))),
    still_added text g.inner old now new g.adds e,
  )

  pub behind_back : (at q : ℕ) (now : List Node) → Behind text r y s p d old at now → HasEnd text s at (Some q) → q ≢ at → HasEnd text y q None → HasEnd text r p (Some at)
  behind_back at q now g h n k = rule_ends is (g.ends (Some at) (tail_gives_back webidl text y s at q h n k))

  -- the separator is taken back
  pub back_laid : (at q : ℕ) (now mid new last : List Node) → Behind text r y s p d old at now → HasEnd text s at (Some q) → Adds text (node s at q d ∷ []) now mid → HasEnd text y q None → new ≡ mid → last ≡ take (length now) new → LaysParts text r p d old last (Some at)
  back_laid at q now mid new last g h (more, e, t) k same w =
      let whole : last ≡ now = w ∙ ap (take (length now)) (same ∙ e) ∙ take_at now more (length now) refl in (
        g.inner,
        by_its_row text r d p at g.inner is (subst (AreFollowing text y s d p at) (append-nil g.inner) (g.onward [] at (refl, inr (q, it_ends h, it_fails k)))),
        still_added text g.inner old now last g.adds whole,
      )
