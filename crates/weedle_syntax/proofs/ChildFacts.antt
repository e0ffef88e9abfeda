-- What a node reads directly lies behind its place, or is a rule of a smaller number at it.
use Rattle.std.proofs.Common.{◌≡◌, inl, inr, ℕ, ◌+◌, ◌<◌, ◌≤◌, List, [], ◌∷◌, ◌++◌, length, Bool, true, false, ◌&&◌, refl, sym, subst, arith}
use Rattle.std.specs.Prelude.{nat_lt, ◌||◌}
use Rattle.weedle_grammar.specs.written.Bound.{rule_count}
use Rattle.weedle_grammar.specs.Rows.{Row, Bytes, OneOf, NotNext, Run, Past, Seq, First, Opt, Many, ListOf, List1, Tail, If}
use Rattle.weedle_grammar.specs.Entry.{are_rules}
use Rattle.weedle_grammar.specs.written.Table.{webidl, row_of}
use Rattle.weedle_rules.specs.Cells.{turn_number}
use Rattle.weedle_grammar.proofs.Leaves.{both, one_of}
use Rattle.weedle_grammar.proofs.Ranked.{is_low, low_parts, all_low, some_takes}
use Rattle.weedle_grammar.proofs.Takes.{takes}
use Rattle.weedle_grammar.proofs.Checked.{rank, ranked}
use Rattle.weedle_grammar.proofs.Exists.{grows, stays_inside, advances}
use Rattle.weedle_rules.proofs.RowEnds.{turn_before}
use Rattle.weedle_rules.proofs.PartEnds.{below}
use Rattle.weedle_rules.specs.Outcomes.{EndsAt}
use Rattle.weedle_syntax.specs.declared.node.Node.{Node}
use Rattle.weedle_syntax.specs.Parts.{IsNode, AreInTurn, IsFirst, AreItems, AreFollowing, AreParts, HasParts}
use Rattle.weedle_starts.proofs.BoolFacts.{and_true, or_left, or_right}
use Rattle.weedle_starts.proofs.LaterFacts.{names_rules, named}
use Rattle.weedle_starts.proofs.ReadFacts.{ends_after, ends_inside, tail_goes}

-- something is so of each node
abbrev pub Each : (Node → Type 0) → List Node → Type 0
Each P [] = Unit {0}
Each P (n ∷ ns) = P n × Each P ns

pub each_append : (P : Node → Type 0) (ns ms : List Node) → Each P ns → Each P ms → Each P (ns ++ ms)
each_append P [] ms a b = b
each_append P (n ∷ ns) ms a b = (a.0, each_append P ns ms a.1 b)

pub each_so : (P Q : Node → Type 0) (ns : List Node) → ((n : Node) → P n → Q n) → Each P ns → Each Q ns
each_so P Q [] f a = a
each_so P Q (n ∷ ns) f a = (f n a.0, each_so P Q ns f a.1)

-- a node of depth d that a rule r reads at p
pub record IsChild (text : List ℕ) (r p d : ℕ) (n : Node) : Type 0 where
  pub low : n.rule < rule_count
  pub within : n.start ≤ length text
  pub before : turn_number (length text) n.rule n.start < turn_number (length text) r p
  pub depth_is : n.depth ≡ d
  pub reads : EndsAt text n.rule n.start n.end

low_two : (a b c d : Bool) → a && (b || c) ≡ true → a && (b || (c && (d || true))) ≡ true
low_two true true c d h = refl
low_two true false true true h = refl
low_two true false true false h = refl
low_two true false false d h = cc
low_two false b c d h = cc

rules_two : (a b : Bool) → a && b ≡ true → a && (b && true) ≡ true
rules_two true true h = refl
rules_two true false h = cc
rules_two false b h = cc

more_rules : (y : ℕ) (rs : List ℕ) → are_rules rs ≡ true → nat_lt y rule_count ≡ true → are_rules (rs ++ y ∷ []) ≡ true
more_rules y [] h k = and_true _ true k refl
more_rules y (r ∷ rs) h k = and_true _ _ (both _ _ h).0 (more_rules y rs (both _ _ h).1 k)

-- a part more, which is low where none of those before takes a byte
low_more : (k y : ℕ) (rs : List ℕ) → low_parts rank takes k rs ≡ true → some_takes rank takes rs || nat_lt y k ≡ true → low_parts rank takes k (rs ++ y ∷ []) ≡ true
low_more k y [] h m = and_true (nat_lt y k) (takes y || true) m (or_right (takes y) true refl)
low_more k y (r ∷ rs) h m =
    let a = both (nat_lt (rank r) k) (takes r || low_parts rank takes k rs) h in
    and_true (nat_lt (rank r) k) (takes r || low_parts rank takes k (rs ++ y ∷ [])) a.0 (elim (one_of (takes r) (low_parts rank takes k rs) a.1) [
      | inl t ↦ or_left (takes r) (low_parts rank takes k (rs ++ y ∷ [])) t
      | inr l ↦ elim (one_of (takes r || some_takes rank takes rs) (nat_lt y k) m) [
        | inl w ↦ elim (one_of (takes r) (some_takes rank takes rs) w) [
          | inl t ↦ or_left (takes r) (low_parts rank takes k (rs ++ y ∷ [])) t
          | inr t ↦ or_right (takes r) (low_parts rank takes k (rs ++ y ∷ [])) (low_more k y rs l (or_left (some_takes rank takes rs) (nat_lt y k) t))
        ]
        | inr w ↦ or_right (takes r) (low_parts rank takes k (rs ++ y ∷ [])) (low_more k y rs l (or_right (some_takes rank takes rs) (nat_lt y k) w))
      ]
    ])

module _ (text : List ℕ) (r p d : ℕ) (fits : p ≤ length text) (low : r < rule_count) where
  child : (s q : ℕ) (n : Node) → IsNode text s d q n → p ≤ q → q ≤ length text → s < rule_count → (q ≡ p → s < r) → IsChild text r p d n
  child s q n i a w l h =
      let is : n.rule ≡ s = i.rule_is in
      let at : n.start ≡ q = i.start_is in
      record {
        low = omega arith;
        within = omega arith;
        before = subst (λ x. turn_number (length text) x n.start < turn_number (length text) r p) (sym is) (subst (λ x. turn_number (length text) s x < turn_number (length text) r p) (sym at) (turn_before p q s r (length text) a w l h));
        depth_is = i.depth_is;
        reads = subst (λ x. EndsAt text x n.start n.end) (sym is) (subst (λ x. EndsAt text s x n.end) (sym at) i.reads);
      }

  pub turn_children : (rs : List ℕ) (q e : ℕ) (ns : List Node) → p ≤ q → q ≤ length text → (q ≡ p → low_parts rank takes r rs ≡ true) → are_rules rs ≡ true → AreInTurn text rs d q e ns → Each (IsChild text r p d) ns
  turn_children [] q e ns a w l n (i, is) = subst (Each (IsChild text r p d)) (sym i) tt
  turn_children (s ∷ rs) q e [] a w l n h = absurd h
  turn_children (s ∷ rs) q e (m ∷ ns) a w l n (i, h) =
      let g = i.reads.1 in
      let on : q ≤ m.end = grows webidl text g in
      let in_text : m.end ≤ length text = stays_inside webidl text g w in (
        child s q m i a w (below _ _ (both _ _ n).0) (λ k. below _ _ (both _ _ (l k)).0),
        turn_children rs m.end e ns (omega arith) in_text (λ k. (
            let at : q ≡ p = omega arith in
            elim (one_of _ _ (both _ _ (l at)).1) [
              | inl t ↦ absurd (let f : q < m.end = advances webidl text rank takes ranked g t in omega arith)
              | inr t ↦ t
            ])) (both _ _ n).1 h,
      )

  one_child : (s e : ℕ) (ns : List Node) → s < r → s < rule_count → AreInTurn text (s ∷ []) d p e ns → Each (IsChild text r p d) ns
  one_child s e [] l n h = absurd h
  one_child s e (m ∷ ns) l n (i, (j, is)) = (child s p m i (omega arith) fits n (λ k. l), subst (Each (IsChild text r p d)) (sym j) tt)

  first_children : (rs : List ℕ) (e : ℕ) (ns : List Node) → all_low rank takes r rs ≡ true → are_rules rs ≡ true → IsFirst text rs d p e ns → Each (IsChild text r p d) ns
  first_children [] e ns l n h = absurd h
  first_children (s ∷ rs) e ns l n (inl h) = one_child s e ns (below _ _ (both _ _ l).0) (below _ _ (both _ _ n).0) h
  first_children (s ∷ rs) e ns l n (inr h) = first_children rs e ns (both _ _ l).1 (both _ _ n).1 h.1

  pub items_children : (y q e : ℕ) (ns : List Node) → y < r → y < rule_count → p ≤ q → q ≤ length text → AreItems text y d q e ns → Each (IsChild text r p d) ns
  items_children y q e [] l n a w h = tt
  items_children y q e (m ∷ ns) l n a w (i, h) =
      let on : q ≤ m.end = ends_after i.reads in
      (child y q m i a w n (λ k. l), items_children y m.end e ns l n (omega arith) (ends_inside i.reads w) h)

  -- an item follows its separator, which takes something
  pub following_children : (y s q e : ℕ) (ns : List Node) → row_of r ≡ Tail y s → s < r → s < rule_count → y < rule_count → p ≤ q → q ≤ length text → EndsAt text r q e → AreFollowing text y s d q e ns → Each (IsChild text r p d) ns
  following_children y s q e [] is l n u a w z h = tt
  following_children y s q e (m ∷ []) is l n u a w z h = absurd h
  following_children y s q e (m ∷ o ∷ ns) is l n u a w z (i, j, h) =
      let g = tail_goes text r q e z is i.reads j.reads in
      let first : q < m.end = g.0 in
      let on : m.end ≤ o.end = ends_after j.reads in
      let there = ends_inside i.reads w in
      (child s q m i a w n (λ k. l), (child y m.end o j (omega arith) there u (λ k. absurd (omega arith)), following_children y s o.end e ns is l n u (omega arith) (ends_inside j.reads there) g.1 h))

  two_low : (y t : ℕ) → nat_lt y r && (takes y || nat_lt t r) ≡ true → low_parts rank takes r (y ∷ t ∷ []) ≡ true
  two_low y t h = low_two (nat_lt y r) (takes y) (nat_lt t r) (takes t) h

  two_rules : (y t : ℕ) → nat_lt y rule_count && nat_lt t rule_count ≡ true → are_rules (y ∷ t ∷ []) ≡ true
  two_rules y t h = rules_two (nat_lt y rule_count) (nat_lt t rule_count) h

  row_children : (row : Row) (e : ℕ) (ns : List Node) → row_of r ≡ row → EndsAt text r p e → is_low rank takes r row ≡ true → names_rules row ≡ true → AreParts text row d p e ns → Each (IsChild text r p d) ns
  row_children (Seq parts) e ns is z l n h = turn_children parts p e ns (omega arith) fits (λ k. l) n h
  row_children (First parts) e ns is z l n h = first_children parts e ns l n h
  row_children (Opt y) e ns is z l n (inl h) = one_child y e ns (below _ _ l) (below _ _ n) h
  row_children (Opt y) e ns is z l n (inr h) = subst (Each (IsChild text r p d)) (sym h.1.0) tt
  row_children (Many y) e ns is z l n h = items_children y p e ns (below _ _ l) (below _ _ n) (omega arith) fits h
  row_children (ListOf y t) e ns is z l n (inl h) = turn_children (y ∷ t ∷ []) p e ns (omega arith) fits (λ k. two_low y t l) (two_rules y t n) h
  row_children (ListOf y t) e ns is z l n (inr h) = subst (Each (IsChild text r p d)) (sym h.1.0) tt
  row_children (List1 y t) e ns is z l n h = turn_children (y ∷ t ∷ []) p e ns (omega arith) fits (λ k. two_low y t l) (two_rules y t n) h
  row_children (Tail y s) e ns is z l n h = following_children y s p e ns is (below _ _ l) (below _ _ (both _ _ n).1) (below _ _ (both _ _ n).0) (omega arith) fits z h
  row_children (If parts k y) e ns is z l n (inl h) = turn_children (parts ++ y ∷ []) p e ns (omega arith) fits (λ k. low_more r y parts (both _ _ l).0 (both _ _ l).1) (more_rules y parts (both _ _ n).0 (both _ _ n).1) h.1
  row_children (If parts k y) e ns is z l n (inr h) = turn_children parts p e ns (omega arith) fits (λ k. (both _ _ l).0) (both _ _ n).0 h.1
  row_children (Bytes b) e ns is z l n h = subst (Each (IsChild text r p d)) (sym h) tt
  row_children (OneOf c) e ns is z l n h = subst (Each (IsChild text r p d)) (sym h) tt
  row_children (NotNext c) e ns is z l n h = subst (Each (IsChild text r p d)) (sym h) tt
  row_children (Run c) e ns is z l n h = subst (Each (IsChild text r p d)) (sym h) tt
  row_children (Past b) e ns is z l n h = subst (Each (IsChild text r p d)) (sym h) tt

-- the nodes that a node reads directly
pub parts_are_children : (text : List ℕ) (n : Node) (ns : List Node) → n.start ≤ length text → n.rule < rule_count → EndsAt text n.rule n.start n.end → HasParts text n ns → Each (IsChild text n.rule n.start (n.depth + 1)) ns
parts_are_children text n ns w l z h = row_children text n.rule n.start (n.depth + 1) w l (row_of n.rule) n.end ns refl z (both _ _ (ranked n.rule)).0 (named n.rule) h
