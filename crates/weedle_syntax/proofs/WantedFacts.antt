-- What the reading of a rule asks for, from node to node.
use Rattle.std.proofs.Common.{◌≡◌, ◌≢◌, ◌⊎◌, inl, inr, ℕ, ◌+◌, ◌<◌, true, List, [], ◌∷◌, ◌++◌, refl, sym, subst, ◌∙◌, ap, arith}
use Rattle.std.specs.Prelude.{reverse}
use Rattle.weedle_grammar.specs.Rows.{Row, Bytes, OneOf, NotNext, Run, Past, Seq, First, Opt, Many, ListOf, List1, Tail, If}
use Rattle.weedle_grammar.specs.Meaning.{last_end}
use Rattle.weedle_grammar.specs.written.Table.{row_of}
use Rattle.weedle_grammar.proofs.Inversion.{of_tail}
use Rattle.weedle_rules.specs.Outcomes.{EndsAt}
use Rattle.weedle_rules.proofs.RowEnds.{raw_end, row_ends}
use Rattle.weedle_rules.proofs.OutcomeFacts.{has_end, one_end, not_both}
use Rattle.weedle_starts.specs.Tries.{TriesInTurn, TriesByChoice, TriesListed, RowTries}
use Rattle.weedle_starts.proofs.ReadFacts.{many_goes, tail_goes}
use Rattle.weedle_memo.specs.Wanted.{WantedFrom, at_first, by}
use Rattle.weedle_syntax.specs.declared.node.Node.{Node}
use Rattle.weedle_syntax.specs.Parts.{IsNode, AreInTurn, IsFirst, AreItems, AreFollowing, AreListed, AreParts, HasParts, Gave}
use Rattle.weedle_syntax.specs.Table.{TableView, IsWanted}
use Rattle.weedle_syntax.proofs.ChildFacts.{Each, each_append}
use Rattle.weedle_syntax.proofs.SyntaxFacts.{on_top}
use Rattle.weedle_syntax.proofs.TurnFacts.{turn_end_is}

-- what a row tries is wanted, where its rule is wanted and ends
pub wanted_by : {t : TableView} {r p e x q : ℕ} {row : Row} → IsWanted t r p → EndsAt t.text r p e → row_of r ≡ row → RowTries t.text row r p x q → IsWanted t x q
wanted_by {t} {r} {p} {e} {x} {q} {row} w d is h = by w d (subst (λ z. RowTries t.text z r p x q) (sym is) h)

-- a separator takes something, where the items behind separators are read
pub tail_takes : (text : List ℕ) (r p e : ℕ) {y s q : ℕ} → EndsAt text r p e → row_of r ≡ Tail y s → EndsAt text s p q → q ≢ p
tail_takes text r p e {y} {s} {q} d is h stuck =
    let m = row_ends is (has_end d) in
    elim (of_tail m.reads) [
      | inl k ↦ not_both k.0 h
      | inr (inl k) ↦ (let a = m.is ∙ ap raw_end k.2 in let n : ⊥ = cc in n)
      | inr (inr (inl (ts, u, given, ne, fails, w))) ↦ ne (one_end h (ts, given) ∙ stuck)
      | inr (inr (inr (ts, us, u, x, v, given, ne, item, more, w))) ↦ ne (one_end h (ts, given) ∙ stuck)
    ]

-- what an item and the rule behind it are tried as in a list
pub in_list : (text : List ℕ) (y t p x q : ℕ) → TriesInTurn text (y ∷ t ∷ []) p x q → TriesListed text y t p x q
in_list text y t p x q (inl s) = inl s
in_list text y t p x q (inr (e, d, inl s)) = inr (e, d, s)
in_list text y t p x q (inr (e, d, inr (z, k, never))) = absurd never

-- what is tried of one rule
pub alone : {text : List ℕ} {r p x q : ℕ} {A : Type 0} → TriesInTurn text (r ∷ []) p x q → ((x ≡ r) × (q ≡ p) → A) → A
alone (inl s) f = f s
alone (inr (e, d, never)) f = absurd never

module _ (t : TableView) where
  -- the node's rule is wanted at its start
  abbrev pub IsAsked : Node → Type 0
  IsAsked n = IsWanted t n.rule n.start

  asked : (r d p : ℕ) (n : Node) → IsNode t.text r d p n → IsWanted t r p → IsAsked n
  asked r d p n k w = subst (λ z. IsWanted t z n.start) (sym k.rule_is) (subst (λ z. IsWanted t r z) (sym k.start_is) w)

  none_asked : (ns : List Node) → ns ≡ [] → Each IsAsked ns
  none_asked ns e = subst (Each IsAsked) (sym e) tt

  turn_asked : (rs : List ℕ) (d p e : ℕ) (ns : List Node) → ((x q : ℕ) → TriesInTurn t.text rs p x q → IsWanted t x q) → AreInTurn t.text rs d p e ns → Each IsAsked ns
  turn_asked [] d p e ns w a = none_asked ns a.0
  turn_asked (r ∷ rs) d p e [] w a = absurd a
  turn_asked (r ∷ rs) d p e (n ∷ ns) w a = (
    asked r d p n a.0 (w r p (inl (refl, refl))),
    turn_asked rs d n.end e ns (λ x q h. w x q (inr (n.end, a.0.reads, h))) a.1,
  )

  first_asked : (rs : List ℕ) (d p e : ℕ) (ns : List Node) → ((x q : ℕ) → TriesByChoice t.text rs p x q → IsWanted t x q) → IsFirst t.text rs d p e ns → Each IsAsked ns
  first_asked [] d p e ns w a = absurd a
  first_asked (r ∷ rs) d p e ns w (inl a) = turn_asked (r ∷ []) d p e ns (λ x q h. alone h (λ s. w x q (inl s))) a
  first_asked (r ∷ rs) d p e ns w (inr a) = first_asked rs d p e ns (λ x q h. w x q (inr (a.0, h))) a.1

  -- a rule behind an item that takes something
  pub wanted_again : (r y p e z : ℕ) → row_of r ≡ Many y → IsWanted t r p → EndsAt t.text r p e → EndsAt t.text y p z → IsWanted t r z
  wanted_again r y p e z is w d h =
      let on : p < z = (many_goes t.text r p e d is h).0 in
      wanted_by w d is (inr (z, h, omega arith, (refl, refl)))

  items_asked : (r y d p e : ℕ) (ns : List Node) → row_of r ≡ Many y → IsWanted t r p → EndsAt t.text r p e → AreItems t.text y d p e ns → Each IsAsked ns
  items_asked r y d p e [] is w h a = tt
  items_asked r y d p e (n ∷ ns) is w h a = (
    asked y d p n a.0 (wanted_by w h is (inl (refl, refl))),
    items_asked r y d n.end e ns is (wanted_again r y p e n.end is w h a.0.reads) (many_goes t.text r p e h is a.0.reads).1 a.1,
  )

  -- what follows a separator that takes something: the item, and the rule itself behind it
  pub wanted_item : (r y s p q : ℕ) {e : ℕ} → row_of r ≡ Tail y s → IsWanted t r p → EndsAt t.text r p e → EndsAt t.text s p q → IsWanted t y q
  wanted_item r y s p q {e} is w d h = wanted_by w d is (inr (q, h, tail_takes t.text r p e d is h, inl (refl, refl)))

  pub wanted_tail : (r y s p q z e : ℕ) → row_of r ≡ Tail y s → IsWanted t r p → EndsAt t.text r p e → EndsAt t.text s p q → EndsAt t.text y q z → IsWanted t r z
  wanted_tail r y s p q z e is w d h k =
      let on : p < q = (tail_goes t.text r p e d is h k).0 in
      wanted_by w d is (inr (q, h, omega arith, inr (z, k, (refl, refl))))

  following_asked : (r y s d p e : ℕ) (ns : List Node) → row_of r ≡ Tail y s → IsWanted t r p → EndsAt t.text r p e → AreFollowing t.text y s d p e ns → Each IsAsked ns
  following_asked r y s d p e [] is w h a = tt
  following_asked r y s d p e (n ∷ []) is w h a = absurd a
  following_asked r y s d p e (n ∷ m ∷ ns) is w h a =
      let goes = tail_goes t.text r p e h is a.0.reads a.1.reads in (
        asked s d p n a.0 (wanted_by w h is (inl (refl, refl))),
        (
          asked y d n.end m a.1 (wanted_item r y s p n.end is w h a.0.reads),
          following_asked r y s d m.end e ns is (wanted_tail r y s p n.end m.end e is w h a.0.reads a.1.reads) goes.1 a.2,
        ),
      )

  listed_asked : (y u d p e : ℕ) (ns : List Node) → ((x q : ℕ) → TriesListed t.text y u p x q → IsWanted t x q) → AreInTurn t.text (y ∷ u ∷ []) d p e ns → Each IsAsked ns
  listed_asked y u d p e ns w a = turn_asked (y ∷ u ∷ []) d p e ns (λ x q h. w x q (in_list t.text y u p x q h)) a

  -- the parts, and a rule behind them
  split : (rs : List ℕ) (y d p e : ℕ) (ns : List Node) → AreInTurn t.text (rs ++ y ∷ []) d p e ns
      → (at : ℕ) × (ms : List Node) × (m : Node) × (ns ≡ ms ++ m ∷ []) × AreInTurn t.text rs d p at ms × IsNode t.text y d at m
  split [] y d p e [] a = absurd a
  split [] y d p e (n ∷ []) a = (p, [], n, refl, (refl, refl), a.0)
  split [] y d p e (n ∷ k ∷ ns) a = let h = a.1.0 in let no : ⊥ = cc in absurd no
  split (r ∷ rs) y d p e [] a = absurd a
  split (r ∷ rs) y d p e (n ∷ ns) a = rest n ns a.0 (split rs y d n.end e ns a.1)
    where
      rest : (n : Node) (ns : List Node) → IsNode t.text r d p n → (at : ℕ) × (ms : List Node) × (m : Node) × (ns ≡ ms ++ m ∷ []) × AreInTurn t.text rs d n.end at ms × IsNode t.text y d at m
          → (at : ℕ) × (ms : List Node) × (m : Node) × (n ∷ ns ≡ ms ++ m ∷ []) × AreInTurn t.text (r ∷ rs) d p at ms × IsNode t.text y d at m
      rest n ns k (at, ms, m, is, b, c) = (at, n ∷ ms, m, ap (λ z. n ∷ z) is, (k, b), c)

  -- the rule with the condition, where the parts end
  pub wanted_last : (r d p e : ℕ) {parts : List ℕ} {k y : ℕ} (at : ℕ) (ms : List Node) → row_of r ≡ If parts k y → IsWanted t r p → EndsAt t.text r p e → Gave t.text parts k p true → AreInTurn t.text parts d p at ms → IsWanted t y at
  wanted_last r d p e {parts} {k} {y} at ms is w h (pieces, reads, gave) a =
      let here : at ≡ last_end p pieces = turn_end_is t.text parts d p at ms pieces a reads in
      wanted_by w h is (inr (at, (pieces, reads, gave, here), (refl, refl)))

  if_asked : (r d p e : ℕ) {parts : List ℕ} {k y : ℕ} (ns : List Node) → row_of r ≡ If parts k y → IsWanted t r p → EndsAt t.text r p e → AreParts t.text (If parts k y) d p e ns → Each IsAsked ns
  if_asked r d p e {parts} {k} {y} ns is w h (inr a) = turn_asked parts d p e ns (λ x q c. wanted_by w h is (inl c)) a.1
  if_asked r d p e {parts} {k} {y} ns is w h (inl a) = both (split parts y d p e ns a.1)
    where
      both : (at : ℕ) × (ms : List Node) × (m : Node) × (ns ≡ ms ++ m ∷ []) × AreInTurn t.text parts d p at ms × IsNode t.text y d at m → Each IsAsked ns
      both (at, ms, m, e', b, c) = subst (Each IsAsked) (sym e') (each_append IsAsked ms (m ∷ []) (turn_asked parts d p at ms (λ x q c. wanted_by w h is (inl c)) b) (asked y d at m c (wanted_last r d p e at ms is w h a.0 b), tt))

  row_asked : (row : Row) (r d p e : ℕ) (ns : List Node) → row_of r ≡ row → IsWanted t r p → EndsAt t.text r p e → AreParts t.text row d p e ns → Each IsAsked ns
  row_asked (Bytes b) r d p e ns is w h a = none_asked ns a
  row_asked (OneOf c) r d p e ns is w h a = none_asked ns a
  row_asked (NotNext c) r d p e ns is w h a = none_asked ns a
  row_asked (Run c) r d p e ns is w h a = none_asked ns a
  row_asked (Past b) r d p e ns is w h a = none_asked ns a
  row_asked (Seq parts) r d p e ns is w h a = turn_asked parts d p e ns (λ x q c. wanted_by w h is c) a
  row_asked (First parts) r d p e ns is w h a = first_asked parts d p e ns (λ x q c. wanted_by w h is c) a
  row_asked (Opt y) r d p e ns is w h (inl a) = turn_asked (y ∷ []) d p e ns (λ x q c. alone c (λ s. wanted_by w h is s)) a
  row_asked (Opt y) r d p e ns is w h (inr a) = none_asked ns a.1.0
  row_asked (Many y) r d p e ns is w h a = items_asked r y d p e ns is w h a
  row_asked (ListOf y u) r d p e ns is w h (inl a) = listed_asked y u d p e ns (λ x q c. wanted_by w h is c) a
  row_asked (ListOf y u) r d p e ns is w h (inr a) = none_asked ns a.1.0
  row_asked (List1 y u) r d p e ns is w h a = listed_asked y u d p e ns (λ x q c. wanted_by w h is c) a
  row_asked (Tail y s) r d p e ns is w h a = following_asked r y s d p e ns is w h a
  row_asked (If parts k y) r d p e ns is w h a = if_asked r d p e ns is w h a

  -- what a wanted node reads directly is wanted
  pub parts_asked : (n : Node) (ns : List Node) → IsAsked n → EndsAt t.text n.rule n.start n.end → HasParts t.text n ns → Each IsAsked ns
  parts_asked n ns w h a = row_asked (row_of n.rule) n.rule (n.depth + 1) n.start n.end ns refl w h a

  -- of nodes on a pile: of the one on top, and of those that take its place
  module _ (pile rest : List Node) (n : Node) (is : pile ≡ rest ++ n ∷ []) (each : Each IsAsked (reverse pile)) where
    all_asked : Each IsAsked (n ∷ reverse rest)
    all_asked = subst (Each IsAsked) (on_top pile rest n is) each

    pub top_asked : IsAsked n
    top_asked = all_asked.0

    pub piled_asked : (inner new : List Node) → EndsAt t.text n.rule n.start n.end → HasParts t.text n inner → reverse new ≡ inner ++ reverse rest → Each IsAsked (reverse new)
    piled_asked inner new h parts piled = subst (Each IsAsked) (sym piled) (each_append IsAsked inner (reverse rest) (parts_asked n inner top_asked h parts) all_asked.1)

  pub root_asked : (empty pile : List Node) (n : Node) → empty ≡ [] → pile ≡ empty ++ n ∷ [] → IsAsked n → Each IsAsked (reverse pile)
  root_asked empty pile n e is w = subst (Each IsAsked) (sym (on_top pile empty n is ∙ ap (λ z. n ∷ reverse z) e)) (w, tt)
