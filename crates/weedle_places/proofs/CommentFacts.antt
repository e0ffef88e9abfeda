-- The comments within a span: no node begins before the one before it, and what is found along the nodes.
use Rattle.std.proofs.Common.{◌≡◌, ◌⊎◌, inl, inr, ℕ, zero, suc, ◌+◌, ◌-◌, ◌<◌, ◌≤◌, ◌&&◌, Bool, true, false, List, [], ◌∷◌, ◌++◌, length, map, refl, sym, subst, ◌∙◌, ap, arith, append-nil, le-ltb}
use Rattle.std.proofs.lemmas.Bool.{lt-leb}
use Rattle.std.proofs.lemmas.List.{map-append}
use Rattle.std.specs.Prelude.{cond, nat_lt, nat_le}
use Rattle.std.specs.List.Sorted.{IsNonDecreasingBy}
use Rattle.std.proofs.lemmas.List.Sorted.{IsNonDecreasingBy-from_default}
use Rattle.weedle_grammar.specs.written.Table.{row_of}
use Rattle.weedle_syntax.specs.declared.dialect.Dialect.{Dialect}
use Rattle.weedle_syntax.specs.declared.node.Node.{Node}
use Rattle.weedle_syntax.specs.Dialects.{start_of, IsFrontIn}
use Rattle.weedle_syntax.specs.Syntax.{node_to, root_to}
use Rattle.weedle_syntax.specs.Tree.{node_at, numbers_where}
use Rattle.weedle_syntax.proofs.TreeFacts.{AreNodes, nodes_of}
use Rattle.weedle_syntax.proofs.LeafFacts.{Tile, Level, row_covers, tile_append}
use Rattle.weedle_places.specs.declared.span.Span.{Span}
use Rattle.weedle_places.specs.Comments.{is_comment_in, comments_of}
use Rattle.weedle_places.specs.Spans.{span_at}
use Rattle.weedle_places.proofs.NumberFacts.{numbers_more, numbers_none, numbers_same}

-- the first begins at a place or behind it, and each other no earlier than the one before it
abbrev Rise : ℕ → List Node → Type 0
Rise p [] = Unit {0}
Rise p (n ∷ ns) = (p ≤ n.start) × Rise n.start ns

rise_sooner : (p q : ℕ) (ns : List Node) → p ≤ q → Rise q ns → Rise p ns
rise_sooner p q [] l h = tt
rise_sooner p q (n ∷ ns) l h = let a = h.0 in (omega arith, h.1)

rise_at : (p : ℕ) (ns : List Node) (j : ℕ) → Rise p ns → j < length ns → p ≤ (node_at ns j).start
rise_at p [] j h l = absurd (omega arith)
rise_at p (n ∷ ns) zero h l = h.0
rise_at p (n ∷ ns) (suc j) h l =
    let a = h.0 in
    let b = rise_at n.start ns j h.1 (omega arith) in
    omega arith

rise_from : (p : ℕ) (ns : List Node) (i j : ℕ) → Rise p ns → i ≤ j → j < length ns → (node_at ns i).start ≤ (node_at ns j).start
rise_from p [] i j h a l = absurd (omega arith)
rise_from p (n ∷ ns) zero zero h a l = omega arith
rise_from p (n ∷ ns) zero (suc j) h a l = rise_at n.start ns j h.1 (omega arith)
rise_from p (n ∷ ns) (suc i) zero h a l = absurd (omega arith)
rise_from p (n ∷ ns) (suc i) (suc j) h a l = rise_from n.start ns i j h.1 (omega arith) (omega arith)

module _ (text : List ℕ) where
  behind : (n : Node) (ns inner others : List Node) (e : ℕ) → ((w : List Node) (q : ℕ) → AreNodes text w ns → Tile q e w → Rise q ns) → AreNodes text (inner ++ others) ns
      → (inner ≡ []) ⊎ (Tile n.start n.end inner × Level (n.depth + 1) inner) → n.start ≤ n.end → Tile n.end e others → Rise n.start ns
  behind n ns inner others e rest a (inl c) l t = rise_sooner n.start n.end ns l (rest others n.end (subst (λ z. AreNodes text (z ++ others) ns) c a) t)
  behind n ns inner others e rest a (inr c) l t = rest (inner ++ others) n.start a (tile_append n.start n.end e inner others c.0 t)

  nodes_rise : (ns waiting : List Node) (p e : ℕ) → AreNodes text waiting ns → Tile p e waiting → Rise p ns
  nodes_rise [] waiting p e a t = tt
  nodes_rise (n ∷ ns) waiting p e (inner, others, is, parts, a) t =
      let tile = subst (Tile p e) is t in
      let start = tile.0 in
      let end = tile.1 in
      (omega arith, behind n ns inner others e (λ w q. nodes_rise ns w q e) a (row_covers text (n.depth + 1) (row_of n.rule) n.start n.end inner parts) (omega arith) tile.2)

  pub front_rises : (dialect : Dialect) (ns : List Node) → IsFrontIn dialect text ns → IsNonDecreasingBy (λ (n : Node). n.start) ns
  front_rises dialect ns (end, reads, are) =
      let rise = nodes_rise ns (node_to (start_of dialect) end ∷ []) 0 end (nodes_of text (node_to (start_of dialect) end ∷ []) ns are) (refl, omega arith, refl) in
      IsNonDecreasingBy-from_default (λ (n : Node). n.start) ns (root_to 0) (λ i j. rise_from 0 ns i j rise)

module _ (ns : List Node) (span : Span) where
  abbrev test : ℕ → Bool
  test = is_comment_in ns span

  -- the comments among the nodes before node i
  abbrev pub AreFound : ℕ → List Span → Type 0
  AreFound i found = found ≡ map (span_at ns) (numbers_where test 0 i)

  not_before : (c d : Bool) (a b : ℕ) → b < a → c && (nat_le a b && d) ≡ false
  not_before true d a b l = ap (λ z. z && d) (lt-leb a b l)
  not_before false d a b l = refl

  not_behind : (c d f : Bool) (a b : ℕ) → b ≤ a → c && (d && (nat_lt a b && f)) ≡ false
  not_behind true true f a b l = ap (λ z. z && f) (le-ltb a b l)
  not_behind true false f a b l = refl
  not_behind false d f a b l = refl

  numbers_to : (i : ℕ) → numbers_where test 0 (i + 1) ≡ numbers_where test 0 i ++ cond (test i) (i ∷ []) []
  numbers_to i =
      let on : i + 1 ≡ suc i = omega arith in
      let here : 0 + i ≡ i = omega arith in
      ap (numbers_where test 0) on ∙ numbers_more test i 0 ∙ ap (λ z. numbers_where test 0 i ++ cond (test z) (z ∷ []) []) here

  pub found_none : (found : List Span) (first : ℕ) → found ≡ [] → ((j : ℕ) → j < first → (node_at ns j).start < span.start) → AreFound first found
  found_none found first e h = e ∙ ap (map (span_at ns)) (sym (numbers_none test first 0 (λ i l m. not_before _ _ _ _ (h i (omega arith)))))

  pub found_more : (found new : List Span) (i : ℕ) → test i ≡ true → new ≡ found ++ span_at ns i ∷ [] → AreFound i found → AreFound (i + 1) new
  found_more found new i is e h =
      let numbers = numbers_to i ∙ ap (λ b. numbers_where test 0 i ++ cond b (i ∷ []) []) is in
      e ∙ ap (λ z. z ++ span_at ns i ∷ []) h ∙ sym (map-append (span_at ns) (numbers_where test 0 i) (i ∷ [])) ∙ ap (map (span_at ns)) (sym numbers)

  pub found_same : (found : List Span) (i : ℕ) → test i ≡ false → AreFound i found → AreFound (i + 1) found
  found_same found i is h =
      let numbers = numbers_to i ∙ ap (λ b. numbers_where test 0 i ++ cond b (i ∷ []) []) is ∙ append-nil (numbers_where test 0 i) in
      h ∙ ap (map (span_at ns)) (sym numbers)

  pub found_all : (found : List Span) (i : ℕ) → i ≤ length ns → ((j : ℕ) → i ≤ j → j < length ns → span.end ≤ (node_at ns j).start) → AreFound i found → found ≡ comments_of ns span
  found_all found i l h f =
      let many : i + (length ns - i) ≡ length ns = omega arith in
      f ∙ ap (map (span_at ns)) (sym (numbers_same test (length ns - i) i 0 (λ j a b. not_behind _ _ _ _ _ (h j (omega arith) (omega arith)))) ∙ ap (numbers_where test 0) many)
