-- A text has no more than one list of nodes.
use Rattle.std.proofs.Common.{◌≡◌, inl, inr, ℕ, ◌+◌, List, [], ◌∷◌, ◌++◌, length, Bool, true, false, Some, refl, sym, subst, ◌∙◌, ap}
use Rattle.weedle_grammar.specs.Rows.{Row, Bytes, OneOf, NotNext, Run, Past, Seq, First, Opt, Many, ListOf, List1, Tail, If}
use Rattle.weedle_grammar.specs.Meaning.{Piece, gave_some}
use Rattle.weedle_grammar.specs.written.Table.{row_of}
use Rattle.weedle_grammar.proofs.Unique.{one_seq}
use Rattle.weedle_rules.specs.Outcomes.{EndsAt, FailsAt}
use Rattle.weedle_rules.proofs.OutcomeFacts.{one_end, not_both}
use Rattle.weedle_syntax.specs.declared.dialect.Dialect.{Dialect}
use Rattle.weedle_syntax.specs.declared.node.Node.{Node}
use Rattle.weedle_syntax.specs.Parts.{IsNode, AreInTurn, IsFirst, AreItems, NoneFollows, AreFollowing, Gave, AreParts}
use Rattle.weedle_syntax.specs.Dialects.{start_of, IsSyntaxIn}
use Rattle.weedle_syntax.specs.Syntax.{AreTrees, no_trees, a_tree, root_to, node_to, IsFront}
use Rattle.weedle_syntax.specs.Laid.{node}

same_node : (n m : Node) → n.rule ≡ m.rule → n.start ≡ m.start → n.end ≡ m.end → n.depth ≡ m.depth → n ≡ m
same_node n m a b c d =
    ap (λ r. node r n.start n.end n.depth) a ∙ ap (λ p. node m.rule p n.end n.depth) b ∙ ap (λ e. node m.rule m.start e n.depth) c ∙ ap (λ k. node m.rule m.start m.end k) d

same_pieces : (ps qs : List Piece) → Some ps ≡ Some qs → ps ≡ qs
same_pieces ps qs h = cc

module _ (text : List ℕ) (d : ℕ) where
  one_node : (r p : ℕ) (n m : Node) → IsNode text r d p n → IsNode text r d p m → n ≡ m
  one_node r p n m i j = same_node n m (i.rule_is ∙ sym j.rule_is) (i.start_is ∙ sym j.start_is) (one_end j.reads i.reads) (i.depth_is ∙ sym j.depth_is)

  both_more : (n m : Node) (ns ms : List Node) → n ≡ m → ns ≡ ms → n ∷ ns ≡ m ∷ ms
  both_more n m ns ms a b = ap (λ x. x ∷ ns) a ∙ ap (λ x. m ∷ x) b

  one_turn : (rs : List ℕ) (p e z : ℕ) (ns ms : List Node) → AreInTurn text rs d p e ns → AreInTurn text rs d p z ms → ns ≡ ms
  one_turn [] p e z ns ms h k = h.0 ∙ sym k.0
  one_turn (r ∷ rs) p e z [] ms h k = absurd h
  one_turn (r ∷ rs) p e z (n ∷ ns) [] h k = absurd k
  one_turn (r ∷ rs) p e z (n ∷ ns) (m ∷ ms) h k =
      let same = one_node r p n m h.0 k.0 in
      both_more n m ns ms same (one_turn rs n.end e z ns ms h.1 (subst (λ x. AreInTurn text rs d x.end z ms) (sym same) k.1))

  -- a node is there where the rule doesn't fail
  turn_reads : (r : ℕ) (rs : List ℕ) (p e : ℕ) (ns : List Node) → FailsAt text r p → AreInTurn text (r ∷ rs) d p e ns → ⊥
  turn_reads r rs p e [] f h = absurd h
  turn_reads r rs p e (n ∷ ns) f h = not_both f h.0.reads

  one_first : (rs : List ℕ) (p e z : ℕ) (ns ms : List Node) → IsFirst text rs d p e ns → IsFirst text rs d p z ms → ns ≡ ms
  one_first [] p e z ns ms h k = absurd h
  one_first (r ∷ rs) p e z ns ms (inl h) (inl k) = one_turn (r ∷ []) p e z ns ms h k
  one_first (r ∷ rs) p e z ns ms (inl h) (inr k) = absurd (turn_reads r [] p e ns k.0 h)
  one_first (r ∷ rs) p e z ns ms (inr h) (inl k) = absurd (turn_reads r [] p z ms h.0 k)
  one_first (r ∷ rs) p e z ns ms (inr h) (inr k) = one_first rs p e z ns ms h.1 k.1

  one_items : (y p e z : ℕ) (ns ms : List Node) → AreItems text y d p e ns → AreItems text y d p z ms → ns ≡ ms
  one_items y p e z [] [] h k = refl
  one_items y p e z [] (m ∷ ms) h k = absurd (not_both h.1 k.0.reads)
  one_items y p e z (n ∷ ns) [] h k = absurd (not_both k.1 h.0.reads)
  one_items y p e z (n ∷ ns) (m ∷ ms) h k =
      let same = one_node y p n m h.0 k.0 in
      both_more n m ns ms same (one_items y n.end e z ns ms h.1 (subst (λ x. AreItems text y d x.end z ms) (sym same) k.1))

  none_but_one : (y s p : ℕ) (n m : Node) → NoneFollows text y s p → IsNode text s d p n → IsNode text y d n.end m → ⊥
  none_but_one y s p n m (inl f) i j = not_both f i.reads
  none_but_one y s p n m (inr (q, h, f)) i j = not_both f (subst (λ x. EndsAt text y x m.end) (one_end h i.reads) j.reads)

  one_following : (y s p e z : ℕ) (ns ms : List Node) → AreFollowing text y s d p e ns → AreFollowing text y s d p z ms → ns ≡ ms
  one_following y s p e z [] [] h k = refl
  one_following y s p e z [] (m ∷ []) h k = absurd k
  one_following y s p e z [] (m ∷ o ∷ ms) h k = absurd (none_but_one y s p m o h.1 k.0 k.1)
  one_following y s p e z (n ∷ []) ms h k = absurd h
  one_following y s p e z (n ∷ o ∷ ns) [] h k = absurd (none_but_one y s p n o k.1 h.0 h.1)
  one_following y s p e z (n ∷ o ∷ ns) (m ∷ []) h k = absurd k
  one_following y s p e z (n ∷ o ∷ ns) (m ∷ q ∷ ms) (h, i, j) (k, l, t) =
      let same = one_node s p n m h k in
      let item = one_node y n.end o q i (subst (λ x. IsNode text y d x.end q) (sym same) l) in
      both_more n m (o ∷ ns) (q ∷ ms) same (both_more o q ns ms item (one_following y s o.end e z ns ms j (subst (λ x. AreFollowing text y s d x.end z ms) (sym item) t)))

  clash : {A : Type 0} (b : Bool) → b ≡ true → b ≡ false → A
  clash b h k = cc

  gave_once : {A : Type 0} (rs : List ℕ) (k p : ℕ) → Gave text rs k p true → Gave text rs k p false → A
  gave_once rs k p (ps, h, a) (qs, i, b) = clash (gave_some k ps) a (ap (gave_some k) (same_pieces ps qs (one_seq h i refl)) ∙ b)

  one_row : (row : Row) (p e : ℕ) (ns ms : List Node) → AreParts text row d p e ns → AreParts text row d p e ms → ns ≡ ms
  one_row (Seq parts) p e ns ms h k = one_turn parts p e e ns ms h k
  one_row (First parts) p e ns ms h k = one_first parts p e e ns ms h k
  one_row (Opt y) p e ns ms (inl h) (inl k) = one_turn (y ∷ []) p e e ns ms h k
  one_row (Opt y) p e ns ms (inl h) (inr k) = absurd (turn_reads y [] p e ns k.0 h)
  one_row (Opt y) p e ns ms (inr h) (inl k) = absurd (turn_reads y [] p e ms h.0 k)
  one_row (Opt y) p e ns ms (inr h) (inr k) = h.1.0 ∙ sym k.1.0
  one_row (Many y) p e ns ms h k = one_items y p e e ns ms h k
  one_row (ListOf y t) p e ns ms (inl h) (inl k) = one_turn (y ∷ t ∷ []) p e e ns ms h k
  one_row (ListOf y t) p e ns ms (inl h) (inr k) = absurd (turn_reads y (t ∷ []) p e ns k.0 h)
  one_row (ListOf y t) p e ns ms (inr h) (inl k) = absurd (turn_reads y (t ∷ []) p e ms h.0 k)
  one_row (ListOf y t) p e ns ms (inr h) (inr k) = h.1.0 ∙ sym k.1.0
  one_row (List1 y t) p e ns ms h k = one_turn (y ∷ t ∷ []) p e e ns ms h k
  one_row (Tail y s) p e ns ms h k = one_following y s p e e ns ms h k
  one_row (If parts j y) p e ns ms (inl h) (inl k) = one_turn (parts ++ y ∷ []) p e e ns ms h.1 k.1
  one_row (If parts j y) p e ns ms (inl h) (inr k) = gave_once parts j p h.0 k.0
  one_row (If parts j y) p e ns ms (inr h) (inl k) = gave_once parts j p k.0 h.0
  one_row (If parts j y) p e ns ms (inr h) (inr k) = one_turn parts p e e ns ms h.1 k.1
  one_row (Bytes b) p e ns ms h k = h ∙ sym k
  one_row (OneOf b) p e ns ms h k = h ∙ sym k
  one_row (NotNext b) p e ns ms h k = h ∙ sym k
  one_row (Run b) p e ns ms h k = h ∙ sym k
  one_row (Past b) p e ns ms h k = h ∙ sym k

pub one_forest : (text : List ℕ) (w ns ms : List Node) → AreTrees text w ns → AreTrees text w ms → ns ≡ ms
one_forest text [] ns ms (no_trees a) (no_trees b) = a ∙ sym b
one_forest text (n ∷ others) ns ms (a_tree {inner = inner} {below = below} {behind = behind} p a b e) (a_tree {inner = inner'} {below = below'} {behind = behind'} q c d f) =
    let same : inner ≡ inner' = one_row text (n.depth + 1) (row_of n.rule) n.start n.end inner inner' p q in
    let under : below ≡ below' = one_forest text inner below below' a (subst (λ x. AreTrees text x below') (sym same) c) in
    let after : behind ≡ behind' = one_forest text others behind behind' b d in
    e ∙ ap (λ x. n ∷ x ++ behind) under ∙ ap (λ x. n ∷ below' ++ x) after ∙ sym f

-- of the definitions that are read, whatever the remaining input is
pub one_front : (text : List ℕ) (ns ms : List Node) → IsFront text ns → IsFront text ms → ns ≡ ms
one_front text ns ms (end, h, a) (other, k, b) = one_forest text (root_to end ∷ []) ns ms a (subst (λ e. AreTrees text (root_to e ∷ []) ms) (one_end h k) b)

-- of a whole text
pub one_syntax : (text : List ℕ) (ns ms : List Node) → AreTrees text (root_to (length text) ∷ []) ns → AreTrees text (root_to (length text) ∷ []) ms → ns ≡ ms
one_syntax text ns ms h k = one_forest text (root_to (length text) ∷ []) ns ms h k

-- the same by the rules of a dialect
pub one_syntax_in : (dialect : Dialect) (text : List ℕ) (ns ms : List Node) → IsSyntaxIn dialect text ns → IsSyntaxIn dialect text ms → ns ≡ ms
one_syntax_in dialect text ns ms h k = one_forest text (node_to (start_of dialect) (length text) ∷ []) ns ms h k
