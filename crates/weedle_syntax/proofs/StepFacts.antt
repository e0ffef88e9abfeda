-- From a node to the one behind it: its first part begins where it begins, or what follows begins where it ends.
use Rattle.std.proofs.Common.{◌≡◌, ◌⊎◌, inl, inr, ℕ, zero, suc, ◌+◌, ◌<◌, ◌≤◌, List, [], ◌∷◌, ◌++◌, length, refl, sym, subst, ap, arith, add-one}
use Rattle.weedle_grammar.specs.written.Table.{row_of}
use Rattle.weedle_syntax.specs.declared.dialect.Dialect.{Dialect}
use Rattle.weedle_syntax.specs.declared.node.Node.{Node}
use Rattle.weedle_syntax.specs.Dialects.{start_of, RestBeginsIn, IsFrontIn}
use Rattle.weedle_syntax.specs.Syntax.{node_to, rest_of}
use Rattle.weedle_syntax.specs.Tree.{node_at}
use Rattle.weedle_syntax.proofs.TreeFacts.{AreNodes, nodes_of}
use Rattle.weedle_syntax.proofs.ChildFacts.{Each, each_append}
use Rattle.weedle_syntax.proofs.LeafFacts.{Tile, Rise, Level, Covers, row_covers, tile_append, rise_append, rise_more}
use Rattle.weedle_syntax.proofs.BelowFacts.{depth_at}

-- node m comes behind node n
abbrev pub Follows : Node → Node → Type 0
Follows n m = ((m.start ≡ n.start) × (m.depth ≡ n.depth + 1)) ⊎ ((m.start ≡ n.end) × (m.depth ≤ n.depth))

-- each node follows the one before it, and the last ends here
abbrev pub Steps : ℕ → List Node → Type 0
Steps e [] = Unit {0}
Steps e (n ∷ []) = n.end ≡ e
Steps e (n ∷ m ∷ ns) = Follows n m × Steps e (m ∷ ns)

module _ (text : List ℕ) where
  -- behind a node without parts
  no_part_next : (n : Node) (ns others : List Node) (e : ℕ) → AreNodes text others ns → Tile n.end e others → Rise n.depth others → Steps e ns → Steps e (n ∷ ns)
  no_part_next n [] others e a t r s = sym (subst (Tile n.end e) a t)
  no_part_next n (m ∷ ns) others e (under, more, is, parts, a) t r s =
      let tile = subst (Tile n.end e) is t in
      let rise = subst (Rise n.depth) is r in
      (inr (tile.0, rise.0), s)

  -- behind a node whose first part comes next
  part_next : (n x : Node) (inner ns : List Node) (e : ℕ) → AreNodes text (x ∷ inner) ns → x.start ≡ n.start → x.depth ≡ n.depth + 1 → Steps e ns → Steps e (n ∷ ns)
  part_next n x inner [] e a start depth s = cc
  part_next n x inner (m ∷ ns) e (under, more, is, parts, a) start depth s =
      let same : x ≡ m = cc in
      (inl (subst (λ z. z.start ≡ n.start) same start, subst (λ z. z.depth ≡ n.depth + 1) same depth), s)

  by_parts : (n : Node) (ns inner others : List Node) (e : ℕ) → ((w : List Node) (q d : ℕ) → AreNodes text w ns → Tile q e w → Rise d w → Steps e ns)
      → AreNodes text (inner ++ others) ns → (inner ≡ []) ⊎ (Tile n.start n.end inner × Level (n.depth + 1) inner) → Tile n.end e others → Rise n.depth others → Steps e (n ∷ ns)
  by_parts n ns [] others e rest a c t r = no_part_next n ns others e a t r (rest others n.end n.depth a t r)
  by_parts n ns (x ∷ inner) others e rest a (inl c) t r = cc
  by_parts n ns (x ∷ inner) others e rest a (inr c) t r =
      part_next n x (inner ++ others) ns e a c.0.0 c.1.0
      (rest ((x ∷ inner) ++ others) n.start (n.depth + 1) a (tile_append n.start n.end e (x ∷ inner) others c.0 t)
      (rise_append (n.depth + 1) (x ∷ inner) others c.1 (rise_more n.depth (n.depth + 1) others (omega arith) r)))

  steps_of : (ns waiting : List Node) (p e d : ℕ) → AreNodes text waiting ns → Tile p e waiting → Rise d waiting → Steps e ns
  steps_of [] waiting p e d a t r = tt
  steps_of (n ∷ ns) waiting p e d (inner, others, is, parts, a) t r =
      let tile = subst (Tile p e) is t in
      let rise = subst (Rise d) is r in
      by_parts n ns inner others e (λ w q k. steps_of ns w q e k) a (row_covers text (n.depth + 1) (row_of n.rule) n.start n.end inner parts) tile.2 rise.1

  -- a node in some other
  abbrev IsDeep : Node → Type 0
  IsDeep n = 0 < n.depth

  level_deep : (d : ℕ) (ns : List Node) → Level (d + 1) ns → Each IsDeep ns
  level_deep d [] h = tt
  level_deep d (n ∷ ns) h = let e : n.depth ≡ d + 1 = h.0 in (omega arith, level_deep d ns h.1)

  covered_deep : (d p e : ℕ) (ns : List Node) → Covers text (d + 1) p e ns → Each IsDeep ns
  covered_deep d p e ns (inl h) = subst (Each IsDeep) (sym h) tt
  covered_deep d p e ns (inr h) = level_deep d ns h.1

  all_deep : (ns waiting : List Node) → AreNodes text waiting ns → Each IsDeep waiting → Each IsDeep ns
  all_deep [] waiting a h = tt
  all_deep (n ∷ ns) waiting (inner, others, is, parts, a) h =
      let w = subst (Each IsDeep) is h in
      (w.0, all_deep ns (inner ++ others) a (each_append IsDeep inner others (covered_deep n.depth n.start n.end inner (row_covers text (n.depth + 1) (row_of n.rule) n.start n.end inner parts)) w.1))

step_at : (e : ℕ) (ns : List Node) (i : ℕ) → i + 1 < length ns → Steps e ns → Follows (node_at ns i) (node_at ns (suc i))
step_at e [] i l h = absurd (omega arith)
step_at e (n ∷ []) i l h = absurd (omega arith)
step_at e (n ∷ m ∷ ns) zero l h = h.0
step_at e (n ∷ m ∷ ns) (suc i) l h = step_at e (m ∷ ns) i (omega arith) h.1

last_end : (e : ℕ) (ns : List Node) (i : ℕ) → i + 1 ≡ length ns → Steps e ns → (node_at ns i).end ≡ e
last_end e [] i l h = absurd (omega arith)
last_end e (n ∷ []) zero l h = h
last_end e (n ∷ []) (suc i) l h = absurd (omega arith)
last_end e (n ∷ m ∷ ns) zero l h = absurd (omega arith)
last_end e (n ∷ m ∷ ns) (suc i) l h = last_end e (m ∷ ns) i (omega arith) h.1

deep_at : (ns : List Node) (i : ℕ) → i < length ns → Each (λ n. 0 < n.depth) ns → 0 < (node_at ns i).depth
deep_at [] i l h = absurd (omega arith)
deep_at (n ∷ ns) zero l h = h.0
deep_at (n ∷ ns) (suc i) l h = deep_at ns i (omega arith) h.1

-- what is known of the nodes of rule r that is read at a text's front
pub record IsJoined (r : ℕ) (ns : List Node) (end : ℕ) : Type 0 where
  pub some : 0 < length ns
  pub root : node_at ns 0 ≡ node_to r end
  pub rest : rest_of ns ≡ end
  pub step : (i : ℕ) → i + 1 < length ns → Follows (node_at ns i) (node_at ns (i + 1))
  pub last : (i : ℕ) → i + 1 ≡ length ns → (node_at ns i).end ≡ end
  pub deep : (i : ℕ) → 0 < i → i < length ns → 0 < depth_at ns i

joined_from : (text : List ℕ) (r end : ℕ) (ns : List Node) → AreNodes text (node_to r end ∷ []) ns → IsJoined r ns end
joined_from text r end [] a = cc
joined_from text r end (n ∷ ns) (inner, others, is, parts, a) =
    let same : node_to r end ≡ n = cc in
    let none : [] ≡ others = cc in
    let steps = steps_of text (n ∷ ns) (node_to r end ∷ []) 0 end 0 (inner, others, is, parts, a) (refl, omega arith, refl) (omega arith, tt) in
    let deep = all_deep text ns (inner ++ others) a (each_append (λ m. 0 < m.depth) inner others (covered_deep text n.depth n.start n.end inner (row_covers text (n.depth + 1) (row_of n.rule) n.start n.end inner parts)) (subst (Each (λ m. 0 < m.depth)) none tt)) in
    record {
      some = omega arith;
      root = sym same;
      rest = sym (ap (λ m. m.end) same);
      step = λ i l. subst (λ k. Follows (node_at (n ∷ ns) i) (node_at (n ∷ ns) k)) (sym (add-one i)) (step_at end (n ∷ ns) i l steps);
      last = λ i l. last_end end (n ∷ ns) i l steps;
      deep = λ i a l. behind i a l deep;
    }
  where
    behind : (i : ℕ) → 0 < i → i < length (n ∷ ns) → Each (λ m. 0 < m.depth) ns → 0 < depth_at (n ∷ ns) i
    behind zero a l h = absurd (omega arith)
    behind (suc i) a l h = deep_at ns i (omega arith) h

pub joined : (dialect : Dialect) (text : List ℕ) (ns : List Node) → IsFrontIn dialect text ns → (end : ℕ) × RestBeginsIn dialect text end × IsJoined (start_of dialect) ns end
joined dialect text ns (end, reads, are) = (end, reads, joined_from text (start_of dialect) end ns (nodes_of text (node_to (start_of dialect) end ∷ []) ns are))
