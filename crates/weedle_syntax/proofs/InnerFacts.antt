-- What a node reads directly are its children.
use Rattle.std.proofs.Common.{◌≡◌, inl, inr, ℕ, zero, suc, ◌==◌, ◌+◌, ◌-◌, ◌<◌, Bool, true, false, List, [], ◌∷◌, ◌++◌, length, drop, map, refl, sym, subst, ◌∙◌, ap, arith, add-one, eq-eqb, ne_eqb}
use Rattle.std.specs.Prelude.{cond, nat_lt}
use Rattle.std.specs.List.{prefix_len}
use Rattle.std.proofs.lemmas.Bool.{cases_lt, lt-ltb, le-ltb}
use Rattle.std.proofs.lemmas.List.{drop_more, drop_all}
use Rattle.weedle_grammar.specs.written.Table.{row_of}
use Rattle.weedle_syntax.specs.declared.dialect.Dialect.{Dialect}
use Rattle.weedle_syntax.specs.declared.node.Node.{Node}
use Rattle.weedle_syntax.specs.Dialects.{start_of, IsFrontIn}
use Rattle.weedle_syntax.specs.Parts.{HasParts}
use Rattle.weedle_syntax.specs.Syntax.{node_to, root_to}
use Rattle.weedle_syntax.specs.Tree.{node_at, is_deeper, below_of, numbers_where, children_of}
use Rattle.weedle_syntax.proofs.TreeFacts.{AreNodes, nodes_of}
use Rattle.weedle_syntax.proofs.LeafFacts.{Level, Rise, row_covers, rise_append, rise_more}
use Rattle.weedle_syntax.proofs.BelowFacts.{depth_at}

-- of these nodes those that are one deeper than d, up to the first that isn't deeper
abbrev tops : ℕ → List Node → List Node
tops d [] = []
tops d (n ∷ ns) = cond (nat_lt d n.depth) (cond (n.depth == d + 1) (n ∷ tops d ns) (tops d ns)) []

module _ (d : ℕ) where
  -- the same node in front
  tops_cons : (n : Node) (xs ys : List Node) → (d < n.depth → tops d xs ≡ tops d ys) → tops d (n ∷ xs) ≡ tops d (n ∷ ys)
  tops_cons n xs ys h = elim (cases_lt d n.depth) [
    | inl l ↦ ap (λ z. cond (nat_lt d n.depth) (cond (n.depth == d + 1) (n ∷ z) z) []) (h l)
    | inr l ↦ (
        let e = le-ltb d n.depth l in
        ap (λ b. cond b (cond (n.depth == d + 1) (n ∷ tops d xs) (tops d xs)) []) e ∙ sym (ap (λ b. cond b (cond (n.depth == d + 1) (n ∷ tops d ys) (tops d ys)) []) e))
  ]

  -- nodes that are deeper still are passed over
  tops_skip : (k : ℕ) (inner others : List Node) → Level k inner → d + 1 < k → tops d (inner ++ others) ≡ tops d others
  tops_skip k [] others h l = refl
  tops_skip k (n ∷ inner) others h l =
      let e : n.depth ≡ k = h.0 in
      let rest = tops d (inner ++ others) in
      ap (λ b. cond b (cond (n.depth == d + 1) (n ∷ rest) rest) []) (lt-ltb d n.depth (omega arith))
      ∙ ap (λ b. cond b (n ∷ rest) rest) (ne_eqb n.depth (d + 1) (λ z. absurd (omega arith)))
      ∙ tops_skip k inner others h.1 l

  tops_none : (others : List Node) → Rise d others → tops d others ≡ []
  tops_none [] r = refl
  tops_none (n ∷ others) r = ap (λ b. cond b (cond (n.depth == d + 1) (n ∷ tops d others) (tops d others)) []) (le-ltb d n.depth r.0)

  -- those that are one deeper are all taken
  tops_keep : (inner others : List Node) → Level (d + 1) inner → Rise d others → tops d (inner ++ others) ≡ inner
  tops_keep [] others h r = tops_none others r
  tops_keep (n ∷ inner) others h r =
      let e : n.depth ≡ d + 1 = h.0 in
      let rest = tops d (inner ++ others) in
      ap (λ b. cond b (cond (n.depth == d + 1) (n ∷ rest) rest) []) (lt-ltb d n.depth (omega arith))
      ∙ ap (λ b. cond b (n ∷ rest) rest) (eq-eqb n.depth (d + 1) e)
      ∙ ap (λ z. n ∷ z) (tops_keep inner others h.1 r)

module _ (text : List ℕ) where
  level_of : (n : Node) (inner : List Node) → HasParts text n inner → Level (n.depth + 1) inner
  level_of n inner h = elim (row_covers text (n.depth + 1) (row_of n.rule) n.start n.end inner h) [
    | inl e ↦ subst (Level (n.depth + 1)) (sym e) tt
    | inr c ↦ c.1
  ]

  -- nodes in preorder have those on top that wait
  tops_are : (d : ℕ) (ns w : List Node) → AreNodes text w ns → tops d ns ≡ tops d w
  tops_are d [] w a = sym (ap (tops d) a)
  tops_are d (n ∷ ns) w (inner, others, is, parts, a) =
      tops_cons d n ns others (λ l. tops_are d ns (inner ++ others) a ∙ tops_skip d (n.depth + 1) inner others (level_of n inner parts) (omega arith))
      ∙ sym (ap (tops d) is)

  -- what node i reads, and the nodes behind it
  record Inner (ns : List Node) (i : ℕ) : Type 0 where
    inner : List Node
    others : List Node
    parts : HasParts text (node_at ns i) inner
    on : AreNodes text (inner ++ others) (drop (suc i) ns)
    rise : Rise (node_at ns i).depth others

  inner_at : (i k : ℕ) (ns w : List Node) → AreNodes text w ns → Rise k w → i < length ns → Inner ns i
  inner_at i k [] w a r l = absurd (omega arith)
  inner_at zero k (n ∷ ns) w (inner, others, is, parts, a) r l =
      let s = subst (Rise k) is r in
      record { inner = inner; others = others; parts = parts; on = a; rise = s.1 }
  inner_at (suc i) k (n ∷ ns) w (inner, others, is, parts, a) r l =
      let s = subst (Rise k) is r in
      let up = rise_append (n.depth + 1) inner others (level_of n inner parts) (rise_more n.depth (n.depth + 1) others (omega arith) s.1) in
      let f = inner_at i (n.depth + 1) ns (inner ++ others) a up (omega arith) in
      record { inner = f.inner; others = f.others; parts = f.parts; on = f.on; rise = f.rise }

-- from node k on
module _ (ns : List Node) (d : ℕ) where
  abbrev is_top : ℕ → Bool
  is_top j = depth_at ns j == d + 1

  tops_from : (ms : List Node) (k : ℕ) → ms ≡ drop k ns → map (node_at ns) (numbers_where is_top k (prefix_len (is_deeper d) ms)) ≡ tops d ms
  unfolding numbers_where
  tops_from [] k e = refl
  tops_from (m ∷ ms) k e = elim (cases_lt k (length ns)) [
    | inl l ↦ (
        let more = e ∙ drop_more ns k (root_to 0) l in
        let node : m ≡ node_at ns k = cc in
        let rest : ms ≡ drop (k + 1) ns = cc in
        here node (tops_from ms (k + 1) rest))
    | inr l ↦ absurd (let none = e ∙ drop_all k ns l in let n : ⊥ = cc in n)
  ]
    where
      pick : (b : Bool) (rest : List ℕ) → map (node_at ns) (cond b (k ∷ rest) rest) ≡ cond b (node_at ns k ∷ map (node_at ns) rest) (map (node_at ns) rest)
      pick true rest = refl
      pick false rest = refl

      here : m ≡ node_at ns k → map (node_at ns) (numbers_where is_top (k + 1) (prefix_len (is_deeper d) ms)) ≡ tops d ms → map (node_at ns) (numbers_where is_top k (cond (nat_lt d m.depth) (1 + prefix_len (is_deeper d) ms) 0)) ≡ tops d (m ∷ ms)
      here node h = elim (cases_lt d m.depth) [
        | inl l ↦ (
            let deep = lt-ltb d m.depth l in
            let more : 1 + prefix_len (is_deeper d) ms ≡ suc (prefix_len (is_deeper d) ms) = omega arith in
            let rest = numbers_where is_top (k + 1) (prefix_len (is_deeper d) ms) in
            ap (λ b. map (node_at ns) (numbers_where is_top k (cond b (1 + prefix_len (is_deeper d) ms) 0))) deep
            ∙ ap (λ z. map (node_at ns) (numbers_where is_top k z)) more
            ∙ pick (is_top k) rest
            ∙ ap (λ z. cond (is_top k) (node_at ns k ∷ z) z) h
            ∙ ap (λ n. cond (n.depth == d + 1) (n ∷ tops d ms) (tops d ms)) (sym node)
            ∙ sym (ap (λ b. cond b (cond (m.depth == d + 1) (m ∷ tops d ms) (tops d ms)) []) deep))
        | inr l ↦ (
            let shallow = le-ltb d m.depth l in
            ap (λ b. map (node_at ns) (numbers_where is_top k (cond b (1 + prefix_len (is_deeper d) ms) 0))) shallow
            ∙ sym (ap (λ b. cond b (cond (m.depth == d + 1) (m ∷ tops d ms) (tops d ms)) []) shallow))
      ]

-- a node's children are the nodes that it reads directly
pub children_are_parts : (dialect : Dialect) (text : List ℕ) (ns : List Node) (i : ℕ) → IsFrontIn dialect text ns → i < length ns → HasParts text (node_at ns i) (map (node_at ns) (children_of ns i))
children_are_parts dialect text ns i f l =
    let at = inner_at text i 0 ns (node_to (start_of dialect) f.0 ∷ []) (nodes_of text (node_to (start_of dialect) f.0 ∷ []) ns f.2) (omega arith, tt) l in
    let d = depth_at ns i in
    let behind : drop (suc i) ns ≡ drop (i + 1) ns = ap (λ z. drop z ns) (sym (add-one i)) in
    let many : i + 1 + below_of ns i - (i + 1) ≡ below_of ns i = omega arith in
    let kept = tops_are text d (drop (suc i) ns) (at.inner ++ at.others) at.on ∙ tops_keep d at.inner at.others (level_of text (node_at ns i) at.inner at.parts) at.rise in
    let same = ap (λ z. map (node_at ns) (numbers_where (is_top ns d) (i + 1) z)) many ∙ tops_from ns d (drop (i + 1) ns) (i + 1) refl ∙ ap (tops d) (sym behind) ∙ kept in
    subst (HasParts text (node_at ns i)) (sym same) at.parts
