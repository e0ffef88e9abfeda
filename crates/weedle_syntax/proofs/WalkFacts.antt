-- From node to node: first parts, siblings, parents, and the leaf at a byte.
use Rattle.std.proofs.Common.{◌≡◌, ◌≢◌, inl, inr, ℕ, ◌+◌, ◌<◌, ◌≤◌, List, length, sym, subst, ap, arith}
use Rattle.std.proofs.lemmas.Bool.{cases_lt}
use Rattle.weedle_syntax.specs.declared.node.Node.{Node}
use Rattle.weedle_syntax.specs.Tree.{node_at, below_of, IsChild, IsLeaf, IsLeafAt}
use Rattle.weedle_syntax.proofs.BelowFacts.{depth_at, below_within, below_deeper, next_no_deeper, below_is, below_reaches}
use Rattle.weedle_syntax.proofs.StepFacts.{IsJoined}

-- looked back from node i to node `at`: none of these is shallower than node i
pub record IsBack (ns : List Node) (i at : ℕ) : Type 0 where
  pub within : at ≤ i
  pub deeper : (k : ℕ) → at ≤ k → k ≤ i → depth_at ns i ≤ depth_at ns k

pub back_start : (ns : List Node) (i : ℕ) → IsBack ns i i
back_start ns i = record { within = omega arith; deeper = λ k a b. let e : i ≡ k = omega arith in subst (λ z. depth_at ns i ≤ depth_at ns z) e (omega arith) }

pub back_step : (ns : List Node) (i at to : ℕ) → at ≡ to + 1 → IsBack ns i at → depth_at ns i ≤ depth_at ns to → IsBack ns i to
back_step ns i at to e h d =
    let w = h.within in
    record {
      within = omega arith;
      deeper = λ k a b. elim (cases_lt to k) [
        | inl l ↦ h.deeper k (omega arith) b
        | inr l ↦ (let g : to ≡ k = omega arith in subst (λ z. depth_at ns i ≤ depth_at ns z) g d)
      ];
    }

-- none so far, and not this one
pub none_yet : (P : ℕ → Type 0) (from i : ℕ) → ((j : ℕ) → from ≤ j → j < i → P j → ⊥) → (P i → ⊥) → (j : ℕ) → from ≤ j → j < i + 1 → P j → ⊥
none_yet P from i h n j a b k = elim (cases_lt j i) [
  | inl l ↦ h j a l k
  | inr l ↦ (let e : j ≡ i = omega arith in n (subst P e k))
]

-- halving the nodes for a byte: node `low` begins at the byte or before it, and node `high` behind it
pub record Halving (ns : List Node) (byte low high : ℕ) : Type 0 where
  pub some : low < high
  pub within : high ≤ length ns
  pub starts : (node_at ns low).start ≤ byte
  pub behind : high < length ns → byte < (node_at ns high).start

module _ (ns : List Node) (byte low high middle : ℕ) (h : Halving ns byte low high) where
  pub halve_up : low < middle → middle < high → (node_at ns middle).start ≤ byte → Halving ns byte middle high
  halve_up a b s = record { some = b; within = h.within; starts = s; behind = h.behind }

  pub halve_down : low < middle → middle < high → byte < (node_at ns middle).start → Halving ns byte low middle
  halve_down a b s = record { some = a; within = (let w = h.within in omega arith); starts = h.starts; behind = λ l. s }

module _ {r : ℕ} (ns : List Node) (end : ℕ) (j : IsJoined r ns end) where
  -- no node is deeper by more than one than the node before it
  step_up : (i : ℕ) → i + 1 < length ns → depth_at ns (i + 1) ≤ depth_at ns i + 1
  step_up i l = elim (j.step i l) [ inl h ↦ (let e = h.1 in omega arith) | inr h ↦ (let e = h.1 in omega arith) ]

  pub first_is_child : (i : ℕ) → i < length ns → below_of ns i ≢ 0 → IsChild ns i (i + 1)
  first_is_child i l n =
      let w = below_within ns i l in
      let many : 1 ≤ below_of ns i = omega (arith, n) in
      let deeper = below_deeper ns i (i + 1) (omega arith) (omega arith) in
      let up = step_up i (omega arith) in
      record { behind = omega arith; below = omega arith; depth = omega arith }

  pub parent_is : (i p : ℕ) → i < length ns → IsBack ns i (p + 1) → depth_at ns p < depth_at ns i → IsChild ns p i
  parent_is i p l h d =
      let w = h.within in
      let up = step_up p (omega arith) in
      let first = h.deeper (p + 1) (omega arith) (omega arith) in
      record {
        behind = omega arith;
        below = below_reaches ns p i (omega arith) l (λ k a b. let g = h.deeper k (omega arith) b in omega arith);
        depth = omega arith;
      }

  pub no_parent : (i : ℕ) → i < length ns → IsBack ns i 0 → i ≡ 0
  no_parent i l h = elim (cases_lt 0 i) [
    | inl a ↦ absurd (
        let first = h.deeper 0 (omega arith) (omega arith) in
        let root : depth_at ns 0 ≡ 0 = ap (λ n. n.depth) j.root in
        let deep = j.deep i a l in
        omega arith)
    | inr a ↦ omega arith
  ]

  module _ (p i next : ℕ) (is : next ≡ i + below_of ns i + 1) (l : i < length ns) (c : IsChild ns p i) where
    -- all behind a parent up to the end of what is below its child is below the parent
    deeper_than : (k : ℕ) → p < k → k < next → depth_at ns p < depth_at ns k
    deeper_than k a b =
        let cb = c.behind in
        let cw = c.below in
        let cd = c.depth in
        elim (cases_lt i k) [
          | inl m ↦ (let d = below_deeper ns i k m (omega arith) in omega arith)
          | inr m ↦ below_deeper ns p k a (omega arith)
        ]

    pub sibling_is_child : next < length ns → depth_at ns next ≡ depth_at ns i → IsChild ns p next
    sibling_is_child m d =
        let cb = c.behind in
        let cd = c.depth in
        record {
          behind = omega arith;
          below = below_reaches ns p next (omega arith) m (λ k a b. elim (cases_lt k next) [
            | inl s ↦ deeper_than k a s
            | inr s ↦ (let e : next ≡ k = omega arith in subst (λ z. depth_at ns p < depth_at ns z) e (omega arith))
          ]);
          depth = omega arith;
        }

    pub last_ends_parent : (next < length ns → depth_at ns next ≢ depth_at ns i) → p + below_of ns p ≡ i + below_of ns i
    last_ends_parent n =
        let cb = c.behind in
        let cd = c.depth in
        let w = below_within ns i l in
        let many = below_is ns p next (omega arith) (omega arith) deeper_than (λ m.
        let d = subst (λ z. depth_at ns z ≤ depth_at ns i) (sym is) (next_no_deeper ns i (omega arith)) in
        let o = n m in
        omega (arith, d, o)) in
        omega arith

  -- a node that none deeper follows
  leaf_is : (i : ℕ) → i < length ns → (i + 1 < length ns → depth_at ns (i + 1) ≤ depth_at ns i) → IsLeaf ns i
  leaf_is i l stop =
      let many = below_is ns i (i + 1) (omega arith) (omega arith) (λ k a b. absurd (omega arith)) stop in
      omega arith

  pub halving_starts : (byte : ℕ) → Halving ns byte 0 (length ns)
  halving_starts byte =
      let root : (node_at ns 0).start ≡ 0 = ap (λ n. n.start) j.root in
      record { some = j.some; within = omega arith; starts = omega arith; behind = λ l. absurd (omega arith) }

  pub halved : (byte low high : ℕ) → Halving ns byte low high → high ≤ low + 1 → byte < end → IsLeafAt ns byte low
  halved byte low high h e b =
      let some = h.some in
      let within = h.within in
      let at : low + 1 ≡ high = omega arith in
      let l : low < length ns = omega arith in
      elim (cases_lt (low + 1) (length ns)) [
        | inl m ↦ (
            let behind : byte < (node_at ns (low + 1)).start = subst (λ z. byte < (node_at ns z).start) (sym at) (h.behind (omega arith)) in
            elim (j.step low m) [
              | inl s ↦ absurd (let e = s.0 in let first = h.starts in omega arith)
              | inr s ↦ record { within = l; leaf = leaf_is low l (λ k. s.1); starts = h.starts; ends = (let e = s.0 in omega arith) }
            ])
        | inr m ↦ (
            let last = j.last low (omega arith) in
            record { within = l; leaf = leaf_is low l (λ k. absurd (omega arith)); starts = h.starts; ends = omega arith })
      ]
