-- How many nodes are below a node: the nodes behind it as long as they are deeper.
use Rattle.std.proofs.Common.{◌≡◌, inl, inr, ℕ, ◌+◌, ◌-◌, ◌<◌, ◌≤◌, List, length, drop, set, get_or, true, false, sym, subst, ◌∙◌, ap, arith, length-set}
use Rattle.std.specs.Prelude.{nat_lt, replicate}
use Rattle.std.proofs.lemmas.Bool.{cases_lt, lt-ltb, le-ltb}
use Rattle.std.proofs.lemmas.List.{get_or_default, get_or-drop, get_or-set_same, get_or-set_other, length-drop, length-replicate}
use Rattle.std.proofs.lemmas.List.Sums.{prefix_len-le-length, prefix_len_is, prefix_len_passes, prefix_len_stops}
use Rattle.weedle_syntax.specs.declared.node.Node.{Node}
use Rattle.weedle_syntax.specs.Syntax.{root_to}
use Rattle.weedle_syntax.specs.Tree.{node_at, is_deeper, below_of, AreCounts}

-- the depth of node i
abbrev pub depth_at : List Node → ℕ → ℕ
depth_at ns i = (node_at ns i).depth

-- a node that is looked at is the one of its number
pub looked_at : (ns : List Node) (i : ℕ) (n : Node) → i < length ns → n ≡ get_or ns i n → n ≡ node_at ns i
looked_at ns i n l e = e ∙ get_or_default ns i n (root_to 0) l

-- and its depth
pub depth_read : (ns : List Node) (i : ℕ) (n : Node) → i < length ns → n ≡ get_or ns i n → n.depth ≡ depth_at ns i
depth_read ns i n l e = ap (λ m. m.depth) (looked_at ns i n l e)

pub depth_found : (ns : List Node) (i : ℕ) (n : Node) → i < length ns → (get_or ns i n).depth ≡ depth_at ns i
depth_found ns i n l = ap (λ m. m.depth) (get_or_default ns i n (root_to 0) l)

lt_of : (a b : ℕ) → nat_lt a b ≡ true → a < b
lt_of a b h = elim (cases_lt a b) [ inl l ↦ l | inr l ↦ absurd (let e = le-ltb a b l in let n : ⊥ = cc in n) ]

le_of : (a b : ℕ) → nat_lt a b ≡ false → b ≤ a
le_of a b h = elim (cases_lt a b) [ inl l ↦ absurd (let e = lt-ltb a b l in let n : ⊥ = cc in n) | inr l ↦ l ]

module _ (ns : List Node) where
  -- the k-th node behind node i
  behind_is : (i k : ℕ) → get_or (drop (i + 1) ns) k (root_to 0) ≡ node_at ns (i + 1 + k)
  behind_is i k = get_or-drop (i + 1) ns k (root_to 0)

  pub below_within : (i : ℕ) → i < length ns → i + below_of ns i < length ns
  below_within i l =
      let a = prefix_len-le-length (is_deeper (depth_at ns i)) (drop (i + 1) ns) in
      let b = length-drop (i + 1) ns in
      omega arith

  -- those below are deeper
  pub below_deeper : (i j : ℕ) → i < j → j ≤ i + below_of ns i → depth_at ns i < depth_at ns j
  below_deeper i j l m =
      let k : i + 1 + (j - i - 1) ≡ j = omega arith in
      let p = prefix_len_passes (is_deeper (depth_at ns i)) (drop (i + 1) ns) (j - i - 1) (root_to 0) (omega arith) in
      lt_of (depth_at ns i) (depth_at ns j) (subst (λ z. is_deeper (depth_at ns i) z ≡ true) (behind_is i (j - i - 1) ∙ ap (node_at ns) k) p)

  -- the first behind those isn't
  pub next_no_deeper : (i : ℕ) → i + below_of ns i + 1 < length ns → depth_at ns (i + below_of ns i + 1) ≤ depth_at ns i
  next_no_deeper i l =
      let e : i + 1 + below_of ns i ≡ i + below_of ns i + 1 = omega arith in
      let p = prefix_len_stops (is_deeper (depth_at ns i)) (drop (i + 1) ns) (root_to 0) (omega (arith, length-drop (i + 1) ns)) in
      le_of (depth_at ns i) (depth_at ns (i + below_of ns i + 1)) (subst (λ z. is_deeper (depth_at ns i) z ≡ false) (behind_is i (below_of ns i) ∙ ap (node_at ns) e) p)

  -- and that says how many there are
  pub below_is : (i j : ℕ) → i < j → j ≤ length ns → ((k : ℕ) → i < k → k < j → depth_at ns i < depth_at ns k) → (j < length ns → depth_at ns j ≤ depth_at ns i) → below_of ns i ≡ j - i - 1
  below_is i j l m all stop =
      let e : i + 1 + (j - i - 1) ≡ j = omega arith in
      let many = length-drop (i + 1) ns in
      prefix_len_is (is_deeper (depth_at ns i)) (drop (i + 1) ns) (j - i - 1) (root_to 0) (omega arith)
      (λ k h. subst (λ z. is_deeper (depth_at ns i) z ≡ true) (sym (behind_is i k)) (lt-ltb (depth_at ns i) (depth_at ns (i + 1 + k)) (all (i + 1 + k) (omega arith) (omega arith))))
      (λ h. subst (λ z. is_deeper (depth_at ns i) z ≡ false) (sym (behind_is i (j - i - 1) ∙ ap (node_at ns) e)) (le-ltb (depth_at ns i) (depth_at ns j) (stop (omega arith))))

  -- at least so many, where so many are deeper
  pub below_reaches : (i j : ℕ) → i < j → j < length ns → ((k : ℕ) → i < k → k ≤ j → depth_at ns i < depth_at ns k) → j ≤ i + below_of ns i
  below_reaches i j l m all = elim (cases_lt (i + below_of ns i) j) [
    | inl h ↦ absurd (
        let a = next_no_deeper i (omega arith) in
        let b = all (i + below_of ns i + 1) (omega arith) (omega arith) in
        omega arith)
    | inr h ↦ h
  ]

-- a hop over node `next` and all below it, behind node i
pub record Hopping (ns : List Node) (i next : ℕ) : Type 0 where
  pub behind : i < next
  pub within : next ≤ length ns
  pub deeper : (k : ℕ) → i < k → k < next → depth_at ns i < depth_at ns k

module _ (ns : List Node) (i : ℕ) where
  pub hop_start : i < length ns → Hopping ns i (i + 1)
  hop_start l = record { behind = omega arith; within = omega arith; deeper = λ k a b. absurd (omega arith) }

  pub hop_fits : (next count : ℕ) → next < length ns → count ≡ below_of ns next → next + 1 + count ≤ length ns
  hop_fits next count l e = let w = below_within ns next l in omega arith

  pub hop : (next count to : ℕ) → Hopping ns i next → next < length ns → depth_at ns i < depth_at ns next → count ≡ below_of ns next → to ≡ next + (1 + count) → Hopping ns i to
  hop next count to h l d e is =
      let w = below_within ns next l in
      let b = h.behind in
      record {
        behind = omega arith;
        within = omega arith;
        deeper = λ k a m. elim (cases_lt k next) [
          | inl s ↦ h.deeper k a s
          | inr s ↦ elim (cases_lt next k) [
            | inl t ↦ (let f = below_deeper ns next k t (omega arith) in omega arith)
            | inr t ↦ (let g : next ≡ k = omega arith in subst (λ z. depth_at ns i < depth_at ns z) g d)
          ]
        ];
      }

  pub hopped : (next : ℕ) → Hopping ns i next → (next < length ns → depth_at ns next ≤ depth_at ns i) → next - i - 1 ≡ below_of ns i
  hopped next h stop = sym (below_is ns i next h.behind h.within h.deeper stop)

-- counts that are written from the last node on
module _ (ns : List Node) where
  pub counts_none : (counts : List ℕ) → counts ≡ replicate (length ns) 0 → AreCounts ns counts (length ns)
  counts_none counts e = record { many = ap length e ∙ length-replicate (length ns) 0; are = λ i l m. absurd (omega arith) }

  pub count_written : (counts new : List ℕ) (i j count : ℕ) → j ≡ i + 1 → i < length ns → AreCounts ns counts j → count ≡ below_of ns i → new ≡ set counts i count → AreCounts ns new i
  count_written counts new i j count e l h is w =
      let many = h.many in
      let within : i < length counts = omega arith in
      record {
        many = ap length w ∙ length-set counts i count ∙ h.many;
        are = λ k a b. ap (λ z. get_or z k 0) w ∙ elim (cases_lt i k) [
          | inl s ↦ get_or-set_other counts i k count 0 (λ z. absurd (omega arith)) ∙ h.are k (omega arith) b
          | inr s ↦ (let g : i ≡ k = omega arith in subst (λ z. get_or (set counts i count) z 0 ≡ below_of ns z) g (get_or-set_same counts i count 0 within ∙ is))
        ];
      }

  pub count_read : (counts : List ℕ) (from i count : ℕ) → AreCounts ns counts from → from ≤ i → i < length ns → count ≡ get_or counts i count → count ≡ below_of ns i
  count_read counts from i count h a l e = e ∙ get_or_default counts i count 0 (let many = h.many in omega arith) ∙ h.are i a l
