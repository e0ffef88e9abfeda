-- From child to child, and from leaf to leaf.
use Rattle.std.proofs.Common.{◌≡◌, inl, inr, ℕ, ◌+◌, ◌-◌, ◌<◌, ◌≤◌, List, [], ◌∷◌, ◌==◌, false, length, sym, subst, ◌∙◌, ap, arith, eq-eqb, ne_eqb}
use Rattle.std.specs.Prelude.{slice_index}
use Rattle.std.proofs.lemmas.Bool.{cases_lt}
use Rattle.weedle_syntax.specs.declared.node.Node.{Node}
use Rattle.weedle_syntax.specs.Tree.{below_of, AreCounts, AreChildren, numbers_where, children_from, leaf_numbers, zeros_from}
use Rattle.weedle_syntax.proofs.BelowFacts.{depth_at, below_within, below_deeper, next_no_deeper}
use Rattle.weedle_syntax.proofs.StepFacts.{IsJoined}
use Rattle.weedle_syntax.proofs.WalkFacts.{first_is_child}
use Rattle.weedle_syntax.proofs.NumberFacts.{passed_over, none_left, found, same_numbers}

module _ (ns : List Node) (counts : List ℕ) (depth next end : ℕ) (h : AreChildren ns counts depth next end) where
  pub none_behind : end ≤ next → children_from ns depth next end ≡ []
  none_behind l = none_left (λ j. depth_at ns j == depth + 1) (end - next) next (λ k a b. absurd (omega arith))

  pub count_is : next < end → slice_index counts next ≡ below_of ns next
  count_is l = h.counted.are next (omega arith) (let i = h.inside in omega arith)

  module _ (to : ℕ) (some : next < end) (is : to ≡ next + below_of ns next + 1) where
    in_nodes : next < length ns
    in_nodes = let i = h.inside in omega arith

    pub hop_within : to ≤ end
    hop_within = elim (cases_lt end to) [
      | inl l ↦ absurd (
          let w = below_within ns next in_nodes in
          let d = below_deeper ns next end some (omega arith) in
          let f = h.first some in
          let s = h.stops (omega arith) in
          omega arith)
      | inr l ↦ l
    ]

    pub hopped_on : AreChildren ns counts depth to end
    hopped_on =
        let w = hop_within in
        record {
          counted = h.counted;
          within = w;
          inside = h.inside;
          deeper = λ k a b. h.deeper k (omega arith) b;
          first = λ l. (
              let i = h.inside in
              let e : next + below_of ns next + 1 ≡ to = sym is in
              let no = subst (λ z. depth_at ns z ≤ depth_at ns next) e (next_no_deeper ns next (omega arith)) in
              let f = h.first some in
              let d = h.deeper to (omega arith) l in
              omega arith);
          stops = h.stops;
        }

    pub next_is_first : children_from ns depth next end ≡ next ∷ children_from ns depth to end
    next_is_first =
        let w = hop_within in
        let own = h.first some in
        let many : next + 1 + (end - next - 1) - to ≡ end - to = omega arith in
        found (λ j. depth_at ns j == depth + 1) (end - next) next (omega arith) (eq-eqb _ _ own)
        ∙ ap (λ z. next ∷ z) (
        passed_over (λ j. depth_at ns j == depth + 1) (end - next - 1) (next + 1) to (omega arith) (omega arith)
        (λ k a b. ne_eqb _ _ (λ e. absurd (let d = below_deeper ns next k (omega arith) (omega arith) in omega arith)))
        ∙ ap (numbers_where (λ j. depth_at ns j == depth + 1) to) many)

module _ (ns : List Node) (counts : List ℕ) (i : ℕ) (l : i < length ns) where
  -- what is known of a node's children before the first was given
  pub children_begin : {r : ℕ} (end count : ℕ) → IsJoined r ns end → AreCounts ns counts 0 → count ≡ below_of ns i → AreChildren ns counts (depth_at ns i) (i + 1) (i + 1 + count)
  children_begin end count j c is =
      let w = below_within ns i l in
      record {
        counted = c;
        within = omega arith;
        inside = omega arith;
        deeper = λ k a b. below_deeper ns i k (omega arith) (omega arith);
        first = λ s. (first_is_child ns end j i l (λ z. absurd (omega arith))).depth;
        stops = λ s. (
            let e : i + below_of ns i + 1 ≡ i + 1 + count = omega arith in
            subst (λ z. depth_at ns z ≤ depth_at ns i) e (next_no_deeper ns i (omega arith)));
      }

-- the nodes with none below them are the leaves
pub leaves_begin : (ns : List Node) (counts : List ℕ) → AreCounts ns counts 0 → zeros_from counts 0 ≡ leaf_numbers ns
leaves_begin ns counts c =
    let many : length counts - 0 ≡ length ns = let m = c.many in omega arith in
    ap (numbers_where (λ j. slice_index counts j == 0) 0) many
    ∙ same_numbers (λ j. slice_index counts j == 0) (λ j. below_of ns j == 0) (length ns) 0 (λ k a b. ap (λ z. z == 0) (c.are k (omega arith) (omega arith)))

module _ (counts : List ℕ) (next : ℕ) where
  pub no_zero : next ≤ length counts → ((k : ℕ) → next ≤ k → k < length counts → (slice_index counts k == 0) ≡ false) → zeros_from counts next ≡ []
  no_zero l none = none_left (λ j. slice_index counts j == 0) (length counts - next) next (λ k a b. none k a (omega arith))

  pub zero_found : (i : ℕ) → next ≤ i → i < length counts → ((k : ℕ) → next ≤ k → k < i → (slice_index counts k == 0) ≡ false) → slice_index counts i ≡ 0 → zeros_from counts next ≡ i ∷ zeros_from counts (i + 1)
  zero_found i a l none z =
      let many : next + (length counts - next) - i ≡ length counts - i = omega arith in
      let rest : length counts - i - 1 ≡ length counts - (i + 1) = omega arith in
      passed_over (λ j. slice_index counts j == 0) (length counts - next) next i a (omega arith) none
      ∙ ap (numbers_where (λ j. slice_index counts j == 0) i) many
      ∙ found (λ j. slice_index counts j == 0) (length counts - i) i (omega arith) (eq-eqb _ _ z)
      ∙ ap (λ n. i ∷ numbers_where (λ j. slice_index counts j == 0) (i + 1) n) rest

-- all places behind the last
pub none_at_end : (counts : List ℕ) → zeros_from counts (length counts) ≡ []
none_at_end counts = none_left (λ j. slice_index counts j == 0) (length counts - length counts) (length counts) (λ k a b. absurd (omega arith))
