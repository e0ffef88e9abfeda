-- The nodes above the one that comes next, while nodes are gone through.
use Rattle.std.proofs.Common.{◌≡◌, inl, inr, ℕ, zero, suc, ◌+◌, ◌<◌, ◌≤◌, Bool, true, false, List, [], ◌∷◌, ◌++◌, length, take, refl, sym, subst, ◌∙◌, ap, arith, length-append}
use Rattle.std.proofs.lemmas.Bool.{cases_lt}
use Rattle.weedle_syntax.specs.declared.dialect.Dialect.{Dialect}
use Rattle.weedle_syntax.specs.declared.node.Node.{Node}
use Rattle.weedle_syntax.specs.Dialects.{IsFrontIn}
use Rattle.weedle_syntax.specs.Tree.{IsChild}
use Rattle.weedle_syntax.proofs.BelowFacts.{depth_at, below_reaches}
use Rattle.weedle_syntax.proofs.StepFacts.{joined}
use Rattle.weedle_places.specs.declared.above.Above.{Above}
use Rattle.weedle_places.specs.Above.{IsAbove, AreAbove, AreOpen}
use Rattle.weedle_places.specs.Names.{HasNamed, is_name}

-- one of them
abbrev pub above_of : ℕ → Bool → Above
above_of node named = record { node = node; named = named }

module _ (ns : List Node) (i : ℕ) where
  pub above_take : (d n : ℕ) (above : List Above) → AreAbove ns i d above → AreAbove ns i d (take n above)
  above_take d zero above h = tt
  above_take d (suc n) [] h = tt
  above_take d (suc n) (a ∷ above) h = (h.0, above_take (d + 1) n above h.1)

  pub above_push : (d : ℕ) (above : List Above) (a : Above) → AreAbove ns i d above → IsAbove ns i (d + length above) a → AreAbove ns i d (above ++ a ∷ [])
  above_push d [] a h k = let e : d + 0 ≡ d = omega arith in (subst (λ z. IsAbove ns i z a) e k, tt)
  above_push d (b ∷ above) a h k =
      let e : d + length (b ∷ above) ≡ d + 1 + length above = omega arith in
      (h.0, above_push (d + 1) above a h.1 (subst (λ z. IsAbove ns i z a) e k))

  pub above_last : (d : ℕ) (less : List Above) (a : Above) → AreAbove ns i d (less ++ a ∷ []) → AreAbove ns i d less × IsAbove ns i (d + length less) a
  above_last d [] a h = let e : d ≡ d + 0 = omega arith in (tt, subst (λ z. IsAbove ns i z a) e h.0)
  above_last d (b ∷ less) a h =
      let e : d + 1 + length less ≡ d + length (b ∷ less) = omega arith in
      let k = above_last (d + 1) less a h.1 in
      ((h.0, k.0), subst (λ z. IsAbove ns i z a) e k.1)

  module _ (k : ℕ) (a : Above) (h : IsAbove ns i k a) (low : k < depth_at ns i) where
    deeper_on : (j : ℕ) → a.node < j → j < i + 1 → k < depth_at ns j
    deeper_on j l m = elim (cases_lt j i) [
      | inl s ↦ h.deeper j l s
      | inr s ↦ (let e : i ≡ j = omega arith in subst (λ z. k < depth_at ns z) e low)
    ]

    -- it stays above, where node i isn't one that it reads and a name
    pub still_above : (depth_at ns i ≡ k + 1 → is_name ns i ≡ false) → IsAbove ns (i + 1) k a
    still_above off =
        let b = h.before in
        record {
          before = omega arith;
          depth = h.depth;
          deeper = deeper_on;
          named = (λ t. (let n = h.named.0 t in let m = n.1 in (n.0, omega arith, n.2, n.3)), λ n. h.named.1 (n.0, earlier n, n.2, n.3));
        }
      where
        earlier : (n : HasNamed ns a.node (i + 1)) → n.0 < i
        earlier n = elim (cases_lt n.0 i) [
          | inl s ↦ s
          | inr s ↦ absurd (
              let m = n.1 in
              let e : n.0 ≡ i = omega arith in
              let own = h.depth in
              let deep = n.2.depth in
              let is = subst (λ z. depth_at ns z ≡ depth_at ns a.node + 1) e deep in
              let yes = subst (λ z. is_name ns z ≡ true) e n.3 in
              let isnt = off (omega arith) in
              let none : ⊥ = cc in none)
        ]

    pub child_is : i < length ns → depth_at ns i ≡ k + 1 → IsChild ns a.node i
    child_is l e =
        let b = h.before in
        let own = h.depth in
        record {
          behind = h.before;
          below = below_reaches ns a.node i h.before l (λ j s t. let d = deeper_on j s (omega arith) in omega arith);
          depth = omega arith;
        }

    -- it has read node i, a name
    pub now_named : i < length ns → depth_at ns i ≡ k + 1 → is_name ns i ≡ true → IsAbove ns (i + 1) k (above_of a.node true)
    now_named l e is =
        let b = h.before in
        record {
          before = omega arith;
          depth = h.depth;
          deeper = deeper_on;
          named = (λ t. (i, omega arith, child_is l e, is), λ n. refl);
        }

  -- node i itself
  pub itself : IsAbove ns (i + 1) (depth_at ns i) (above_of i false)
  itself = record {
    before = omega arith;
    depth = refl;
    deeper = λ j a b. absurd (omega arith);
    named = (λ t. absurd (let n : ⊥ = cc in n), λ n. absurd (let c = n.2.behind in let m = n.1 in omega arith));
  }

  -- those above stay above, where the last of them doesn't read node i or it is no name
  pub all_still : (d : ℕ) (above : List Above) → AreAbove ns i d above → d + length above ≤ depth_at ns i → (depth_at ns i ≡ d + length above → is_name ns i ≡ false) → AreAbove ns (i + 1) d above
  all_still d [] h l off = tt
  all_still d (a ∷ above) h l off = (
    still_above d a h.0 (omega arith) (λ e. off (omega arith)),
    all_still (d + 1) above h.1 (omega arith) (λ e. off (omega arith)),
  )

-- before the first node
pub open_none : (ns : List Node) (above : List Above) → above ≡ [] → AreOpen ns 0 above
open_none ns above e = record { each = subst (AreAbove ns 0 0) (sym e) tt; none = λ z. e; many = λ j l. absurd (omega arith) }

module _ (dialect : Dialect) (text : List ℕ) (ns : List Node) (front : IsFrontIn dialect text ns) (i : ℕ) (l : i < length ns) where
  -- no node is deeper than those above it are many
  pub open_deep : (above : List Above) → AreOpen ns i above → depth_at ns i ≤ length above
  open_deep above o = by i refl
    where
      by : (k : ℕ) → i ≡ k → depth_at ns i ≤ length above
      by zero e =
          let j = joined dialect text ns front in
          let root = ap (λ z. depth_at ns z) e ∙ ap (λ n. n.depth) j.2.root in
          omega arith
      by (suc k) e =
          let j = joined dialect text ns front in
          let many = o.many k (omega arith) in
          let is : k + 1 ≡ i = omega arith in
          let up : depth_at ns (k + 1) ≤ depth_at ns k + 1 = elim (j.2.step k (omega arith)) [ inl h ↦ (let d = h.1 in omega arith) | inr h ↦ (let d = h.1 in omega arith) ] in
          let here = subst (λ z. depth_at ns z ≤ depth_at ns k + 1) is up in
          omega arith

-- node i is put behind those above it
pub open_more : (ns : List Node) (i : ℕ) (above new : List Above) → AreAbove ns (i + 1) 0 above → length above ≡ depth_at ns i → new ≡ above ++ above_of i false ∷ [] → AreOpen ns (i + 1) new
open_more ns i above new a m e = record {
  each = subst (AreAbove ns (i + 1) 0) (sym e) (above_push ns (i + 1) 0 above (above_of i false) a (subst (λ z. IsAbove ns (i + 1) z (above_of i false)) (let z : depth_at ns i ≡ 0 + length above = omega arith in z) (itself ns i)));
  none = λ z. absurd (omega arith);
  many = λ j h. (
      let is : i ≡ j = omega arith in
      subst (λ z. length new ≡ depth_at ns z + 1) is (ap length e ∙ length-append above (above_of i false ∷ []) ∙ ap (λ z. z + 1) m));
}
