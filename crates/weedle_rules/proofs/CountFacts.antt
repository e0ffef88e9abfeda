-- The counts of the workings-out of cells: one more, and what bounds their sum.
use Rattle.std.proofs.Common.{All, ◌≡◌, ℕ, ◌+◌, ◌*◌, ◌<◌, ◌≤◌, max, List, [], ◌∷◌, ◌++◌, length, sum, sym, subst, ap, ◌∙◌, arith}
use Rattle.std.proofs.lemmas.List.{length-append}
use Rattle.std.proofs.lemmas.List.Elements.{All-nil, All-cons, All-head, All-tail, All-append}
use Rattle.std.proofs.lemmas.List.Sums.{fold-append, sum_by-cons, sum_by-le, sum_by_push}
use Rattle.weedle_rules.specs.TableOfEnds.{AreCounts, IsAmount}

-- one working-out more is closed
pub one_more : (k : ℕ) (counts : List ℕ) (w v reads most count : ℕ) → AreCounts k counts w reads most → 0 < count → count ≤ k → v ≡ w + 1
    → AreCounts k (counts ++ count ∷ []) v (reads + count) (max most count)
one_more k counts w v reads most count h looked few e = record {
  each = All-append (IsAmount k) counts (count ∷ []) h.each (All-cons (IsAmount k) count [] (omega arith, few) (All-nil (IsAmount k)));
  workings_are = omega (arith, h.workings_are, length-append counts (count ∷ []));
  reads_are = ap (λ n. n + count) h.reads_are ∙ sym (sum_by_push (λ x. x) counts count);
  most_is = ap (λ n. max n count) h.most_is ∙ sym (fold-append max 0 counts (count ∷ []));
}

one_each : (k : ℕ) (counts : List ℕ) → All (IsAmount k) counts → length counts ≤ sum counts
one_each k [] h = omega arith
one_each k (c ∷ cs) h =
    let one = All-head (IsAmount k) c cs h in
    let rest = one_each k cs (All-tail (IsAmount k) c cs h) in
    subst (λ n. length (c ∷ cs) ≤ n) (sym (sum_by-cons (λ x. x) c cs)) (omega (arith, one.0, rest))

module _ {k : ℕ} {counts : List ℕ} {workings reads most : ℕ} (h : AreCounts k counts workings reads most) where
  -- each working-out took a read
  pub looked : workings ≤ reads
  looked = omega (arith, h.workings_are, h.reads_are, one_each k counts h.each)

  -- and k at most
  pub bounded : reads ≤ k * workings
  bounded =
      let few : sum counts ≤ length counts * k = sum_by-le (λ x. x) k counts (λ i d l. (h.each i d l).1) in
      subst (λ n. n ≤ k * workings) (sym h.reads_are) (subst (λ n. sum counts ≤ k * n) (sym h.workings_are) (omega (arith, few)))
