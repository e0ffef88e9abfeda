-- The furthest place, cell by cell.
use Rattle.std.proofs.Common.{◌≡◌, inl, inr, ℕ, ◌+◌, ◌-◌, ◌*◌, ◌/◌, ◌%◌, ◌<◌, ◌≤◌, List, length, get_or, sym, subst, ◌∙◌, ap, arith}
use Rattle.std.specs.Prelude.{◌↔◌}
use Rattle.std.specs.List.{Contains}
use Rattle.std.proofs.lemmas.Bool.{cases_lt}
use Rattle.weedle_grammar.specs.written.Bound.{table_count}
use Rattle.weedle_rules.specs.Cells.{cell_number}
use Rattle.weedle_rules.proofs.TableRows.{among_all}
use Rattle.weedle_starts.specs.Tries.{Tried, at_first, by, IsUnmet}
use Rattle.weedle_refusal.specs.Marks.{HasBit, IsSet, AreTried}
use Rattle.weedle_refusal.specs.Diagnosis.{IsDiagnosis, IsRising}
use Rattle.weedle_refusal.proofs.BitFacts.{unset_word}
use Rattle.weedle_starts.proofs.LaterFacts.{tries_later}
use Rattle.weedle_refusal.proofs.MarkingFacts.{cell_is}
use Rattle.weedle_refusal.proofs.BoundaryFacts.{tried_boundary}
use Rattle.weedle_refusal.proofs.FailureFacts.{some_unmet}

-- no cell before this one is of a rule without parts that is tried there and fails
pub record NoneYet (text : List ℕ) (start last cell : ℕ) : Type 0 where
  pub none : (c : ℕ) → c < cell → c / table_count ≤ last → IsUnmet text start (c % table_count) (last - c / table_count) → ⊥

pub none_first : (text : List ℕ) (start last : ℕ) → NoneYet text start last 0
none_first text start last = record { none = λ c l h u. absurd (omega arith) }

pub none_on : (text : List ℕ) (start last cell : ℕ) → NoneYet text start last cell → (cell / table_count ≤ last → IsUnmet text start (cell % table_count) (last - cell / table_count) → ⊥) → NoneYet text start last (cell + 1)
none_on text start last cell y n = record {
  none = λ c l h u. elim (cases_lt c cell) [
    | inl k ↦ y.none c k h u
    | inr k ↦ (let e : c ≡ cell = omega arith in subst (λ z. z / table_count ≤ last → IsUnmet text start (z % table_count) (last - z / table_count) → ⊥) (sym e) n h u)
  ];
}

-- a rule and a place from their cell
back_rule : (n r p : ℕ) → r < table_count → p ≤ n → cell_number n r p % table_count ≡ r
back_rule n r p l h = omega arith

back_place : (n r p : ℕ) → r < table_count → p ≤ n → cell_number n r p / table_count ≡ n - p
back_place n r p l h = omega arith

module _ (text : List ℕ) (start last : ℕ) (words : List ℕ) (is : last ≡ length text) (a : AreTried text start words) where
  -- a word without marks
  pub none_pass : (word cell : ℕ) → get_or words word 0 ≡ 0 → cell / 64 ≡ word → NoneYet text start last cell → NoneYet text start last (word * 64 + 64)
  none_pass word cell z w y = record {
    none = λ c l h u. elim (cases_lt c cell) [
      | inl k ↦ y.none c k h u
      | inr k ↦ (
          let t = u.tried in
          let i = a.inside (c % table_count) (last - c / table_count) t in
          let m = (a.are (c % table_count) (last - c / table_count) i).1 t in
          let e : cell_number (length text) (c % table_count) (last - c / table_count) ≡ c = ap (λ n. cell_number n (c % table_count) (last - c / table_count)) (sym is) ∙ cell_is last c h in
          unset_word words word c z (omega arith) (subst (IsSet words) e m))
    ];
  }

  pub after_start : {x q : ℕ} → Tried text start x q → start ≤ q
  after_start (at_first s) = omega (arith, s.1)
  after_start (by {r = r} {p = p} {x = x} {q = q} d t) =
      let i = a.inside r p d in
      let l = (tries_later text r p i.within (among_all i.low) x q t).after in
      let h = after_start d in
      omega arith

  -- an unmet rule at a place that is further than that of a cell has a cell before it
  pub is_furthest : (cell : ℕ) → NoneYet text start last cell → cell / table_count ≤ last → (r p : ℕ) → IsUnmet text start r p → p ≤ last - cell / table_count
  is_furthest cell y h r p u = elim (cases_lt (last - cell / table_count) p) [
    | inl k ↦ absurd (
        let i = a.inside r p u.tried in
        let low = i.low in
        let w : p ≤ last = omega (arith, i.within) in
        let br : cell_number last r p % table_count ≡ r = back_rule last r p low w in
        let bp : cell_number last r p / table_count ≡ last - p = back_place last r p low w in
        let q : last - cell_number last r p / table_count ≡ p = omega arith in
        let b : cell_number last r p < cell = omega arith in
        y.none (cell_number last r p) b (omega arith) (subst (λ z. IsUnmet text start z (last - cell_number last r p / table_count)) (sym br) (subst (λ z. IsUnmet text start r z) (sym q) u)))
    | inr k ↦ k
  ]

  -- one is found before the last cell
  pub one_is_found : (cell : ℕ) → start ≤ last → 64 * length words ≤ cell → NoneYet text start last cell → ⊥
  one_is_found cell s many y =
      let u = some_unmet text start (omega arith) in
      let i = a.inside u.rule u.place u.is.tried in
      let low = i.low in
      let laid = i.laid in
      let w : u.place ≤ last = omega (arith, i.within) in
      let br : cell_number last u.rule u.place % table_count ≡ u.rule = back_rule last u.rule u.place low w in
      let bp : cell_number last u.rule u.place / table_count ≡ last - u.place = back_place last u.rule u.place low w in
      let q : last - cell_number last u.rule u.place / table_count ≡ u.place = omega arith in
      y.none (cell_number last u.rule u.place) (omega arith) (omega arith) (subst (λ z. IsUnmet text start z (last - cell_number last u.rule u.place / table_count)) (sym br) (subst (λ z. IsUnmet text start u.rule z) (sym q) u.is))

  pub diagnosed : (place : ℕ) (expected : List ℕ) → (r : ℕ) × IsUnmet text start r place → ((r p : ℕ) → IsUnmet text start r p → p ≤ place)
      → ((r : ℕ) → Contains expected r ↔ ((r < table_count) × IsUnmet text start r place)) → IsRising expected → IsDiagnosis text start place expected
  diagnosed place expected one far e up = record {
    some = one;
    furthest = far;
    exact = λ r. (λ k. ((e r).0 k).1, λ u. (e r).1 ((a.inside r place u.tried).low, u));
    rising = up;
    boundary = λ utf8 b. tried_boundary text utf8 start b one.1.tried;
  }

-- there is a bit of each rule at each place from the start on
pub all_in : (start last many place : ℕ) → (last - start) * table_count + table_count ≤ 64 * many → start ≤ place → place ≤ last → (r : ℕ) → r < table_count → HasBit last many r place
all_in start last many place h l w r low = record { low = low; within = w; laid = omega arith }
