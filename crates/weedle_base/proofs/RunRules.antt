-- A run of items is what a rule `Many` reads.
use Rattle.std.proofs.Common.{refl, sym, ap, ◌∙◌, subst, inl, inr, arith}
use Rattle.std.proofs.lemmas.List.{drop-drop}
use Rattle.std.specs.Prelude.{◌≡◌, ◌≢◌, ℕ, ◌+◌, ◌<◌, List, [], ◌∷◌, drop, map}
use Rattle.weedle_base.proofs.PlaceFacts.{suffix_along}
use Rattle.weedle_base.specs.Reading.{Reading}
use Rattle.weedle_base.specs.Rules.{IsRule, items_tree}
use Rattle.weedle_base.specs.Runs.{Items, run_reading, vec_step}
use Rattle.weedle_grammar.proofs.RowFacts.{of_row, row_forth}
use Rattle.weedle_grammar.specs.Meaning.{Plain, Breaks, Yields, ReadsRow, many_end, many_stuck, many_more}
use Rattle.weedle_grammar.specs.Rows.{Row, Many}
use Rattle.weedle_grammar.specs.written.Table.{webidl, row_of, shape_of}
use Rattle.weedle_grammar.specs.Trees.{Tree}

pub not_zero : {i : ℕ} → 0 < i → i ≢ 0
not_zero h e = omega (arith, h, e)

-- what follows the items
pub onward : (s : List ℕ) (i j k : ℕ) → k ≡ i + j → drop k s ≡ drop j (drop i s)
onward s i j k e = ap (λ (n : ℕ). drop n s) e ∙ sym (drop-drop j i s)

module _ {V : Type 0} {R : Reading V} {x : ℕ} {tree : V → Tree} {grows : Type 0} (rule : IsRule R x tree grows) where
  many_items : (s : List ℕ) (vs : List V) (k : ℕ) → Items (vec_step R).takes s vs k → R.refuses (drop k s)
      → ReadsRow webidl s (Many x) 0 (Yields (map tree vs) [] k)
  many_items s [] k h e = many_end (rule.refuses s (subst (λ (n : ℕ). R.refuses (drop n s)) h e)) (rw h refl)
  many_items s (v ∷ vs) k h e =
      let i = h.0 in let j = h.1 in
      let rest = many_items (drop i s) vs j h.3 (subst R.refuses (onward s i j k h.4) e) in
      many_more (rule.gives s v i h.2.0) (not_zero h.2.1) (row_forth s i rest) (rw h.4 refl)

  many_sticks : (s : List ℕ) (vs : List V) (k : ℕ) → Items (vec_step R).takes s vs k → (vec_step R).refuses (drop k s)
      → ReadsRow webidl s (Many x) 0 Breaks
  many_sticks s [] k h e = let m = subst (λ (n : ℕ). (vec_step R).refuses (drop n s)) h e in many_stuck (rule.gives s m.0 0 m.1) refl refl
  many_sticks s (v ∷ vs) k h e =
      let i = h.0 in let j = h.1 in
      let rest = many_sticks (drop i s) vs j h.3 (subst (vec_step R).refuses (onward s i j k h.4) e) in
      many_more (rule.gives s v i h.2.0) (not_zero h.2.1) (row_forth s i rest) refl

  -- a list of one part after another
  pub run_rule : {L : Type 0} (view : L → List V) (r : ℕ) → row_of r ≡ Many x → shape_of r ≡ Plain → grows
      → IsRule (run_reading view (vec_step R)) r (λ l. items_tree tree (view l)) grows
  run_rule view r row shape more = record {
    gives = λ s l k h. of_row row (many_items s (view l) k h.0 h.1) (rw shape refl);
    refuses = λ s h. of_row row (many_sticks s h.0 h.1 h.2 h.3) refl;
    stops = λ s y code h. elim h [
      | inl a ↦ (more, a.0, a.1)
      | inr b ↦ (let m = rule.stops (drop b.1 s) y code b.3 in (m.0, m.1, suffix_along s (drop b.1 s) y b.1 refl m.2))
    ];
  }
