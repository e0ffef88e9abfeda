-- Lists, and the rows that say how they are read.
use Rattle.std.proofs.Common.{refl, sym, subst, inl, inr}
use Rattle.std.specs.Prelude.{◌≡◌, ℕ, ◌+◌, List, [], ◌∷◌, drop, map}
use Rattle.weedle_base.proofs.PlaceFacts.{suffix_along}
use Rattle.weedle_grammar.proofs.RowFacts.{of_row, row_forth}
use Rattle.weedle_base.proofs.RuleFacts.{option_rule, seq_last, seq_next, no_seq}
use Rattle.weedle_base.proofs.RunRules.{not_zero, onward}
use Rattle.weedle_base.specs.Generic.{pair_reading}
use Rattle.weedle_base.specs.Own.{stops_for_memory}
use Rattle.weedle_base.specs.Reading.{Reading}
use Rattle.weedle_base.specs.Rules.{IsRule, items_tree}
use Rattle.weedle_base.specs.Runs.{Items}
use Rattle.weedle_base.specs.declared.fault.ErrorKind.{ErrorKind}
use Rattle.weedle_parts.specs.Lists.{next_step, tail_reading, list_gives, list1_gives, list_reading, list1_reading, punctuated_reading, punctuated_non_empty_reading}
use Rattle.weedle_grammar.proofs.GrammarFacts.{forth}
use Rattle.weedle_grammar.specs.Meaning.{Plain, Inner, Raw, Breaks, Yields, ReadsRow, before, by_seq, list_none, list_more, list1_fails, list1_more, tail_end, tail_stuck, tail_back, tail_more}
use Rattle.weedle_grammar.specs.Rows.{Seq, Opt, ListOf, List1, Tail}
use Rattle.weedle_grammar.specs.written.Table.{webidl, row_of, shape_of, Reads}
use Rattle.weedle_grammar.specs.Trees.{Tree, Fails, Gives}

module _ {V W : Type 0} {R : Reading V} {S : Reading W} {x z : ℕ} {tree : V → Tree} {tree' : W → Tree} {grows : Type 0} (item : IsRule R x tree grows) (separator : IsRule S z tree' grows) where
  tail_ends : (s : List ℕ) → (next_step R S).ends s → ReadsRow webidl s (Tail x z) 0 (Yields [] [] 0)
  tail_ends s (inl h) = tail_end (separator.refuses s h) refl
  tail_ends s (inr h) = tail_back (separator.gives s h.0 h.1 h.2) (not_zero h.3) (forth s x h.1 Fails (item.refuses (drop h.1 s) h.4)) refl

  tail_goes : (s : List ℕ) (v : V) (i : ℕ) (w : Raw) → (next_step R S).takes s v i → ReadsRow webidl s (Tail x z) i w → ReadsRow webidl s (Tail x z) 0 (before (tree v ∷ []) w)
  tail_goes s v i w t d =
      let there : Reads s x t.1 (Gives (tree v ∷ []) i) = subst (λ (n : ℕ). Reads s x t.1 (Gives (tree v ∷ []) n)) (sym t.6) (forth s x t.1 (Gives (tree v ∷ []) t.2) (item.gives (drop t.1 s) v t.2 t.5)) in
      tail_more (separator.gives s t.0 t.1 t.3) (not_zero t.4) there d refl

  tail_items : (s : List ℕ) (vs : List V) (k : ℕ) → Items (next_step R S).takes s vs k → (next_step R S).ends (drop k s) → ReadsRow webidl s (Tail x z) 0 (Yields (map tree vs) [] k)
  tail_items s [] k h e = rw h (tail_ends s (subst (λ (n : ℕ). (next_step R S).ends (drop n s)) h e))
  tail_items s (v ∷ vs) k h e =
      let i = h.0 in let j = h.1 in
      let rest = tail_items (drop i s) vs j h.3 (subst (next_step R S).ends (onward s i j k h.4) e) in
      rw h.4 (tail_goes s v i (Yields (map tree vs) [] (i + j)) h.2 (row_forth s i rest))

  tail_sticks : (s : List ℕ) (vs : List V) (k : ℕ) → Items (next_step R S).takes s vs k → (next_step R S).refuses (drop k s) → ReadsRow webidl s (Tail x z) 0 Breaks
  tail_sticks s [] k h e = let m = subst (λ (n : ℕ). (next_step R S).refuses (drop n s)) h e in tail_stuck (separator.gives s m.0 0 m.1) refl refl
  tail_sticks s (v ∷ vs) k h e =
      let i = h.0 in let j = h.1 in
      let rest = tail_sticks (drop i s) vs j h.3 (subst (next_step R S).refuses (onward s i j k h.4) e) in
      tail_goes s v i Breaks h.2 (row_forth s i rest)

  module _ (t : ℕ) (tail_row : row_of t ≡ Tail x z) (tail_shape : shape_of t ≡ Plain) where
    tail_reads : (s : List ℕ) (vs : List V) (k : ℕ) → (tail_reading R S).gives s vs k → Reads s t 0 (Gives (map tree vs) k)
    tail_reads s vs k h = of_row tail_row (tail_items s vs k h.0 h.1) (rw tail_shape refl)

    tail_refuses : (s : List ℕ) → (tail_reading R S).refuses s → Reads s t 0 Fails
    tail_refuses s h = of_row tail_row (tail_sticks s h.0 h.1 h.2 h.3) refl

    next_stops : (s y : List ℕ) (code : ErrorKind) → (next_step R S).stops s y code → stops_for_memory grows s y code
    next_stops s y code (inl h) = separator.stops s y code h
    next_stops s y code (inr h) = let m = item.stops (drop h.1 s) y code h.4 in (m.0, m.1, suffix_along s (drop h.1 s) y h.1 refl m.2)

    tail_stops : grows → (s y : List ℕ) (code : ErrorKind) → (tail_reading R S).stops s y code → stops_for_memory grows s y code
    tail_stops more s y code (inl h) = (more, h.0, h.1)
    tail_stops more s y code (inr h) = let m = next_stops (drop h.1 s) y code h.3 in (m.0, m.1, suffix_along s (drop h.1 s) y h.1 refl m.2)

    head_stops : grows → (s y : List ℕ) (code : ErrorKind) → (pair_reading R (tail_reading R S)).stops s y code → stops_for_memory grows s y code
    unfolding pair_reading
    head_stops more s y code (inl h) = item.stops s y code h
    head_stops more s y code (inr h) = let m = tail_stops more (drop h.1 s) y code h.3 in (m.0, m.1, suffix_along s (drop h.1 s) y h.1 refl m.2)

    list_items : (s : List ℕ) (vs : List V) (k : ℕ) → list_gives R S s vs k → ReadsRow webidl s (ListOf x t) 0 (Yields (map tree vs) [] k)
    unfolding pair_reading
    list_items s [] k h = list_none (item.refuses s h.0) (rw h.1 refl)
    list_items s (v ∷ vs) k h = list_more (item.gives s v h.0 h.2) (forth s t h.0 (Gives (map tree vs) h.1) (tail_reads (drop h.0 s) vs h.1 h.3)) (rw h.4 refl)

    list1_items : (s : List ℕ) (vs : List V) (k : ℕ) → list1_gives R S s vs k → ReadsRow webidl s (List1 x t) 0 (Yields (map tree vs) [] k)
    unfolding pair_reading
    list1_items s [] k h = absurd h
    list1_items s (v ∷ vs) k h = list1_more (item.gives s v h.0 h.2) (forth s t h.0 (Gives (map tree vs) h.1) (tail_reads (drop h.0 s) vs h.1 h.3)) (rw h.4 refl)

    list_breaks : (s : List ℕ) → (list_reading R S).refuses s → ReadsRow webidl s (ListOf x t) 0 Breaks
    list_breaks s h = list_more (item.gives s h.0 h.1 h.2) (forth s t h.1 Fails (tail_refuses (drop h.1 s) h.3)) refl

    list1_breaks : (s : List ℕ) → (list1_reading R S).refuses s → ReadsRow webidl s (List1 x t) 0 Breaks
    unfolding pair_reading
    list1_breaks s (inl h) = list1_fails (item.refuses s h) refl
    list1_breaks s (inr h) = list1_more (item.gives s h.0 h.1 h.2) (forth s t h.1 Fails (tail_refuses (drop h.1 s) h.3)) refl

    -- a list with separators
    pub punctuated_rule : {L : Type 0} (view : L → List V) (known : L → Type 0) (r : ℕ) → row_of r ≡ ListOf x t → shape_of r ≡ Plain → grows → IsRule (punctuated_reading R S view known) r (λ l. items_tree tree (view l)) grows
    unfolding punctuated_reading
    punctuated_rule view known r row shape more = record {
      gives = λ s l k h. of_row row (list_items s (view l) k h.0) (rw shape refl);
      refuses = λ s h. of_row row (list_breaks s h) refl;
      stops = head_stops more;
    }

    pub list1_rule : (r : ℕ) → row_of r ≡ List1 x t → shape_of r ≡ Plain → grows → IsRule (list1_reading R S) r (items_tree tree) grows
    list1_rule r row shape more = record {
      gives = λ s l k h. of_row row (list1_items s l k h) (rw shape refl);
      refuses = λ s h. of_row row (list1_breaks s h) refl;
      stops = head_stops more;
    }

    -- a list with an item at least, and a separator that may be behind it
    pub punctuated_non_empty_rule : {L : Type 0} (view : L → List V) (known : L → Type 0) (r l1 o : ℕ)
        → row_of r ≡ Seq (l1 ∷ o ∷ []) → shape_of r ≡ Inner → row_of l1 ≡ List1 x t → shape_of l1 ≡ Plain → row_of o ≡ Opt z → shape_of o ≡ Plain → grows
        → IsRule (punctuated_non_empty_reading R S view known) r (λ l. items_tree tree (view l)) grows
    unfolding punctuated_non_empty_reading
    punctuated_non_empty_rule view known r l1 o row shape row1 shape1 row_o shape_o more =
        let all = seq_next (list1_rule l1 row1 shape1 more) (seq_last (option_rule separator o row_o shape_o)) in
        record {
          gives = λ s l k h. let m = all.gives s (view l, h.0.0) k h.0.1 in of_row row (by_seq m.reads refl) (rw (shape, m.given, m.end) refl);
          refuses = no_seq all r row;
          stops = all.stops;
        }
