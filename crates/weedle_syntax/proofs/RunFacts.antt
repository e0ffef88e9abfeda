-- Runs of nodes that grow at their ends.
use Rattle.std.proofs.Common.{◌≡◌, ◌+◌, ◌≤◌, ◌∙◌, Bool, true, false, ℕ, List, [], ◌∷◌, ◌++◌, if◌then◌else◌, length, take, drop, map, refl, sym, ap, subst, arith, append-nil, length-append, suc, zero}
use Rattle.std.proofs.lemmas.List.{drop_at, length-map, take-append-le, take_all}
use Rattle.std.proofs.lemmas.List.Concat.{flat_map-append}
use Rattle.std.proofs.lemmas.List.Elements.{All-append, All-head, All-tail, All-weaker, All-push}
use Rattle.std.specs.Prelude.{All, flat_map}
use Rattle.weedle_syntax.specs.Compact.{IsNarrow, node_of, run_nodes, all_nodes, nodes_of, IsInside, AreRuns, IsShortened}
use Rattle.weedle_syntax.specs.declared.node.Node.{Node}
use Rattle.weedle_syntax.specs.declared.runs.Run.{Run}
use Rattle.weedle_syntax.specs.declared.runs.Runs.{Runs}
use Rattle.weedle_syntax.specs.declared.runs.Short.{Short}

-- what is in a list from number n on, k of them, is there still when the list grows
pub still_there : {A : Type 0} (n k : ℕ) (xs more : List A) → n + k ≤ length xs → take k (drop n (xs ++ more)) ≡ take k (drop n xs)
still_there zero k xs more l = take-append-le k xs more (omega (arith, l))
still_there (suc n) k [] more l = absurd (omega (arith, l))
still_there (suc n) k (x ∷ xs) more l = still_there n k xs more (omega (arith, l))

-- a run has the nodes that it had
pub run_still : (shorts more : List Short) (longs others : List Node) (run : Run) → IsInside (length shorts) (length longs) run
    → run_nodes (shorts ++ more) (longs ++ others) run ≡ run_nodes shorts longs run
run_still shorts more longs others run l = by run.is_long l
  where
    by : (b : Bool) → run.from + run.many ≤ (if b then length longs else length shorts)
        → (if b then take run.many (drop run.from (longs ++ others)) else map (node_of run.base) (take run.many (drop run.from (shorts ++ more))))
        ≡ (if b then take run.many (drop run.from longs) else map (node_of run.base) (take run.many (drop run.from shorts)))
    by true l = still_there run.from run.many longs others l
    by false l = ap (map (node_of run.base)) (still_there run.from run.many shorts more l)

-- and so have all
pub all_still : (shorts more : List Short) (longs others : List Node) (runs : List Run) → All (IsInside (length shorts) (length longs)) runs
    → all_nodes (shorts ++ more) (longs ++ others) runs ≡ all_nodes shorts longs runs
all_still shorts more longs others [] h = refl
all_still shorts more longs others (run ∷ runs) h =
    ap (λ ns. ns ++ all_nodes (shorts ++ more) (longs ++ others) runs) (run_still shorts more longs others run (All-head (IsInside (length shorts) (length longs)) run runs h))
    ∙ ap (λ ns. run_nodes shorts longs run ++ ns) (all_still shorts more longs others runs (All-tail (IsInside (length shorts) (length longs)) run runs h))

-- a run that is inside stays inside
pub inside_still : (s l s2 l2 : ℕ) → s ≤ s2 → l ≤ l2 → (run : Run) → IsInside s l run → IsInside s2 l2 run
inside_still s l s2 l2 a b run h = by run.is_long h
  where
    by : (t : Bool) → run.from + run.many ≤ (if t then l else s) → run.from + run.many ≤ (if t then l2 else s2)
    by true h = omega (arith, b, h)
    by false h = omega (arith, a, h)

-- short nodes that were put behind the others are there, and are those of their run
module _ (base from many : ℕ) (old new : List Short) (longs found : List Node) (begins : from ≡ length old) (counts : many ≡ length found) (s : IsShortened base found old new) where
  more_short : many ≡ length s.more
  more_short = counts ∙ sym (ap length s.same) ∙ length-map s.more (node_of base)

  pub short_inside : from + many ≤ length new
  short_inside = let is = ap length s.are ∙ length-append old s.more in omega (arith, is, begins, more_short)

  pub short_run : run_nodes new longs (record { base = base; is_long = false; from = from; many = many }) ≡ found
  short_run =
      ap (λ n. map (node_of base) (take many (drop n new))) begins
      ∙ ap (λ xs. map (node_of base) (take many xs)) (ap (drop (length old)) s.are ∙ drop_at old s.more (length old) refl)
      ∙ ap (map (node_of base)) (take_all many s.more (omega (arith, more_short))) ∙ s.same

-- and so are long ones
module _ (base from many : ℕ) (shorts : List Short) (old new found : List Node) (begins : from ≡ length old) (counts : many ≡ length found) (is : new ≡ old ++ found) where
  pub long_inside : from + many ≤ length new
  long_inside = let e = ap length is ∙ length-append old found in omega (arith, e, begins, counts)

  pub long_run : run_nodes shorts new (record { base = base; is_long = true; from = from; many = many }) ≡ found
  long_run =
      ap (λ n. take many (drop n new)) begins ∙ ap (take many) (ap (drop (length old)) is ∙ drop_at old found (length old) refl)
      ∙ take_all many found (omega (arith, counts))

-- a run that is put behind the others
module _ (nodes new : Runs) (found : List Node) (are : AreRuns nodes) (narrow : All IsNarrow found) where
  pub grown : (s : List Short) (l : List Node) (run : Run) → new.shorts.items ≡ nodes.shorts.items ++ s → new.longs.items ≡ nodes.longs.items ++ l
      → new.runs.items ≡ nodes.runs.items ++ run ∷ [] → IsInside (length new.shorts.items) (length new.longs.items) run
      → run_nodes new.shorts.items new.longs.items run ≡ found → new.many ≡ nodes.many + length found
      → AreRuns new × (nodes_of new ≡ nodes_of nodes ++ found)
  grown s l run is_s is_l is_r inside has many =
      let N = run_nodes new.shorts.items new.longs.items in
      let old : flat_map N nodes.runs.items ≡ nodes_of nodes =
      ap (λ xs. all_nodes xs new.longs.items nodes.runs.items) is_s ∙ ap (λ ys. all_nodes (nodes.shorts.items ++ s) ys nodes.runs.items) is_l
      ∙ all_still nodes.shorts.items s nodes.longs.items l nodes.runs.items are.inside in
      let all : nodes_of new ≡ nodes_of nodes ++ found =
      ap (flat_map N) is_r ∙ flat_map-append N nodes.runs.items (run ∷ []) ∙ ap (λ xs. xs ++ flat_map N (run ∷ [])) old
      ∙ ap (λ xs. nodes_of nodes ++ xs) (append-nil (N run) ∙ has) in
      let more_s : length new.shorts.items ≡ length nodes.shorts.items + length s = ap length is_s ∙ length-append nodes.shorts.items s in
      let more_l : length new.longs.items ≡ length nodes.longs.items + length l = ap length is_l ∙ length-append nodes.longs.items l in
      let I = IsInside (length new.shorts.items) (length new.longs.items) in
      let still : All I nodes.runs.items =
      All-weaker (IsInside (length nodes.shorts.items) (length nodes.longs.items)) I
      (inside_still (length nodes.shorts.items) (length nodes.longs.items) (length new.shorts.items) (length new.longs.items) (omega (arith, more_s)) (omega (arith, more_l)))
      nodes.runs.items are.inside in
      let count = are.many in (
        record {
          inside = subst (All I) (sym is_r) (All-push I nodes.runs.items run still inside);
          narrow = subst (All IsNarrow) (sym all) (All-append IsNarrow (nodes_of nodes) found are.narrow narrow);
          many = many ∙ ap (λ k. k + length found) count ∙ (let e : length (nodes_of new) ≡ length (nodes_of nodes) + length found = ap length all ∙ length-append (nodes_of nodes) found in omega (arith, e));
        },
        all,
      )
