-- The nodes of runs, and how many they are.
use Rattle.std.proofs.Common.{◌≡◌, ◌+◌, ◌-◌, ◌≤◌, ◌∙◌, Bool, true, false, ℕ, List, ◌++◌, length, length-drop, take, drop, ap, arith}
use Rattle.std.specs.Prelude.{if◌then◌else◌, map}
use Rattle.std.proofs.lemmas.List.{length-take-le, drop_at, length-map, take_rest}
use Rattle.weedle_syntax.specs.Compact.{node_of, run_nodes, IsInside}
use Rattle.weedle_syntax.specs.Laid.{Adds}
use Rattle.weedle_syntax.proofs.DescentFacts.{added_length}
use Rattle.weedle_syntax.specs.declared.node.Node.{Node}
use Rattle.weedle_syntax.specs.declared.runs.Run.{Run}
use Rattle.weedle_syntax.specs.declared.runs.Short.{Short}

module _ {A : Type 0} (from many : ℕ) (xs : List A) (inside : from + many ≤ length xs) where
  many_taken : length (take many (drop from xs)) ≡ many
  many_taken = length-take-le many (drop from xs) (let l = length-drop from xs in omega (arith, l, inside))

-- how many nodes a run has
pub run_length : (shorts : List Short) (longs : List Node) (run : Run) → IsInside (length shorts) (length longs) run → length (run_nodes shorts longs run) ≡ run.many
run_length shorts longs run inside = by run.is_long inside
  where
    by : (b : Bool) → run.from + run.many ≤ (if b then length longs else length shorts)
        → length (if b then take run.many (drop run.from longs) else map (node_of run.base) (take run.many (drop run.from shorts))) ≡ run.many
    by true here = many_taken run.from run.many longs here
    by false here = length-map (take run.many (drop run.from shorts)) (node_of run.base) ∙ many_taken run.from run.many shorts here

-- what was written behind one node is put behind other nodes
pub packed_on : (text : List ℕ) (inner old new front behind : List Node) → length old ≡ 1 → Adds text inner old new
    → behind ≡ front ++ take (length new - 1) (drop 1 new) → Adds text inner front behind
packed_on text inner old new front behind one (more, is, trees) b =
    (more, b ∙ ap (λ xs. front ++ xs) (take_rest new 1 ∙ ap (drop 1) is ∙ drop_at old more 1 one), trees)

-- of them, one is left
pub one_left : (text : List ℕ) (inner old new : List Node) → length old ≡ 1 → Adds text inner old new → length (take 1 new) ≡ 1
one_left text inner old new one a = length-take-le 1 new (let l = added_length text inner old new a in omega (arith, l, one))
