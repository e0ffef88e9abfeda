-- What the reading of a text takes.
use Rattle.std.specs.Borrow.{Bor}
use Rattle.std.specs.Global.{Vec}
use Rattle.std.specs.Prelude.{◌≡◌, ℕ, ◌≤◌, ◌+◌, ◌*◌, ◌⊎◌, List, [], ◌∷◌, length, Result, Ok, Err as Failed}
use Rattle.weedle_front.specs.declared.reader.Counted.{Counted}
use Rattle.weedle_base.specs.declared.fault.Err.{Err}
use Rattle.weedle_base.specs.declared.fault.Err.TheVariants.{Error as Stopped, Failure}
use Rattle.weedle_base.specs.declared.fault.Error.{Error}
use Rattle.weedle_grammar.specs.written.Bound.{table_count}
use Rattle.weedle_grammar.specs.Size.{size}
use Rattle.weedle_grammar.specs.written.Table.{Reads}
use Rattle.weedle_grammar.specs.written.Table.Definitions.{DEFINITIONS}
use Rattle.weedle_grammar.specs.Trees.{Tree, Gives}
use Rattle.weedle_idl.specs.declared.definition.Definition.{Definition}
use Rattle.weedle_rules.specs.written.Bound.{most_reads}

-- the answer is that memory ran out
abbrev pub MemoryRanOut : Result (Vec Definition) (Err (Error (Bor (List ℕ)))) → Type 0
MemoryRanOut (Ok definitions) = ⊥
MemoryRanOut (Failed (Stopped e)) = ⊥
MemoryRanOut (Failed (Failure e)) = Unit {0}

-- at each place each rule was worked out at most once, by as many looks at least as workings and by so many at most, and for each place at most 10,000 nodes were visited
pub record IsBounded (raw : List ℕ) (counted : Counted) : Type 0 where
  pub workings : counted.workings ≤ table_count * (length raw + 1)
  pub looked : counted.workings ≤ counted.reads
  pub reads : counted.reads ≤ most_reads * counted.workings
  pub visits : counted.visits ≤ 10000 * (length raw + 1)

-- each rule was worked out at each place, and as many nodes were visited as the tree has that the rule of definitions gives
pub record IsExact (raw : List ℕ) (counted : Counted) : Type 0 where
  pub workings : counted.workings ≡ table_count * (length raw + 1)
  pub tree : Tree
  pub end : ℕ
  pub given : Reads raw DEFINITIONS 0 (Gives (tree ∷ []) end)
  pub visits : counted.visits ≡ size tree

-- as many nodes were visited as the tree has that the rule of definitions gives
pub record IsVisited (raw : List ℕ) (visits : ℕ) : Type 0 where
  pub tree : Tree
  pub end : ℕ
  pub given : Reads raw DEFINITIONS 0 (Gives (tree ∷ []) end)
  pub each : visits ≡ size tree

-- no rule was worked out, or each was at each place; and no node was visited
pub record IsCutShort (raw : List ℕ) (counted : Counted) : Type 0 where
  pub workings : (counted.workings ≡ 0) ⊎ (counted.workings ≡ table_count * (length raw + 1))
  pub visits : counted.visits ≡ 0
