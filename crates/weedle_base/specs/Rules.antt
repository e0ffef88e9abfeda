-- When a reading is that of a rule.
use Rattle.std.specs.Prelude.{ℕ, List, [], ◌∷◌, map, Option, Some, None}
use Rattle.weedle_base.specs.Own.{stops_for_memory}
use Rattle.weedle_base.specs.Reading.{Reading}
use Rattle.weedle_base.specs.declared.fault.ErrorKind.{ErrorKind}
use Rattle.weedle_grammar.specs.written.Table.{Reads}
use Rattle.weedle_grammar.specs.Trees.{Tree, Absent, Present, trees, Fails, Gives, Mark, Items as Listed}

-- the reading is that of the rule, with this tree of a value
pub record IsRule {V : Type 0} (R : Reading V) (r : ℕ) (tree : V → Tree) (grows : Type 0) : Type 0 where
  -- what the reading gives, the rule gives, with the tree of the value
  pub gives : (s : List ℕ) (v : V) (k : ℕ) → R.gives s v k → Reads s r 0 (Gives (tree v ∷ []) k)
  -- where the reading refuses, the rule fails
  pub refuses : (s : List ℕ) → R.refuses s → Reads s r 0 Fails
  -- the reading stops because memory runs out alone, and only if it grows
  pub stops : (s x : List ℕ) (code : ErrorKind) → R.stops s x code → stops_for_memory grows s x code

-- the tree of a terminal
abbrev pub mark_tree : {V : Type 0} → V → Tree
mark_tree v = Mark

-- the tree of an option
abbrev pub option_tree : {V : Type 0} → (V → Tree) → Option V → Tree
option_tree tree None = Absent
option_tree tree (Some v) = Present (tree v)

-- the tree of a list
abbrev pub items_tree : {V : Type 0} → (V → Tree) → List V → Tree
items_tree tree vs = Listed (trees (map tree vs))

-- the reading is that of the rule, with this tree of a value; it asks for memory where it says so
abbrev pub HasRule : {V : Type 0} → Reading V → ℕ → (V → Tree) → Type 0
HasRule R r tree = IsRule R r tree R.grows
