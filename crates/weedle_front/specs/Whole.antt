-- What the grammar reads of a text, and what a parse of the text may answer.
use Rattle.std.specs.Borrow.{Bor}
use Rattle.std.specs.Global.{Vec}
use Rattle.std.specs.Prelude.{◌≡◌, ℕ, ◌<◌, ◌≤◌, List, [], ◌∷◌, length, drop, Result, Ok, Err as Failed}
use Rattle.weedle_base.specs.declared.fault.Err.{Err}
use Rattle.weedle_base.specs.declared.fault.Err.TheVariants.{Error as Stopped, Failure}
use Rattle.weedle_base.specs.declared.fault.Error.{Error}
use Rattle.weedle_base.specs.declared.fault.ErrorKind.TheVariants.{Unread, Memory}
use Rattle.weedle_grammar.specs.written.Table.{Reads}
use Rattle.weedle_grammar.specs.written.Table.Definitions.{DEFINITIONS}
use Rattle.weedle_grammar.specs.Trees.{Tree, Gives}
use Rattle.weedle_idl.specs.written.DefinitionTrees.{definitions_tree}
use Rattle.weedle_idl.specs.declared.definition.Definition.{Definition}
use Rattle.weedle_spell.specs.Laws.{Spells}
use Rattle.weedle_spell.specs.Pieces.{IsInPieces}
use Rattle.weedle_spell_idl.specs.written.Definitions.{definitions_spelling}

-- the grammar reads the whole text as these definitions
unfoldable pub IsWhole : List ℕ → List Definition → Type 0
IsWhole raw definitions = Reads raw DEFINITIONS 0 (Gives (definitions_tree definitions ∷ []) (length raw))

-- the grammar reads the text as definitions up to some place, and this is the remaining input
unfoldable pub IsLeft : List ℕ → List ℕ → Type 0
IsLeft raw rest = (ts : List Tree) × (end : ℕ) × Reads raw DEFINITIONS 0 (Gives ts end) × (rest ≡ drop end raw)

-- the text is a rendering of these definitions
unfoldable pub SpellsList : List ℕ → List Definition → Type 0
SpellsList raw definitions = Spells definitions_spelling definitions raw

-- the texts of these definitions are in the text in their order
unfoldable pub HasTexts : List ℕ → List Definition → Type 0
HasTexts raw definitions = IsInPieces (definitions_tree definitions) raw

-- the text is not read whole, and the fault has what the grammar leaves of it
pub record LeavesRest (raw : List ℕ) (e : Error (Bor (List ℕ))) : Type 0 where
  pub refused : (definitions : List Definition) → ¬ IsWhole raw definitions
  pub code : e.code ≡ Unread
  pub left : IsLeft raw e.input.now
  pub nonempty : 0 < length e.input.now
  pub within : length e.input.now ≤ length raw

-- memory ran out, and the fault has the text
pub record RunsOut (raw : List ℕ) (e : Error (Bor (List ℕ))) : Type 0 where
  pub code : e.code ≡ Memory
  pub input : e.input.now ≡ raw

-- the whole text as definitions, or what the grammar leaves of it, or memory ran out
abbrev pub ParseAnswers : List ℕ → Result (Vec Definition) (Err (Error (Bor (List ℕ)))) → Type 0
ParseAnswers raw (Ok definitions) = IsWhole raw definitions.items
ParseAnswers raw (Failed (Stopped e)) = LeavesRest raw e
ParseAnswers raw (Failed (Failure e)) = RunsOut raw e

-- this value where nothing is left, and else a fault that has what is left
module _ {V : Type 0} (value : V) (rest : List ℕ) where
  abbrev pub WholeOf : Result V (Err (Error (Bor (List ℕ)))) → Type 0
  WholeOf (Ok whole) = (whole ≡ value) × (length rest ≡ 0)
  WholeOf (Failed (Stopped e)) = (e.code ≡ Unread) × (e.input.now ≡ rest) × (0 < length rest)
  WholeOf (Failed (Failure e)) = ⊥
