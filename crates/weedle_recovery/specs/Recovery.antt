-- The parts of a text: what is read of it, and what isn't.
use Rattle.std.specs.Prelude.{◌≡◌, ◌⊎◌, ◌≤◌, ◌++◌, ℕ, Bool, true, false, List, [], ◌∷◌, length}
use Rattle.weedle_grammar.specs.written.Table.Definitions.{DEFINITION}
use Rattle.weedle_grammar.specs.written.Table.Symbols.{OPEN_BRACE}
use Rattle.weedle_grammar.specs.written.Table.TodayDefinitions.{TODAY_DEFINITION, TODAY_PIECE}
use Rattle.weedle_recovery.specs.Counts.{ReadingView}
use Rattle.weedle_recovery.specs.Stops.{PassesTo}
use Rattle.weedle_recovery.specs.declared.stops.Goal.TheVariants as goal
use Rattle.weedle_rules.specs.Outcomes.{EndsAt, FailsAt}
use Rattle.weedle_syntax.specs.declared.node.Node.{Node}
use Rattle.weedle_syntax.specs.Syntax.{AreTrees}
use Rattle.weedle_recovery.specs.declared.part.Part.{Part}
use Rattle.weedle_syntax.specs.declared.dialect.Dialect.{Dialect}
use Rattle.weedle_syntax.specs.declared.dialect.Dialect.TheVariants.{Weedle2, Today}

-- where the unread rest of a definition ends that begins at p: where the next one begins, or behind the `{` of its body
abbrev pub DefinitionPasses : Dialect → List ℕ → ℕ → ℕ → Type 0
DefinitionPasses dialect text p e = PassesTo dialect text goal.Definition p e ⊎ ((brace : ℕ) × PassesTo dialect text goal.Body p brace × EndsAt text OPEN_BRACE brace e)

-- how an unread part ends
pub data IsPassed (dialect : Dialect) (text : List ℕ) (part : Part) : Type 0 where
  -- something is missing, and nothing is passed over
  missing : part.end ≡ part.start → IsPassed dialect text part
  -- a definition, or the rest of one behind its parts that are read
  of_definition : DefinitionPasses dialect text part.definition part.end → IsPassed dialect text part
  -- a member: up to the next one, to what closes the body, or to where a definition begins
  of_member : PassesTo dialect text (goal.Member part.rule) part.start part.end → IsPassed dialect text part

-- of a part that is read: its rule is read from its start to its end; of one that isn't: its rule fails at its start, and it ends at the first
-- synchronisation point of the dialect
pub record IsPart (dialect : Dialect) (text : List ℕ) (part : Part) : Type 0 where
  pub reads : part.is_read ≡ true → EndsAt text part.rule part.start part.end
  pub fails : part.is_read ≡ false → FailsAt text part.rule part.start
  pub passed : part.is_read ≡ false → IsPassed dialect text part
  pub order : part.start ≤ part.end
  pub front : part.definition ≤ part.start

-- parts from p on to e, each from the end of the one before
abbrev pub ArePartsIn : Dialect → List ℕ → ℕ → ℕ → List Part → Type 0
ArePartsIn dialect text p e [] = e ≡ p
ArePartsIn dialect text p e (part ∷ parts) = (part.start ≡ p) × IsPart dialect text part × ArePartsIn dialect text part.end e parts

-- by weedle2's rules
abbrev pub AreParts : List ℕ → ℕ → ℕ → List Part → Type 0
AreParts = ArePartsIn Weedle2

-- the first node of a part that is read, and none of one that isn't
abbrev pub root_where : Bool → Part → List Node
root_where true part = record { rule = part.rule; start = part.start; end = part.end; depth = 0 } ∷ []
root_where false part = []

-- the first nodes of the parts that are read
abbrev pub roots_of : List Part → List Node
roots_of [] = []
roots_of (part ∷ parts) = root_where part.is_read part ++ roots_of parts

-- parts up to a place of the text, and exactly the nodes of those that are read; the last definition begins no further on
pub record IsDivided (reading : ReadingView) (parts : List Part) (nodes : List Node) (definition place : ℕ) : Type 0 where
  pub within : place ≤ length reading.text
  pub front : definition ≤ place
  pub cover : ArePartsIn reading.dialect reading.text 0 place parts
  pub trees : AreTrees reading.text (roots_of parts) nodes

-- a part that isn't read, by its numbers
abbrev pub unread : ℕ → ℕ → ℕ → ℕ → Part
unread rule start end definition = record { rule = rule; is_read = false; start = start; end = end; definition = definition }

-- a definition that is read
abbrev pub IsDefinition : Part → Type 0
IsDefinition part = (part.is_read ≡ true) × (part.rule ≡ DEFINITION)

-- the same by today's rules, or what no definition follows, as a comment at the end of the text
abbrev pub IsTodaysDefinition : Part → Type 0
IsTodaysDefinition part = (part.is_read ≡ true) × ((part.rule ≡ TODAY_DEFINITION) ⊎ (part.rule ≡ TODAY_PIECE))

-- the same by the dialect's rules
abbrev pub IsDefinitionIn : Dialect → Part → Type 0
IsDefinitionIn Weedle2 = IsDefinition
IsDefinitionIn Today = IsTodaysDefinition
