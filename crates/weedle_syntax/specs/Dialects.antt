-- Whose rules a text is read by.
use Rattle.std.specs.Prelude.{ℕ, List, length}
use Rattle.weedle_grammar.specs.written.Table.Definitions.{DEFINITION, DEFINITIONS}
use Rattle.weedle_grammar.specs.written.Table.TodayDefinitions.{TODAY_DEFINITION, TODAY_DEFINITIONS, TODAY_PIECE}
use Rattle.weedle_rules.specs.Outcomes.{EndsAt}
use Rattle.weedle_syntax.specs.declared.dialect.Dialect.{Dialect}
use Rattle.weedle_syntax.specs.declared.dialect.Dialect.TheVariants.{Weedle2, Today}
use Rattle.weedle_syntax.specs.declared.node.Node.{Node}
use Rattle.weedle_syntax.specs.Syntax.{IsRuleTo, IsRuleFront}

-- the rule of a whole text
abbrev pub start_of : Dialect → ℕ
start_of Weedle2 = DEFINITIONS
start_of Today = TODAY_DEFINITIONS

-- the rule of which that reads one after another
abbrev pub item_of : Dialect → ℕ
item_of Weedle2 = DEFINITION
item_of Today = TODAY_PIECE

-- the rule of a definition, with the docstrings and extended attributes in front of it
abbrev pub definition_of : Dialect → ℕ
definition_of Weedle2 = DEFINITION
definition_of Today = TODAY_DEFINITION

-- the dialect's rules read the text from its front up to this place, where the remaining input begins
abbrev pub RestBeginsIn : Dialect → List ℕ → ℕ → Type 0
RestBeginsIn dialect text end = EndsAt text (start_of dialect) 0 end

-- they read the whole text
abbrev pub IsWholeIn : Dialect → List ℕ → Type 0
IsWholeIn dialect text = RestBeginsIn dialect text (length text)

-- all nodes of what they read of a text, whatever the remaining input is
abbrev pub IsFrontIn : Dialect → List ℕ → List Node → Type 0
IsFrontIn dialect text ns = IsRuleFront text (start_of dialect) ns

-- all nodes of a text that they read whole
abbrev pub IsSyntaxIn : Dialect → List ℕ → List Node → Type 0
IsSyntaxIn dialect text ns = IsRuleTo text (start_of dialect) (length text) ns
