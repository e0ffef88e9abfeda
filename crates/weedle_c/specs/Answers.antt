-- What an answer says of a text, by its status.
use Rattle.std.specs.Prelude.{◌≡◌, ◌⊎◌, ◌≤◌, ◌<◌, ◌^◌, ◌++◌, ℕ, List, All, length, drop, map}
use Rattle.weedle_c.specs.Nodes.{c_node}
use Rattle.weedle_syntax.specs.Compact.{IsNarrow}
use Rattle.weedle_c.specs.declared.node.WeedleNode.{WeedleNode}
use Rattle.weedle_c.specs.declared.reader.WeedleAnswer.{WeedleAnswer}
use Rattle.weedle_rules.specs.Outcomes.{EndsAt}
use Rattle.weedle_syntax.specs.Dialects.{start_of, IsWholeIn, IsSyntaxIn}
use Rattle.weedle_syntax.specs.Syntax.{IsRuleTo}
use Rattle.weedle_syntax.specs.declared.dialect.Dialect.{Dialect}
use Rattle.weedle_syntax.specs.declared.dialect.Dialect.TheVariants.{Weedle2}
use Rattle.weedle_syntax.specs.declared.node.Node.{Node}

-- the dialect's rules read the whole text, and these are its nodes, as many as the answer says
pub record HasTreeIn (dialect : Dialect) (text : List ℕ) (answer : WeedleAnswer) (tree : List Node) : Type 0 where
  pub whole : IsWholeIn dialect text
  pub is_syntax : IsSyntaxIn dialect text tree
  pub count : answer.count ≡ length tree
  pub rest : answer.rest ≡ length text

-- the nodes of the text are at the front of the room, and behind them is what was there
pub record IsTreeIn (dialect : Dialect) (text : List ℕ) (old new : List WeedleNode) (answer : WeedleAnswer) : Type 0 where
  pub tree : List Node
  pub has : HasTreeIn dialect text answer tree
  pub written : new ≡ map c_node tree ++ drop (length tree) old

-- the nodes of the text are more than there is room for
pub record IsCountedIn (dialect : Dialect) (text : List ℕ) (room : ℕ) (answer : WeedleAnswer) : Type 0 where
  pub tree : List Node
  pub has : HasTreeIn dialect text answer tree
  pub more : room < length tree

-- the rule is read at the front of the text up to where the answer says, and these are its nodes, as many as it says
pub record HasRule (text : List ℕ) (rule : ℕ) (answer : WeedleAnswer) (tree : List Node) : Type 0 where
  pub reads : EndsAt text rule 0 answer.rest
  pub are : IsRuleTo text rule answer.rest tree
  pub count : answer.count ≡ length tree

-- the nodes of the rule are at the front of the room, and behind them is what was there
pub record IsRuleTree (text : List ℕ) (rule : ℕ) (old new : List WeedleNode) (answer : WeedleAnswer) : Type 0 where
  pub tree : List Node
  pub has : HasRule text rule answer tree
  pub written : new ≡ map c_node tree ++ drop (length tree) old

-- the nodes of the rule are more than there is room for
pub record IsRuleCounted (text : List ℕ) (rule room : ℕ) (answer : WeedleAnswer) : Type 0 where
  pub tree : List Node
  pub has : HasRule text rule answer tree
  pub more : room < length tree

-- 32 bits don't hold the length of the text, or a place or the depth of a node of the tree that this says it has
abbrev pub IsTooLong : (List Node → Type 0) → List ℕ → Type 0
IsTooLong Has text = (2 ^ 32 ≤ length text) ⊎ ((tree : List Node) × Has tree × ¬ All IsNarrow tree)

-- the dialect's rules don't read the text whole, and the answer says where the remaining input begins
pub record IsUnreadIn (dialect : Dialect) (text : List ℕ) (answer : WeedleAnswer) : Type 0 where
  pub refused : ¬ IsWholeIn dialect text
  pub left : EndsAt text (start_of dialect) 0 answer.rest
  pub unread : answer.rest < length text

-- these by weedle2's rules
abbrev pub IsTree : List ℕ → List WeedleNode → List WeedleNode → WeedleAnswer → Type 0
IsTree text old new answer = IsTreeIn Weedle2 text old new answer

abbrev pub IsCounted : List ℕ → ℕ → WeedleAnswer → Type 0
IsCounted text room answer = IsCountedIn Weedle2 text room answer

abbrev pub IsUnread : List ℕ → WeedleAnswer → Type 0
IsUnread text answer = IsUnreadIn Weedle2 text answer
