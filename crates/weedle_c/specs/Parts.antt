-- Parts as C has them, and what an answer says of them.
use Rattle.std.specs.Prelude.{◌≡◌, ◌⊎◌, ◌≤◌, ◌<◌, ◌^◌, ◌==◌, ◌||◌, ◌++◌, not, nat_le, if◌then◌else◌, ℕ, Bool, List, All, count_by, length, drop, map}
use Rattle.weedle_c.specs.Nodes.{c_node}
use Rattle.weedle_syntax.specs.Compact.{IsNarrow}
use Rattle.weedle_c.specs.declared.node.WeedleNode.{WeedleNode}
use Rattle.weedle_c.specs.declared.part.WeedlePart.{WeedlePart}
use Rattle.weedle_c.specs.declared.recovered.WeedleRecovered.{WeedleRecovered}
use Rattle.weedle_grammar.specs.written.Bound.{rule_count}
use Rattle.weedle_grammar.specs.written.Table.Definitions.{DEFINITIONS}
use Rattle.weedle_recovery.specs.Recovery.{ArePartsIn, IsDefinitionIn, roots_of}
use Rattle.weedle_recovery.specs.Refusals.{IsUnread}
use Rattle.weedle_recovery.specs.declared.part.Part.{Part}
use Rattle.weedle_syntax.specs.Dialects.{IsWholeIn}
use Rattle.weedle_syntax.specs.Syntax.{AreTrees}
use Rattle.weedle_syntax.specs.declared.dialect.Dialect.{Dialect}
use Rattle.weedle_syntax.specs.declared.dialect.Dialect.TheVariants.{Weedle2}
use Rattle.weedle_syntax.specs.declared.node.Node.{Node}

-- a part as C has it, of the same numbers
abbrev pub c_part : Part → WeedlePart
c_part part = record {
  rule = part.rule;
  is_read = if part.is_read then 1 else 0;
  start = part.start;
  end = part.end;
  definition = part.definition;
}

-- 32 bits hold its places
pub record PartFits (part : Part) : Type 0 where
  pub start : part.start < 2 ^ 32
  pub end : part.end < 2 ^ 32
  pub definition : part.definition < 2 ^ 32

-- the part that C has; what no rule has the number of is no unread part
abbrev pub part_of : WeedlePart → Part
part_of part = record {
  rule = if nat_le rule_count part.rule then DEFINITIONS else part.rule;
  is_read = nat_le rule_count part.rule || not (part.is_read == 0);
  start = part.start;
  end = part.end;
  definition = part.definition;
}

-- it is an unread part of the text, by its numbers
abbrev pub IsPart : List ℕ → WeedlePart → Type 0
IsPart text part = IsUnread text (part_of part)

-- the part is unread
abbrev pub is_unread : Part → Bool
is_unread part = not part.is_read

-- the parts of a text by the dialect's rules, and the nodes of those that are read
pub record IsRecoveryIn (dialect : Dialect) (text : List ℕ) (parts : List Part) (nodes : List Node) : Type 0 where
  -- the parts join to the text; a rule is read in each, or fails where it begins
  pub cover : ArePartsIn dialect text 0 (length text) parts
  pub trees : AreTrees text (roots_of parts) nodes
  -- of a text that is read whole they are its definitions
  pub whole : IsWholeIn dialect text → All (IsDefinitionIn dialect) parts

-- the answer has the numbers of these parts and nodes
pub record Counts (parts : List Part) (nodes : List Node) (answer : WeedleRecovered) : Type 0 where
  pub of_parts : answer.parts ≡ length parts
  pub of_nodes : answer.nodes ≡ length nodes
  pub of_unread : answer.unread ≡ count_by is_unread parts

-- parts and nodes are at the front of their rooms, and behind them is what was there
pub record ArePartedIn (dialect : Dialect) (text : List ℕ) (old new : List WeedlePart) (old_nodes new_nodes : List WeedleNode) (answer : WeedleRecovered) : Type 0 where
  pub parts : List Part
  pub nodes : List Node
  pub are : IsRecoveryIn dialect text parts nodes
  pub counted : Counts parts nodes answer
  pub written : new ≡ map c_part parts ++ drop (length parts) old
  pub nodes_written : new_nodes ≡ map c_node nodes ++ drop (length nodes) old_nodes

-- the parts or the nodes are more than there is room for
pub record AreUncountedIn (dialect : Dialect) (text : List ℕ) (room node_room : ℕ) (answer : WeedleRecovered) : Type 0 where
  pub parts : List Part
  pub nodes : List Node
  pub are : IsRecoveryIn dialect text parts nodes
  pub counted : Counts parts nodes answer
  pub more : (room < length parts) ⊎ (node_room < length nodes)

-- 32 bits don't hold the length of the text, a place of a part, or a place or the depth of a node
abbrev pub AreTooLongIn : Dialect → List ℕ → Type 0
AreTooLongIn dialect text =
    (2 ^ 32 ≤ length text) ⊎ ((parts : List Part) × (nodes : List Node) × IsRecoveryIn dialect text parts nodes × (¬ All PartFits parts ⊎ ¬ All IsNarrow nodes))

-- these by weedle2's rules
abbrev pub IsRecovery : List ℕ → List Part → List Node → Type 0
IsRecovery text parts nodes = IsRecoveryIn Weedle2 text parts nodes

abbrev pub AreParted : List ℕ → List WeedlePart → List WeedlePart → List WeedleNode → List WeedleNode → WeedleRecovered → Type 0
AreParted text old new old_nodes new_nodes answer = ArePartedIn Weedle2 text old new old_nodes new_nodes answer

abbrev pub AreUncounted : List ℕ → ℕ → ℕ → WeedleRecovered → Type 0
AreUncounted text room node_room answer = AreUncountedIn Weedle2 text room node_room answer

abbrev pub AreTooLong : List ℕ → Type 0
AreTooLong text = AreTooLongIn Weedle2 text
