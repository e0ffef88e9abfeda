-- What the readers write while they read: the words of their private contracts.
use Rattle.std.specs.Prelude.{◌≡◌, ◌≢◌, ◌+◌, ℕ, List, [], ◌∷◌, ◌++◌, reverse, drop, Option, Some, None, MatchOption, option_map}
use Rattle.weedle_grammar.specs.Rows.{take_one, run_length}
use Rattle.weedle_grammar.specs.declared.class.Class.TheVariants.{Blank}
use Rattle.weedle_grammar.specs.written.Table.{row_of}
use Rattle.weedle_grammar.specs.written.Table.Trivia.{LINE_COMMENT, PIECE}
use Rattle.weedle_rules.specs.Cells.{HasEnd}
use Rattle.weedle_starts.specs.Tries.{TriesHere}
use Rattle.weedle_syntax.specs.declared.node.Node.{Node}
use Rattle.weedle_syntax.specs.Parts.{AreParts, HasParts}
use Rattle.weedle_syntax.specs.Syntax.{AreTrees}

-- a node
abbrev pub node : ℕ → ℕ → ℕ → ℕ → Node
node r p e d = record { rule = r; start = p; end = e; depth = d }

-- over the table: a pile, its top last, on which the nodes that a node reads directly were put, the first of them on top
abbrev pub Piles : List ℕ → Node → List Node → List Node → Type 0
Piles text n old new = (inner : List Node) × HasParts text n inner × (reverse new ≡ inner ++ reverse old)

-- by descent: the trees of these nodes follow what was there
abbrev pub Adds : List ℕ → List Node → List Node → List Node → Type 0
Adds text inner old new = (more : List Node) × (new ≡ old ++ more) × AreTrees text inner more

-- these are the nodes below that of rule r from p to e, of depth d
abbrev pub LaysBelow : List ℕ → ℕ → ℕ → ℕ → ℕ → List Node → Type 0
LaysBelow text r p e d below = (inner : List Node) × HasParts text (node r p e d) inner × AreTrees text inner below

-- nothing is written where rule r fails at p, else its node, of depth d, with all below it
abbrev pub LaysNode : List ℕ → ℕ → ℕ → ℕ → List Node → List Node → Option ℕ → Type 0
LaysNode text r p d old new o = MatchOption o (new ≡ old) (λ e. Adds text (node r p e d ∷ []) old new)

-- what the row of rule r reads at p is written with all below it; where it fails, something may be
abbrev pub LaysParts : List ℕ → ℕ → ℕ → ℕ → List Node → List Node → Option ℕ → Type 0
LaysParts text r p d old new o =
    MatchOption o ((more : List Node) × (new ≡ old ++ more)) (λ e. (inner : List Node) × AreParts text (row_of r) d p e inner × Adds text inner old new)

-- whitespace is from p to e, its first byte up to a; no comment begins where it begins, and no more
-- trivia behind it
pub record AreBlanksAlone (text : List ℕ) (p a e : ℕ) : Type 0 where
  pub first : Some a ≡ option_map (λ k. p + k) (take_one Blank (drop p text))
  pub others : e ≡ a + run_length Blank (drop a text)
  pub some : e ≢ p
  pub no_comment : HasEnd text LINE_COMMENT p None
  pub comment_here : TriesHere text LINE_COMMENT p
  pub no_piece : HasEnd text PIECE e None
  pub piece_here : TriesHere text PIECE e
