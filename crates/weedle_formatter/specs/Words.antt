-- What a text says: its words, which are all that was read except for whitespace and the ends of
-- line comments.
use Rattle.std.specs.Prelude.{◌≡◌, ◌↔◌, ◌==◌, ◌||◌, ℕ, Bool, if◌then◌else◌, nat_lt, List, [], ◌∷◌, length}
use Rattle.weedle_grammar.specs.Meaning.{between}
use Rattle.weedle_grammar.specs.Trees.{Tree, Gives}
use Rattle.weedle_grammar.specs.written.Table.{Reads}
use Rattle.weedle_grammar.specs.written.Table.Trivia.{BYTES_LF, NOT_NEXT_ANY, ONE_OF_BLANK, RUN_BLANK, BLANKS, PIECE}
use Rattle.weedle_syntax.specs.declared.dialect.Dialect.{Dialect}
use Rattle.weedle_syntax.specs.declared.dialect.Dialect.TheVariants.{Weedle2}
use Rattle.weedle_syntax.specs.declared.node.Node.{Node}
use Rattle.weedle_syntax.specs.Dialects.{start_of, IsWholeIn, IsSyntaxIn}

-- the LF of a line comment, or the end of the text in its place
abbrev pub is_comment_end : ℕ → Bool
is_comment_end rule = (rule == BYTES_LF) || (rule == NOT_NEXT_ANY)

-- whitespace, and the choice between whitespace and a comment, which reads nothing else
abbrev pub is_of_blanks : ℕ → Bool
is_of_blanks rule = (rule == ONE_OF_BLANK) || ((rule == RUN_BLANK) || ((rule == BLANKS) || (rule == PIECE)))

-- the rules whose nodes say nothing
abbrev pub is_left_out : ℕ → Bool
is_left_out rule = is_comment_end rule || is_of_blanks rule

-- what a node says: its rule, how deep it is, and its bytes where it reads no other node
pub record Word : Type 0 where
  pub rule : ℕ
  pub depth : ℕ
  pub bytes : List ℕ

-- the bytes of a node with these behind it; none of one that reads others, which follow it and are
-- deeper
abbrev pub bytes_of : List ℕ → Node → List Node → List ℕ
bytes_of text n [] = between text n.start n.end
bytes_of text n (m ∷ ns) = if nat_lt n.depth m.depth then [] else between text n.start n.end

-- the word of a node with these behind it
abbrev pub word_of : List ℕ → Node → List Node → Word
word_of text n ns = record { rule = n.rule; depth = n.depth; bytes = bytes_of text n ns }

-- the words of all nodes that say something, in their order
abbrev pub words_of : List ℕ → List Node → List Word
words_of text [] = []
words_of text (n ∷ ns) = if is_left_out n.rule then words_of text ns else word_of text n ns ∷ words_of text ns

-- the dialect's rules read both texts whole, and their syntax trees have the same words
pub record SaysTheSameIn (dialect : Dialect) (raw out : List ℕ) : Type 0 where
  pub raw_whole : IsWholeIn dialect raw
  pub out_whole : IsWholeIn dialect out
  pub raw_nodes : List Node
  pub out_nodes : List Node
  pub raw_is : IsSyntaxIn dialect raw raw_nodes
  pub out_is : IsSyntaxIn dialect out out_nodes
  pub same : words_of raw raw_nodes ≡ words_of out out_nodes

-- so do weedle2's rules
abbrev pub SaysTheSame : List ℕ → List ℕ → Type 0
SaysTheSame raw out = SaysTheSameIn Weedle2 raw out

-- the dialect's rules read the whole text, and give these trees
abbrev pub ReadsAsIn : Dialect → List ℕ → List Tree → Type 0
ReadsAsIn dialect text ts = Reads text (start_of dialect) 0 (Gives ts (length text))

-- whatever trees the dialect's rules read of the whole of one text, they read of the whole of the other, and the other way round
unfoldable pub IsReadAlikeIn : Dialect → List ℕ → List ℕ → Type 0
IsReadAlikeIn dialect raw out = (ts : List Tree) → ReadsAsIn dialect raw ts ↔ ReadsAsIn dialect out ts

-- so do weedle2's rules
abbrev pub IsReadAlike : List ℕ → List ℕ → Type 0
IsReadAlike raw out = IsReadAlikeIn Weedle2 raw out
