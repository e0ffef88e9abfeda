-- The trees that nodes give, by what they say: without the text, and without places.
use Rattle.std.proofs.Common.{ℕ, zero, suc, List, [], ◌∷◌, ◌++◌, length, map, drop, take}
use Rattle.std.specs.Prelude.{nat_lt, ◌==◌, if◌then◌else◌}
use Rattle.weedle_grammar.specs.Rows.{Row, Bytes, OneOf, NotNext, Run, Past, Seq, First, Opt, Many, ListOf, List1, Tail, If}
use Rattle.weedle_grammar.specs.Trees.{Tree, Mark, Text, Alt, Absent, Present, Lines}
use Rattle.weedle_grammar.specs.Meaning.{Shape, Silent, Marked, Kept, Line, Joined, Inner, Plain, plain, joined, but_last}
use Rattle.weedle_grammar.specs.written.Table.{row_of, shape_of}
use Rattle.weedle_formatter.proofs.Said.{Said, nothing, says, is_solid}

-- a node's rule, the trees that it gives, and the bytes that it says
pub record Told : Type 0 where
  pub rule : ℕ
  pub given : List Tree
  pub bytes : List ℕ

abbrev pub all_given : List Told → List Tree
all_given [] = []
all_given (b ∷ bs) = b.given ++ all_given bs

abbrev pub all_bytes : List Told → List ℕ
all_bytes [] = []
all_bytes (b ∷ bs) = b.bytes ++ all_bytes bs

-- of separators, each with the item behind it, what the items give
abbrev pub items_given : List Told → List Tree
items_given [] = []
items_given (s ∷ []) = []
items_given (s ∷ y ∷ bs) = y.given ++ items_given bs

-- of alternatives, counted from i, the one that was read
abbrev pub chosen : ℕ → List ℕ → Told → List Tree
chosen i [] b = []
chosen i (r ∷ rs) b = if r == b.rule then map (Alt i) b.given else chosen (suc i) rs b

-- the one alternative that was read
abbrev pub choice_given : List ℕ → List Told → List Tree
choice_given rs [] = []
choice_given rs (b ∷ bs) = chosen 0 rs b

-- the optional part, if it was read
abbrev pub option_given : List Told → List Tree
option_given [] = Absent ∷ []
option_given (b ∷ bs) = map Present b.given

-- what a row yields, by what its parts except for trivia say
abbrev pub yielded : Row → List Told → List Tree
yielded (Seq parts) bs = all_given bs
yielded (First parts) bs = choice_given parts bs
yielded (Opt x) bs = option_given bs
yielded (Many x) bs = all_given bs
yielded (ListOf x t) bs = all_given bs
yielded (List1 x t) bs = all_given bs
yielded (Tail x s) bs = items_given bs
yielded (If parts k y) bs = all_given bs ++ (if nat_lt (length parts) (length bs) then [] else Absent ∷ [])
yielded (Bytes b) bs = []
yielded (OneOf c) bs = []
yielded (NotNext c) bs = []
yielded (Run c) bs = []
yielded (Past b) bs = []

-- the bytes of part k, where trivia among the parts says nothing
abbrev pub bytes_at : List ℕ → ℕ → List Told → List ℕ
bytes_at [] k bs = []
bytes_at (r ∷ rs) zero [] = []
bytes_at (r ∷ rs) zero (b ∷ bs) = b.bytes
bytes_at (r ∷ rs) (suc k) bs = if is_solid r then bytes_at rs k (drop 1 bs) else bytes_at rs k bs

-- of a sequence
abbrev pub row_bytes : Row → ℕ → List Told → List ℕ
row_bytes (Seq parts) k bs = bytes_at parts k bs
row_bytes _ k bs = []

-- the trees that a rule gives
abbrev pub gives : Shape → Row → List Told → List Tree
gives Silent row bs = []
gives Marked row bs = Mark ∷ []
gives (Kept k) row bs = Text (row_bytes row k bs) ∷ []
gives Line row bs = Lines (but_last (row_bytes row 2 bs)) ∷ []
gives Joined row bs = Lines (joined (yielded row bs)) ∷ []
gives Inner row bs = take 1 (yielded row bs)
gives Plain row bs = plain row (yielded row bs)

abbrev pub one_told : ℕ → List ℕ → List Told → Told
one_told r b bs = record { rule = r; given = gives (shape_of r) (row_of r) bs; bytes = b ++ all_bytes bs }

abbrev pub all_told : Said → List Told
all_told nothing = []
all_told (says r b kids others) = one_told r b (all_told kids) ∷ all_told others
