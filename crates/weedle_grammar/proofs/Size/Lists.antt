-- The sizes of lists of trees, and of what a shape makes of them.
use Rattle.std.proofs.Common.{◌≡◌, ℕ, ◌+◌, ◌≤◌, List, [], ◌∷◌, ◌++◌, map, take, length, refl, arith}
use Rattle.weedle_grammar.specs.Rows.{Row, Bytes, OneOf, NotNext, Run, Past, Seq, First, Opt, Many, ListOf, List1, Tail, If}
use Rattle.weedle_grammar.specs.Trees.{Tree, Alt, Present, trees}
use Rattle.weedle_grammar.specs.Meaning.{Shape, Silent, Marked, Kept, Line, Joined, Inner, Plain, plain, formed}
use Rattle.weedle_grammar.specs.Size.{sizes, total_size}

-- trees have as many nodes as the list of them
pub size_trees : (ts : List Tree) → sizes (trees ts) ≡ total_size ts
size_trees [] = refl
size_trees (t ∷ ts) = let h = size_trees ts in omega arith

-- one list after another
pub size_append : (ts us : List Tree) → total_size (ts ++ us) ≡ total_size ts + total_size us
size_append [] us = omega arith
size_append (t ∷ ts) us = let h = size_append ts us in omega arith

-- each tree of an alternative is one node more
pub size_alt : (i : ℕ) (ts : List Tree) → total_size (map (Alt i) ts) ≡ total_size ts + length ts
size_alt i [] = omega arith
size_alt i (t ∷ ts) = let h = size_alt i ts in omega arith

-- each tree of an optional part is one node more
pub size_present : (ts : List Tree) → total_size (map Present ts) ≡ total_size ts + length ts
size_present [] = omega arith
size_present (t ∷ ts) = let h = size_present ts in omega arith

-- the first of the trees has no more nodes than all
pub size_first : (ts : List Tree) → total_size (take 1 ts) ≤ total_size ts
size_first [] = omega arith
size_first (t ∷ ts) = omega arith

-- how many nodes a plain rule with this row makes itself
abbrev pub added : Row → ℕ
added (Seq parts) = 1
added (If parts k y) = 1
added (Many x) = 1
added (ListOf x t) = 1
added (List1 x t) = 1
added _ = 0

-- what a plain rule gives
pub plain_size : (row : Row) (ts : List Tree) → total_size (plain row ts) ≡ total_size ts + added row
plain_size (Seq parts) ts = omega (arith, size_trees ts)
plain_size (If parts k y) ts = omega (arith, size_trees ts)
plain_size (Many x) ts = omega (arith, size_trees ts)
plain_size (ListOf x t) ts = omega (arith, size_trees ts)
plain_size (List1 x t) ts = omega (arith, size_trees ts)
plain_size (Tail x s) ts = omega arith
plain_size (First parts) ts = omega arith
plain_size (Opt x) ts = omega arith
plain_size (Bytes b) ts = omega arith
plain_size (OneOf c) ts = omega arith
plain_size (NotNext c) ts = omega arith
plain_size (Run c) ts = omega arith
plain_size (Past b) ts = omega arith

added_le : (row : Row) → added row ≤ 1
added_le (Seq parts) = omega arith
added_le (If parts k y) = omega arith
added_le (Many x) = omega arith
added_le (ListOf x t) = omega arith
added_le (List1 x t) = omega arith
added_le (Tail x s) = omega arith
added_le (First parts) = omega arith
added_le (Opt x) = omega arith
added_le (Bytes b) = omega arith
added_le (OneOf c) = omega arith
added_le (NotNext c) = omega arith
added_le (Run c) = omega arith
added_le (Past b) = omega arith

-- what a shape makes of trees has at most one node more
pub formed_size : (text : List ℕ) (row : Row) (shape : Shape) (p : ℕ) (ts : List Tree) (ends : List ℕ) → total_size (formed text row shape p ts ends) ≤ 1 + total_size ts
formed_size text row Silent p ts ends = omega arith
formed_size text row Marked p ts ends = omega arith
formed_size text row (Kept k) p ts ends = omega arith
formed_size text row Line p ts ends = omega arith
formed_size text row Joined p ts ends = omega arith
formed_size text row Inner p ts ends = omega (arith, size_first ts)
formed_size text row Plain p ts ends = omega (arith, plain_size row ts, added_le row)
