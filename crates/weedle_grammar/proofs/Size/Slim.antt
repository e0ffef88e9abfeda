-- A test of a rule's row and shape, on which the bound of sizes holds.
use Rattle.std.proofs.Common.{ℕ, List, [], ◌∷◌, length, Bool, true, false, ◌&&◌, ◌||◌}
use Rattle.std.specs.Prelude.{nat_le}
use Rattle.weedle_grammar.specs.Rows.{Row, Seq, First, Opt, Many, ListOf, Tail, If}
use Rattle.weedle_grammar.specs.Meaning.{Shape}
use Rattle.weedle_grammar.specs.Size.{is_silent}

-- a rule with this row gives at most one tree
abbrev pub is_flat : Row → Bool
is_flat (Tail x s) = false
is_flat _ = true

-- all the rules do
abbrev pub all_flat : (ℕ → Row) → List ℕ → Bool
all_flat row_of [] = true
all_flat row_of (x ∷ xs) = is_flat (row_of x) && all_flat row_of xs

-- at most eight parts, and what passes on the trees of a rule passes on one
abbrev pub is_short : (ℕ → Row) → Row → Bool
is_short row_of (Seq parts) = nat_le (length parts) 8
is_short row_of (If parts k y) = nat_le (length parts) 7
is_short row_of (First parts) = all_flat row_of parts
is_short row_of (Opt x) = is_flat (row_of x)
is_short row_of _ = true

-- where it takes nothing, it gives no item and no tree except for an absent part's
abbrev pub is_thin : (ℕ → Bool) → Row → Bool
is_thin takes (Opt x) = takes x
is_thin takes (Many x) = true
is_thin takes (ListOf x t) = takes x
is_thin takes (Tail x s) = true
is_thin takes _ = false

-- a rule takes a byte, or gives no tree, or has a thin row; and its row is short
abbrev pub is_slim : (ℕ → Row) → (ℕ → Bool) → ℕ → Shape → Row → Bool
is_slim row_of takes r shape row = (takes r || (is_silent shape || is_thin takes row)) && is_short row_of row
