-- A grammar in which each rule reads only rules of a smaller rank before a byte is taken.
use Rattle.std.proofs.Common.{ℕ, List, [], ◌∷◌, Bool, true, false, ◌&&◌, ◌||◌}
use Rattle.std.specs.Prelude.{nat_lt, not}
use Rattle.weedle_grammar.specs.Rows.{Row, Bytes, OneOf, NotNext, Run, Past, Seq, First, Opt, Many, ListOf, List1, Tail, If}

module _ (rank : ℕ → ℕ) (takes : ℕ → Bool) where
  -- one of the rules takes a byte
  abbrev pub some_takes : List ℕ → Bool
  some_takes [] = false
  some_takes (x ∷ xs) = takes x || some_takes xs

  -- each of the rules takes a byte
  abbrev pub each_takes : List ℕ → Bool
  each_takes [] = true
  each_takes (x ∷ xs) = takes x && each_takes xs

  -- until one takes a byte, the rules are of ranks below k
  abbrev pub low_parts : ℕ → List ℕ → Bool
  low_parts k [] = true
  low_parts k (x ∷ xs) = nat_lt (rank x) k && (takes x || low_parts k xs)

  -- the rules are of ranks below k
  abbrev pub all_low : ℕ → List ℕ → Bool
  all_low k [] = true
  all_low k (x ∷ xs) = nat_lt (rank x) k && all_low k xs

  -- the row of a rule of rank k
  abbrev pub is_low : ℕ → Row → Bool
  is_low k (Bytes b) = true
  is_low k (OneOf c) = true
  is_low k (NotNext c) = true
  is_low k (Run c) = true
  is_low k (Past b) = true
  is_low k (Seq parts) = low_parts k parts
  is_low k (First parts) = all_low k parts
  is_low k (Opt x) = nat_lt (rank x) k
  is_low k (Many x) = nat_lt (rank x) k
  is_low k (ListOf x t) = nat_lt (rank x) k && (takes x || nat_lt (rank t) k)
  is_low k (List1 x t) = nat_lt (rank x) k && (takes x || nat_lt (rank t) k)
  is_low k (Tail x s) = nat_lt (rank s) k
  is_low k (If parts i y) = low_parts k parts && (some_takes parts || nat_lt (rank y) k)

  -- what the row reads takes a byte
  abbrev pub row_takes : Row → Bool
  row_takes (Bytes []) = false
  row_takes (Bytes (b ∷ bs)) = true
  row_takes (OneOf c) = true
  row_takes (NotNext c) = false
  row_takes (Run c) = false
  row_takes (Past []) = false
  row_takes (Past (b ∷ bs)) = true
  row_takes (Seq parts) = some_takes parts
  row_takes (First parts) = each_takes parts
  row_takes (Opt x) = false
  row_takes (Many x) = false
  row_takes (ListOf x t) = false
  row_takes (List1 x t) = takes x || takes t
  row_takes (Tail x s) = false
  row_takes (If parts i y) = some_takes parts

  -- a rule's rank is above those that its row reads first, and it takes a byte only where its row does
  abbrev pub is_ranked : ℕ → Row → Bool
  is_ranked r row = is_low (rank r) row && (not (takes r) || row_takes row)
