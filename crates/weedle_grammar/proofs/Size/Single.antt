-- A rule gives at most one tree, unless its row is a tail.
use Rattle.std.proofs.Common.{◌≡◌, ℕ, ◌≤◌, List, [], ◌∷◌, map, take, drop, length, Bool, true, false, Option, Some, None, refl, sym, subst, arith}
use Rattle.weedle_grammar.specs.Rows.{run_length, Row, Bytes, OneOf, NotNext, Run, Past, Seq, First, Opt, Many, ListOf, List1, Tail, If}
use Rattle.weedle_grammar.specs.Trees.{Tree, Alt, Present, Outcome, Fails, Gives}
use Rattle.weedle_grammar.specs.Meaning.{Grammar, Shape, Silent, Marked, Kept, Line, Joined, Inner, Plain, plain, Raw, Breaks, Yields, leaf, ReadsBy, ReadsRow, ReadsFirst, by_row, by_bytes, by_one, by_not_next, by_run, by_past, by_seq, by_first, by_opt, many_end, many_stuck, many_more, list_none, list_more, list1_fails, list1_more, tail_end, tail_stuck, tail_back, tail_more, if_fails, if_absent, if_present, first_none, first_here, first_next, raw_of, opted, shaped}
use Rattle.weedle_grammar.proofs.Leaves.{both}
use Rattle.weedle_grammar.proofs.Size.Slim.{is_flat, all_flat, is_short}

-- at most one tree
abbrev pub OutSingle : Outcome → Type 0
OutSingle Fails = Unit {0}
OutSingle (Gives ts e) = length ts ≤ 1

-- of what a row yields
abbrev RawSingle : Raw → Type 0
RawSingle Breaks = Unit {0}
RawSingle (Yields ts ends e) = length ts ≤ 1

-- a plain rule with this row passes on the trees that the row gave
abbrev passes_on : Row → Bool
passes_on (Seq parts) = false
passes_on (If parts k y) = false
passes_on (Many x) = false
passes_on (ListOf x t) = false
passes_on (List1 x t) = false
passes_on (Tail x s) = false
passes_on _ = true

take_single : (ts : List Tree) → length (take 1 ts) ≤ 1
take_single [] = omega arith
take_single (t ∷ ts) = omega arith

-- a plain rule whose row isn't a tail
plain_single : (row : Row) (ts : List Tree) → is_flat row ≡ true → (passes_on row ≡ true → length ts ≤ 1) → length (plain row ts) ≤ 1
plain_single (Seq parts) ts f h = omega arith
plain_single (If parts k y) ts f h = omega arith
plain_single (Many x) ts f h = omega arith
plain_single (ListOf x t) ts f h = omega arith
plain_single (List1 x t) ts f h = omega arith
plain_single (Tail x s) ts f h = cc
plain_single (First parts) ts f h = h refl
plain_single (Opt x) ts f h = h refl
plain_single (Bytes b) ts f h = h refl
plain_single (OneOf c) ts f h = h refl
plain_single (NotNext c) ts f h = h refl
plain_single (Run c) ts f h = h refl
plain_single (Past b) ts f h = h refl

-- a rule of any shape
shaped_single : (text : List ℕ) (row : Row) (shape : Shape) (p : ℕ) (w : Raw) → is_flat row ≡ true → (passes_on row ≡ true → RawSingle w)
    → OutSingle (shaped text row shape p w)
shaped_single text row shape p Breaks f h = tt
shaped_single text row Silent p (Yields ts ends e) f h = omega arith
shaped_single text row Marked p (Yields ts ends e) f h = omega arith
shaped_single text row (Kept k) p (Yields ts ends e) f h = omega arith
shaped_single text row Line p (Yields ts ends e) f h = omega arith
shaped_single text row Joined p (Yields ts ends e) f h = omega arith
shaped_single text row Inner p (Yields ts ends e) f h = take_single ts
shaped_single text row Plain p (Yields ts ends e) f h = plain_single row ts f h

length_map : (f : Tree → Tree) (ts : List Tree) → length (map f ts) ≡ length ts
length_map f [] = refl
length_map f (t ∷ ts) = let h = length_map f ts in omega arith

map_single : (f : Tree → Tree) (ts : List Tree) → length ts ≤ 1 → length (map f ts) ≤ 1
map_single f ts h = omega (arith, length_map f ts)

-- a row without parts, an optional rule, a choice
leaf_single : (p : ℕ) (t : Option ℕ) → RawSingle (leaf p t)
leaf_single p None = tt
leaf_single p (Some k) = omega arith

opted_single : (p : ℕ) (o : Outcome) → OutSingle o → RawSingle (opted p o)
opted_single p Fails h = omega arith
opted_single p (Gives ts e) h = map_single Present ts h

raw_single : (o : Outcome) → OutSingle o → RawSingle (raw_of o)
raw_single Fails h = tt
raw_single (Gives ts e) h = h

module _ (G : Grammar) (text : List ℕ) (short : (r : ℕ) → is_short G.row (G.row r) ≡ true) where
  mutual
    -- a rule whose row isn't a tail gives at most one tree
    pub single : {r p : ℕ} {o : Outcome} → ReadsBy G text r p o → is_flat (G.row r) ≡ true → OutSingle o
    single {r} {p} (by_row {w = w} d e) f = subst OutSingle (sym e) (shaped_single text (G.row r) (G.shape r) p w f (row_single d (short r)))

    -- so does a row that passes trees on
    row_single : {row : Row} {p : ℕ} {w : Raw} → ReadsRow G text row p w → is_short G.row row ≡ true → passes_on row ≡ true → RawSingle w
    row_single {p = p} (by_bytes e) h n = subst RawSingle (sym e) (leaf_single p _)
    row_single {p = p} (by_one e) h n = subst RawSingle (sym e) (leaf_single p _)
    row_single {p = p} (by_not_next e) h n = subst RawSingle (sym e) (leaf_single p _)
    row_single {p = p} (by_run {c = c} e) h n = subst RawSingle (sym e) (leaf_single p (Some (run_length c (drop p text))))
    row_single {p = p} (by_past e) h n = subst RawSingle (sym e) (leaf_single p _)
    row_single (by_first {o = o} d e) h n = subst RawSingle (sym e) (raw_single o (first_single d h))
    row_single {p = p} (by_opt {o = o} d e) h n = subst RawSingle (sym e) (opted_single p o (single d h))
    row_single (by_seq d e) h n = cc
    row_single (many_end d e) h n = cc
    row_single (many_stuck d s e) h n = cc
    row_single (many_more d m t e) h n = cc
    row_single (list_none d e) h n = cc
    row_single (list_more d m e) h n = cc
    row_single (list1_fails d e) h n = cc
    row_single (list1_more d m e) h n = cc
    row_single (tail_end d e) h n = cc
    row_single (tail_stuck d s e) h n = cc
    row_single (tail_back d s m e) h n = cc
    row_single (tail_more d s m t e) h n = cc
    row_single (if_fails d e) h n = cc
    row_single (if_absent d g e) h n = cc
    row_single (if_present d g m e) h n = cc

    -- and a choice
    first_single : {rs : List ℕ} {i p : ℕ} {o : Outcome} → ReadsFirst G text rs i p o → all_flat G.row rs ≡ true → OutSingle o
    first_single (first_none e) h = subst OutSingle (sym e) tt
    first_single {i = i} (first_here {ts = ts} d e) h = subst OutSingle (sym e) (map_single (Alt i) ts (single d (both _ _ h).0))
    first_single (first_next d m) h = first_single m (both _ _ h).1
