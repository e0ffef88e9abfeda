-- Which rules read a type that is made of others.
use Rattle.std.specs.Prelude.{◌≡◌, ℕ, List, [], ◌∷◌, get_or, length, Bool, true, false, nat_eq, nat_lt, ◌&&◌}
use Rattle.weedle_grammar.specs.Rows.{Row, Seq, First, Opt, Many, ListOf, List1, Tail, If}
use Rattle.weedle_grammar.specs.Meaning.{Shape, Plain, Inner, Kept}
use Rattle.weedle_grammar.specs.written.Table.{row_of, shape_of}
use Rattle.weedle_grammar.specs.written.Table.Symbols.{Q_MARK}

-- a rule of this row and shape reads a type that may be absent, whose rules F has
abbrev pub fits_option : (ℕ → Type 0) → Row → Shape → Type 0
fits_option F (Opt x) Plain = F x
fits_option F _ _ = ⊥

-- the parts of a sequence
abbrev pub list_of : Row → List ℕ
list_of (Seq parts) = parts
list_of (If parts k y) = parts
list_of _ = []

-- the numbers of fields: a field, and those after it; none
abbrev pub then_fits : (ℕ → Type 0) → (List ℕ → Type 0) → List ℕ → Type 0
then_fits F P [] = ⊥
then_fits F P (x ∷ xs) = F x × P xs

abbrev pub end_fits : List ℕ → Type 0
end_fits [] = Unit {0}
end_fits (x ∷ xs) = ⊥

-- a rule of this row and shape reads fields one after another
abbrev pub fits_seq : (List ℕ → Type 0) → Row → Shape → Type 0
fits_seq P (Seq parts) Plain = P parts
fits_seq P _ _ = ⊥

-- the alternatives of a choice
abbrev pub firsts : Row → List ℕ
firsts (First parts) = parts
firsts _ = []

-- a rule of this row and shape is a choice
abbrev pub is_choice : Row → Shape → Bool
is_choice (First parts) Plain = true
is_choice _ _ = false

-- and its alternative of this number reads a type whose rules F has
abbrev pub fits_first : (ℕ → Type 0) → ℕ → Row → Type 0
fits_first F i row = F (get_or (firsts row) i 0)

-- a rule of this row and shape repeats a type whose rules F has
abbrev pub fits_many : (ℕ → Type 0) → Row → Shape → Type 0
fits_many F (Many x) Plain = F x
fits_many F _ _ = ⊥

-- a rule of this row and shape keeps the text of part k
abbrev pub is_kept : ℕ → Row → Shape → Bool
is_kept k (Seq parts) (Kept j) = nat_eq j k && nat_lt k (length parts)
is_kept k _ _ = false

-- a rule of this row and shape reads what follows the items of rule x
abbrev pub fits_tail : ℕ → Row → Shape → Type 0
fits_tail x (Tail y s) Plain = y ≡ x
fits_tail x _ _ = ⊥

-- a rule of this row and shape reads a list of a type whose rules F has
abbrev pub fits_list : (ℕ → Type 0) → Row → Shape → Type 0
fits_list F (ListOf x t) Plain = F x × fits_tail x (row_of t) (shape_of t)
fits_list F _ _ = ⊥

-- a rule of this row and shape reads a list of one item at least
abbrev pub fits_list1 : (ℕ → Type 0) → Row → Shape → Type 0
fits_list1 F (List1 x t) Plain = F x × fits_tail x (row_of t) (shape_of t)
fits_list1 F _ _ = ⊥

-- a rule of this row and shape is an option
abbrev pub is_option : Row → Shape → Type 0
is_option (Opt x) Plain = Unit {0}
is_option _ _ = ⊥

-- a rule of this row and shape reads such a list, and then perhaps a separator, and gives the list alone
abbrev pub fits_non_empty : (ℕ → Type 0) → Row → Shape → Type 0
fits_non_empty F (Seq (l ∷ o ∷ [])) Inner = fits_list1 F (row_of l) (shape_of l) × is_option (row_of o) (shape_of o)
fits_non_empty F _ _ = ⊥

-- a rule that may be absent
abbrev pub optional_fits : (ℕ → Type 0) → ℕ → Type 0
optional_fits F r = fits_option F (row_of r) (shape_of r)

-- a body of F between two brackets
abbrev pub bracket_fits : ℕ → (ℕ → Type 0) → ℕ → List ℕ → Type 0
bracket_fits left F right = then_fits (λ r. r ≡ left) (then_fits F (then_fits (λ r. r ≡ right) end_fits))

-- a body of F, and a question mark that may follow it
abbrev pub may_be_null_fits : (ℕ → Type 0) → List ℕ → Type 0
may_be_null_fits F = then_fits F (then_fits (optional_fits (λ r. r ≡ Q_MARK)) end_fits)
