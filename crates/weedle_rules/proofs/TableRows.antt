-- The table's rules name no others: weedle2's rules read none of today's.
use Rattle.std.proofs.Common.{◌≡◌, ℕ, zero, suc, ◌<◌, List, [], ◌∷◌, get_or, slice_get, slice_index, Some, sym, Bool, true, false, ◌&&◌, refl, subst, arith}
use Rattle.std.specs.Prelude.{nat_lt}
use borrow.Author.Tests.{ltb-true}
use Rattle.weedle_grammar.specs.written.Bound.{table_count, rule_count}
use Rattle.weedle_grammar.specs.Rows.{Row, Bytes, OneOf, NotNext, Run, Past, Seq, First, Opt, Many, ListOf, List1, Tail, If}
use Rattle.weedle_grammar.specs.Entry.{Entry, entry_at}
use Rattle.weedle_grammar.specs.written.Table.{table, row_of}
use Rattle.weedle_grammar.proofs.Leaves.{both}

-- the rows of the first so many entries pass, and there are so many
abbrev pub first_rows : (Row → Bool) → ℕ → List Entry → Bool
first_rows test zero es = true
first_rows test (suc n) [] = false
first_rows test (suc n) (e ∷ es) = test e.row && first_rows test n es

row_at : (test : Row → Bool) (n : ℕ) (es : List Entry) (r : ℕ) → first_rows test n es ≡ true → r < n → test (entry_at es r).row ≡ true
row_at test zero es r h l = absurd (omega arith)
row_at test (suc n) [] r h l = cc
row_at test (suc n) (e ∷ es) zero h l = (both _ _ h).0
row_at test (suc n) (e ∷ es) (suc r) h l = row_at test n es r (both _ _ h).1 (omega arith)

-- a rule of the table is a rule of the grammar
pub among_all : {r : ℕ} → r < table_count → r < rule_count
among_all l = omega arith

-- the numbers are of the table's rules
abbrev pub are_low : List ℕ → Bool
are_low [] = true
are_low (x ∷ xs) = nat_lt x table_count && are_low xs

abbrev pub names_low : Row → Bool
names_low (Bytes b) = true
names_low (OneOf c) = true
names_low (NotNext c) = true
names_low (Run c) = true
names_low (Past b) = true
names_low (Seq parts) = are_low parts
names_low (First parts) = are_low parts
names_low (Opt x) = nat_lt x table_count
names_low (Many x) = nat_lt x table_count
names_low (ListOf x t) = nat_lt x table_count && nat_lt t table_count
names_low (List1 x t) = nat_lt x table_count && nat_lt t table_count
names_low (Tail x s) = nat_lt x table_count && nat_lt s table_count
names_low (If parts k y) = are_low parts && nat_lt y table_count

-- the table passes: its rules read no others
pub table_low : {r : ℕ} {row : Row} → r < table_count → row_of r ≡ row → names_low row ≡ true
table_low {r} l e = subst (λ row. names_low row ≡ true) e (row_at names_low table_count table r refl l)

lt : (a b : ℕ) → nat_lt a b ≡ true → a < b
lt a b h = omega (arith, ltb-true)

pub low_at : (ns : List ℕ) (i : ℕ) → are_low ns ≡ true → get_or ns i 0 < table_count
low_at [] i h = omega arith
low_at (n ∷ ns) zero h = lt n table_count (both (nat_lt n table_count) (are_low ns) h).0
low_at (n ∷ ns) (suc i) h = low_at ns i (both (nat_lt n table_count) (are_low ns) h).1

-- the part of a number
pub get_low : (ns : List ℕ) (i : ℕ) {x : ℕ} → are_low ns ≡ true → slice_get ns i ≡ Some x → x < table_count
get_low [] i h e = cc
get_low (n ∷ ns) zero {x} h e = let s : n ≡ x = cc in subst (λ z. z < table_count) s (lt n table_count (both (nat_lt n table_count) (are_low ns) h).0)
get_low (n ∷ ns) (suc i) h e = get_low ns i (both (nat_lt n table_count) (are_low ns) h).1 e

-- all parts of a row
pub seq_low : {r : ℕ} {parts : List ℕ} → r < table_count → row_of r ≡ Seq parts → are_low parts ≡ true
seq_low l e = table_low l e

pub first_low : {r : ℕ} {parts : List ℕ} → r < table_count → row_of r ≡ First parts → are_low parts ≡ true
first_low l e = table_low l e

pub if_low : {r k y : ℕ} {parts : List ℕ} → r < table_count → row_of r ≡ If parts k y → are_low parts ≡ true
if_low {y = y} {parts = parts} l e = (both (are_low parts) (nat_lt y table_count) (table_low l e)).0

-- what a look at a part of the row says
pub part_is : {x : ℕ} (parts : List ℕ) (i : ℕ) → x ≡ slice_index parts i → get_or parts i 0 < table_count → x < table_count
part_is parts i v l = subst (λ z. z < table_count) (sym v) l

pub seq_part : {r : ℕ} {parts : List ℕ} → r < table_count → row_of r ≡ Seq parts → (i : ℕ) → get_or parts i 0 < table_count
seq_part {parts = parts} l e i = low_at parts i (table_low l e)

pub first_part : {r : ℕ} {parts : List ℕ} → r < table_count → row_of r ≡ First parts → (i : ℕ) → get_or parts i 0 < table_count
first_part {parts = parts} l e i = low_at parts i (table_low l e)

pub if_part : {r k y : ℕ} {parts : List ℕ} → r < table_count → row_of r ≡ If parts k y → (i : ℕ) → get_or parts i 0 < table_count
if_part {parts = parts} l e i = low_at parts i (both _ _ (table_low l e)).0

pub if_last : {r k y : ℕ} {parts : List ℕ} → r < table_count → row_of r ≡ If parts k y → y < table_count
if_last {y = y} l e = lt y table_count (both _ _ (table_low l e)).1

pub opt_part : {r x : ℕ} → r < table_count → row_of r ≡ Opt x → x < table_count
opt_part {x = x} l e = lt x table_count (table_low l e)

pub many_part : {r x : ℕ} → r < table_count → row_of r ≡ Many x → x < table_count
many_part {x = x} l e = lt x table_count (table_low l e)

pub list_part : {r x t : ℕ} → r < table_count → row_of r ≡ ListOf x t → x < table_count
list_part {x = x} l e = lt x table_count (both _ _ (table_low l e)).0

pub list_tail : {r x t : ℕ} → r < table_count → row_of r ≡ ListOf x t → t < table_count
list_tail {t = t} l e = lt t table_count (both _ _ (table_low l e)).1

pub list1_part : {r x t : ℕ} → r < table_count → row_of r ≡ List1 x t → x < table_count
list1_part {x = x} l e = lt x table_count (both _ _ (table_low l e)).0

pub list1_tail : {r x t : ℕ} → r < table_count → row_of r ≡ List1 x t → t < table_count
list1_tail {t = t} l e = lt t table_count (both _ _ (table_low l e)).1

pub tail_part : {r x s : ℕ} → r < table_count → row_of r ≡ Tail x s → x < table_count
tail_part {x = x} l e = lt x table_count (both _ _ (table_low l e)).0

pub tail_mark : {r x s : ℕ} → r < table_count → row_of r ≡ Tail x s → s < table_count
tail_mark {s = s} l e = lt s table_count (both _ _ (table_low l e)).1
