-- How many looks a row takes at most.
use Rattle.std.proofs.Common.{◌≡◌, ℕ, suc, ◌<◌, List, [], ◌∷◌, length, get_or, Bool, true, false, refl, arith}
use Rattle.std.specs.Prelude.{◌&&◌, nat_lt}
use borrow.Author.Tests.{ltb-true}
use Rattle.weedle_grammar.specs.Rows.{Row, Bytes, OneOf, NotNext, Run, Past, Seq, First, Opt, Many, ListOf, List1, Tail, If}
use Rattle.weedle_grammar.specs.written.Table.{row_of, shape_of}
use Rattle.weedle_grammar.specs.Meaning.{Shape, Silent, Marked, Kept, Line, Joined, Inner, Plain}
use Rattle.weedle_grammar.proofs.Takes.{takes}
use Rattle.weedle_grammar.specs.written.Bound.{rule_count}
use Rattle.weedle_rules.specs.written.Bound.{most_reads}
use Rattle.weedle_grammar.proofs.Leaves.{both}
use Rattle.weedle_rules.proofs.RowTests.{row_passes}

-- one at least, and fewer than so many
abbrev pub is_some_below : ℕ → List ℕ → Bool
is_some_below k [] = false
is_some_below k (x ∷ xs) = nat_lt (suc (length xs)) k

abbrev pub is_marked : Shape → Bool
is_marked Marked = true
is_marked _ = false

abbrev pub is_plain : Shape → Bool
is_plain Plain = true
is_plain _ = false

-- an optional mark that takes a byte
abbrev pub switches : Row → Shape → Bool
switches (Opt x) shape = is_plain shape && (is_marked (shape_of x) && takes x)
switches _ shape = false

-- a row has one part at least, or one byte, and few
abbrev pub is_small : Row → Bool
is_small (Bytes b) = is_some_below most_reads b
is_small (Past b) = is_some_below most_reads b
is_small (Seq parts) = is_some_below (suc most_reads) parts
is_small (First parts) = is_some_below (suc most_reads) parts
is_small (If parts k y) = is_some_below most_reads parts && (nat_lt k (length parts) && switches (row_of (get_or parts k 0)) (shape_of (get_or parts k 0)))
is_small _ = true

-- each row of the grammar is small
pub small : {r : ℕ} {row : Row} → r < rule_count → row_of r ≡ row → is_small row ≡ true
small l e = row_passes is_small refl l e

some_below : (k : ℕ) (xs : List ℕ) → is_some_below k xs ≡ true → (0 < length xs) × (length xs < k)
some_below k [] h = cc
some_below k (x ∷ xs) h = (omega arith, omega (arith, ltb-true))

pub bytes_few : {r : ℕ} {b : List ℕ} → r < rule_count → row_of r ≡ Bytes b → (0 < length b) × (length b < most_reads)
bytes_few {b = b} l e = some_below most_reads b (small l e)

pub past_few : {r : ℕ} {b : List ℕ} → r < rule_count → row_of r ≡ Past b → (0 < length b) × (length b < most_reads)
past_few {b = b} l e = some_below most_reads b (small l e)

pub seq_few : {r : ℕ} {parts : List ℕ} → r < rule_count → row_of r ≡ Seq parts → (0 < length parts) × (length parts < suc most_reads)
seq_few {parts = parts} l e = some_below (suc most_reads) parts (small l e)

pub first_few : {r : ℕ} {parts : List ℕ} → r < rule_count → row_of r ≡ First parts → (0 < length parts) × (length parts < suc most_reads)
first_few {parts = parts} l e = some_below (suc most_reads) parts (small l e)

marked : (s : Shape) → is_marked s ≡ true → s ≡ Marked
marked Marked h = refl
marked Silent h = cc
marked (Kept k) h = cc
marked Line h = cc
marked Joined h = cc
marked Inner h = cc
marked Plain h = cc

plain_shape : (s : Shape) → is_plain s ≡ true → s ≡ Plain
plain_shape Plain h = refl
plain_shape Marked h = cc
plain_shape Silent h = cc
plain_shape (Kept k) h = cc
plain_shape Line h = cc
plain_shape Joined h = cc
plain_shape Inner h = cc

-- the part that a condition looks at is an optional mark that takes a byte
pub record Switch (s : ℕ) : Type 0 where
  pub x : ℕ
  pub row_is : row_of s ≡ Opt x
  pub shape_is : shape_of s ≡ Plain
  pub mark_is : shape_of x ≡ Marked
  pub takes_it : takes x ≡ true

switch_by : (row : Row) (s : ℕ) → row_of s ≡ row → switches row (shape_of s) ≡ true → Switch s
switch_by (Opt x) s e h = let a = both _ _ h in let b = both _ _ a.1 in
    record { x = x; row_is = e; shape_is = plain_shape _ a.0; mark_is = marked _ b.0; takes_it = b.1 }
switch_by (Bytes b) s e h = cc
switch_by (OneOf b) s e h = cc
switch_by (NotNext b) s e h = cc
switch_by (Run b) s e h = cc
switch_by (Past b) s e h = cc
switch_by (Seq b) s e h = cc
switch_by (First b) s e h = cc
switch_by (Many b) s e h = cc
switch_by (ListOf b c) s e h = cc
switch_by (List1 b c) s e h = cc
switch_by (Tail b c) s e h = cc
switch_by (If b c d) s e h = cc

pub if_switch : {r k y : ℕ} {parts : List ℕ} → r < rule_count → row_of r ≡ If parts k y → (length parts < most_reads) × (k < length parts) × Switch (get_or parts k 0)
if_switch {k = k} {parts = parts} l e =
    let h : (is_some_below most_reads parts ≡ true) × (nat_lt k (length parts) && switches (row_of (get_or parts k 0)) (shape_of (get_or parts k 0)) ≡ true) = both _ _ (small l e) in
    let b : (nat_lt k (length parts) ≡ true) × (switches (row_of (get_or parts k 0)) (shape_of (get_or parts k 0)) ≡ true) = both _ _ h.1 in
    ((some_below most_reads parts h.0).1, omega (arith, ltb-true, b.0), switch_by (row_of (get_or parts k 0)) (get_or parts k 0) refl b.1)
