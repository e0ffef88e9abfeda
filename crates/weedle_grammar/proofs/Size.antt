-- How many nodes what a rule gives has, at the grammar's table.
use Rattle.std.proofs.Common.{◌≡◌, inl, inr, ℕ, zero, suc, ◌+◌, ◌*◌, ◌<◌, ◌≤◌, List, [], ◌∷◌, ◌++◌, length, Bool, true, false, refl, subst, arith}
use Rattle.std.specs.Prelude.{◌&&◌, ◌||◌, not}
use Rattle.std.proofs.lemmas.Bool.{cases_lt}
use Rattle.std.proofs.lemmas.List.Filters.{length-filter_both}
use Rattle.weedle_grammar.specs.Rows.{Row, Bytes, OneOf, NotNext, Run, Past, Seq, First, Opt, Many, ListOf, List1, Tail, If}
use Rattle.weedle_grammar.specs.Trees.{Tree, Outcome, Fails, Gives}
use Rattle.weedle_grammar.specs.Meaning.{Shape, ReadsBy, ReadsFirst, raw_of, shaped, first_none}
use Rattle.weedle_grammar.specs.Entry.{Entry, entry_at}
use Rattle.weedle_grammar.specs.written.Table.{table, webidl, row_of}
use Rattle.weedle_grammar.specs.Size.{total_size, in_turn, gives, giving, IsSmallWhereEmpty, HasFewParts, IsBounded}
use Rattle.weedle_grammar.proofs.Inversion.{choice_of}
use Rattle.weedle_grammar.proofs.Leaves.{both}
use Rattle.weedle_grammar.proofs.Takes.{takes}
use Rattle.weedle_grammar.proofs.Checked.{ranked}
use Rattle.weedle_grammar.proofs.Entries.{all_pass, passes}
use Rattle.weedle_grammar.proofs.Size.Slim.{is_short, is_slim}
use Rattle.weedle_grammar.proofs.Size.Empty.{thin}
use Rattle.weedle_grammar.proofs.Size.Sums.{at_most}
use Rattle.weedle_grammar.proofs.Size.Bound.{out_costs, weighs}
pub mod Lists
pub mod Slim
pub mod Single
pub mod Empty
pub mod Sums
pub mod Bound

-- the entry of rule r is slim
abbrev pub is_slim_entry : ℕ → Entry → Bool
is_slim_entry r e = is_slim row_of takes r e.shape e.row

-- the table is: the test is computed here
pub all_slim_here : all_pass is_slim_entry 0 table ≡ true
all_slim_here = refl

or_true : (b : Bool) → (b || true) && true ≡ true
or_true true = refl
or_true false = refl

-- each rule is slim
slim : (r : ℕ) → is_slim row_of takes r (webidl.shape r) (webidl.row r) ≡ true
slim = passes is_slim_entry (λ n r. rw or_true refl) all_slim_here

-- past its end the table has a choice of nothing, which fails
past_end : (es : List Entry) (r : ℕ) → length es ≤ r → (entry_at es r).row ≡ First []
past_end [] r h = refl
past_end (e ∷ es) zero h = absurd (omega arith)
past_end (e ∷ es) (suc r) h = past_end es r (omega arith)

no_choice : {text : List ℕ} {i p : ℕ} {o : Outcome} → ReadsFirst webidl text [] i p o → o ≡ Fails
no_choice (first_none e) = e

nothing : (text : List ℕ) (ts : List Tree) (row : Row) (shape : Shape) (p e : ℕ) (o : Outcome) → o ≡ Fails
    → Gives ts e ≡ shaped text row shape p (raw_of o) → ⊥
nothing text ts row shape p e Fails h g = cc
nothing text ts row shape p e (Gives us q) h g = cc

table_length : length table ≤ 526
table_length = omega arith

-- what gives something is one of the table's rules
few : (text : List ℕ) (r p e : ℕ) (ts : List Tree) → ReadsBy webidl text r p (Gives ts e) → r < 526
few text r p e ts d = elim (cases_lt r 526) [
  | inl l ↦ l
  | inr l ↦ absurd (let c = choice_of (past_end table r (let m = table_length in omega arith)) d in nothing text ts (First []) (webidl.shape r) p e c.0 (no_choice c.1) c.2)
]

-- what takes nothing has at most two nodes
pub small_where_empty : (text : List ℕ) (r p : ℕ) → IsSmallWhereEmpty text r p
small_where_empty text r p ts d = let a : total_size ts ≤ 1 = thin webidl text takes ranked slim d refl in omega arith

-- no more than 10,000 nodes for each byte, and two
pub bounded : (text : List ℕ) (r p : ℕ) → IsBounded text r p
bounded text r p ts e d = out_costs webidl text takes ranked slim (few text) r p (Gives ts e) d (weighs webidl text takes ranked slim (few text) d)

-- no more of the rules give trees than there are
giving_le : (rs : List ℕ) → length (giving rs) ≤ length rs
giving_le rs = omega (arith, length-filter_both gives (λ r. not (gives r)) (λ r. refl) rs)

length_last : (rs : List ℕ) (y : ℕ) → length (rs ++ y ∷ []) ≡ suc (length rs)
length_last [] y = refl
length_last (r ∷ rs) y = let h = length_last rs y in omega arith

-- a short row
few_of : (row : Row) → is_short row_of row ≡ true → length (giving (in_turn row)) ≤ 8
few_of (Seq parts) h = let a = at_most (length parts) 8 h in omega (arith, giving_le parts)
few_of (If parts k y) h = let a = at_most (length parts) 7 h in omega (arith, giving_le (parts ++ y ∷ []), length_last parts y)
few_of (Bytes b) h = omega arith
few_of (OneOf c) h = omega arith
few_of (NotNext c) h = omega arith
few_of (Run c) h = omega arith
few_of (Past b) h = omega arith
few_of (First parts) h = omega arith
few_of (Opt x) h = omega arith
few_of (Many x) h = omega arith
few_of (ListOf x t) h = omega arith
few_of (List1 x t) h = omega arith
few_of (Tail x s) h = omega arith

-- no more than eight rules that give trees are read one after another
pub few_parts : (r : ℕ) → HasFewParts r
few_parts r = few_of (row_of r) (both _ _ (slim r)).1
