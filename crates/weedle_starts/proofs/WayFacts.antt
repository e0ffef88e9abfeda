-- The table has the rows of all rules, and the gates.
use Rattle.std.proofs.Common.{◌≡◌, ℕ, zero, suc, ◌+◌, ◌<◌, ◌≤◌, List, [], ◌∷◌, length, map, get_or, Bool, true, Option, Some, None, refl, sym, subst, ◌∙◌, ap, arith}
use Rattle.std.specs.Prelude.{nat_le, slice_index, slice_range, ◌&&◌}
use borrow.Author.Tests.{leb-true}
use Rattle.weedle_grammar.specs.Entry.{Entry, entry_at, are_rules}
use Rattle.weedle_grammar.specs.Rows.{Row, Bytes, OneOf, NotNext, Run, Past, Seq, First, Opt, Many, ListOf, List1, Tail, If}
use Rattle.weedle_grammar.specs.written.Bound.{rule_count}
use Rattle.weedle_grammar.specs.written.Table.{table, row_of}
use Rattle.weedle_grammar.proofs.Leaves.{both}
use Rattle.weedle_rules.proofs.PartEnds.{below}
use Rattle.weedle_starts.specs.Starts.{CoversStarts}
use Rattle.weedle_starts.specs.View.{row_view}
use Rattle.weedle_starts.specs.Ways.{AreNumbers, IsWay, option_of, IsGateOf, IsGate}
use Rattle.weedle_starts.specs.declared.row.Row as rows
use Rattle.weedle_starts.specs.declared.row.Row.TheVariants as code
use Rattle.weedle_starts.specs.declared.way.Span.{Span}
use Rattle.weedle_starts.specs.declared.way.Way.{Way}
use Rattle.weedle_starts.specs.declared.way.Way.TheVariants as way
use Rattle.weedle_starts.specs.declared.written.bytes.TheConstants.{BYTES}
use Rattle.weedle_starts.specs.declared.written.first_sets.TheConstants.{FIRST_SETS}
use Rattle.weedle_starts.specs.declared.written.gates.TheConstants.{GATES}
use Rattle.weedle_starts.specs.declared.written.numbers.TheConstants.{NUMBERS}
use Rattle.weedle_starts.specs.declared.written.ways.TheConstants.{WAYS}
use Rattle.weedle_starts.proofs.LaterFacts.{names_rules, named}
use Rattle.weedle_starts.proofs.StartedFacts.{sets_cover}

-- the row of a way
abbrev row_by : Way → Row
row_by (way.Bytes s) = Bytes (slice_range BYTES s.0 s.1)
row_by (way.OneOf c) = OneOf c
row_by (way.NotNext c) = NotNext c
row_by (way.Run c) = Run c
row_by (way.Past s) = Past (slice_range BYTES s.0 s.1)
row_by (way.Seq s) = Seq (slice_range NUMBERS s.0 s.1)
row_by (way.First s) = First (slice_range NUMBERS s.0 s.1)
row_by (way.Opt x) = Opt x
row_by (way.Many x) = Many x
row_by (way.List x t) = ListOf x t
row_by (way.List1 x t) = List1 x t
row_by (way.Tail x t) = Tail x t
row_by (way.If s k y) = If (slice_range NUMBERS s.0 s.1) k y

-- what it names is among what all name
abbrev is_span : ℕ → Span → Bool
is_span most s = nat_le s.0 s.1 && nat_le s.1 most

abbrev has_span : Way → Bool
has_span (way.Bytes s) = is_span (length BYTES) s
has_span (way.Past s) = is_span (length BYTES) s
has_span (way.Seq s) = is_span (length NUMBERS) s
has_span (way.First s) = is_span (length NUMBERS) s
has_span (way.If s k y) = is_span (length NUMBERS) s
has_span (way.OneOf c) = true
has_span (way.NotNext c) = true
has_span (way.Run c) = true
has_span (way.Opt x) = true
has_span (way.Many x) = true
has_span (way.List x t) = true
has_span (way.List1 x t) = true
has_span (way.Tail x t) = true

span : (most : ℕ) (s : Span) → is_span most s ≡ true → (s.0 ≤ s.1) × (s.1 ≤ most)
span most s h = (leb-true s.0 s.1 (both _ _ h).0, leb-true s.1 most (both _ _ h).1)

numbered : (s : Span) → is_span (length NUMBERS) s ≡ true → are_rules (slice_range NUMBERS s.0 s.1) ≡ true → AreNumbers s
numbered s h n = let l = span (length NUMBERS) s h in (l.0, l.1, n)

is_way : (w : Way) → has_span w ≡ true → names_rules (row_by w) ≡ true → IsWay w (row_by w)
is_way (way.Bytes s) h n = (span (length BYTES) s h, refl)
is_way (way.OneOf c) h n = refl
is_way (way.NotNext c) h n = refl
is_way (way.Run c) h n = refl
is_way (way.Past s) h n = (span (length BYTES) s h, refl)
is_way (way.Seq s) h n = (numbered s h n, refl)
is_way (way.First s) h n = (numbered s h n, refl)
is_way (way.Opt x) h n = (below _ _ n, refl)
is_way (way.Many x) h n = (below _ _ n, refl)
is_way (way.List x t) h n = (below _ _ (both _ _ n).0, below _ _ (both _ _ n).1, refl)
is_way (way.List1 x t) h n = (below _ _ (both _ _ n).0, below _ _ (both _ _ n).1, refl)
is_way (way.Tail x t) h n = (below _ _ (both _ _ n).0, below _ _ (both _ _ n).1, refl)
is_way (way.If s k y) h n = (numbered s h (both _ _ n).0, below _ _ (both _ _ n).1, refl)

abbrev its_row : Entry → Row
its_row e = e.row

-- the table's rows are the grammar's: they are compared here
rows_here : map row_by WAYS ≡ map its_row table
rows_here = refl

row_at : (ws : List Way) (es : List Entry) (r : ℕ) (d : Way) → map row_by ws ≡ map its_row es → r < length ws → row_by (get_or ws r d) ≡ (entry_at es r).row
row_at [] es r d h l = absurd (omega arith)
row_at (w ∷ ws) [] r d h l = cc
row_at (w ∷ ws) (e ∷ es) zero d h l = cc
row_at (w ∷ ws) (e ∷ es) (suc r) d h l = let rest : map row_by ws ≡ map its_row es = cc in row_at ws es r d rest (omega arith)

-- their spans are tested here
abbrev all_spans : List Way → Bool
all_spans [] = true
all_spans (w ∷ ws) = has_span w && all_spans ws

spans_here : all_spans WAYS ≡ true
spans_here = refl

span_at : (ws : List Way) (r : ℕ) (d : Way) → all_spans ws ≡ true → r < length ws → has_span (get_or ws r d) ≡ true
span_at [] r d h l = absurd (omega arith)
span_at (w ∷ ws) zero d h l = (both _ _ h).0
span_at (w ∷ ws) (suc r) d h l = span_at ws r d (both _ _ h).1 (omega arith)

ways_long : length WAYS ≡ rule_count
ways_long = refl

pub ways_are : (r : ℕ) → r < rule_count → (d : Way) → IsWay (get_or WAYS r d) (row_of r)
ways_are r l d =
    let is : row_by (get_or WAYS r d) ≡ row_of r = row_at WAYS table r d rows_here (omega (arith, ways_long)) in
    subst (IsWay (get_or WAYS r d)) is (is_way (get_or WAYS r d) (span_at WAYS r d spans_here (omega (arith, ways_long))) (subst (λ z. names_rules z ≡ true) (sym is) (named r)))

-- the rule whose first set is the gate of rule r
abbrev gate_rule : ℕ → Option ℕ → ℕ
gate_rule r (Some y) = y
gate_rule r None = r

abbrev gates_from : ℕ → List Entry → List ℕ
gates_from k [] = []
gates_from k (e ∷ es) = slice_index FIRST_SETS (gate_rule k (option_of e.row)) ∷ gates_from (suc k) es

-- they are compared here
gates_here : GATES ≡ gates_from 0 table
gates_here = refl

gate_at : (es : List Entry) (k i : ℕ) → i < length es → slice_index (gates_from k es) i ≡ slice_index FIRST_SETS (gate_rule (k + i) (option_of (entry_at es i).row))
gate_at [] k i l = absurd (omega arith)
gate_at (e ∷ es) k zero l = let q : k ≡ k + 0 = omega arith in ap (λ z. slice_index FIRST_SETS (gate_rule z (option_of e.row))) q
gate_at (e ∷ es) k (suc i) l =
    let q : suc k + i ≡ k + suc i = omega arith in
    gate_at es (suc k) i (omega arith) ∙ ap (λ z. slice_index FIRST_SETS (gate_rule z (option_of (entry_at es i).row))) q

table_long : length table ≡ rule_count
table_long = refl

option_low : (row : Row) (y : ℕ) → names_rules row ≡ true → option_of row ≡ Some y → y < rule_count
option_low (Opt x) y n e = let s : x ≡ y = cc in subst (λ z. z < rule_count) s (below _ _ n)
option_low (Many x) y n e = let s : x ≡ y = cc in subst (λ z. z < rule_count) s (below _ _ n)
option_low (ListOf x t) y n e = let s : x ≡ y = cc in subst (λ z. z < rule_count) s (below _ _ (both _ _ n).0)
option_low (Tail x s) y n e = let k : s ≡ y = cc in subst (λ z. z < rule_count) k (below _ _ (both _ _ n).1)
option_low (List1 x t) y n e = cc
option_low (Bytes b) y n e = cc
option_low (OneOf c) y n e = cc
option_low (NotNext c) y n e = cc
option_low (Run c) y n e = cc
option_low (Past b) y n e = cc
option_low (Seq parts) y n e = cc
option_low (First parts) y n e = cc
option_low (If parts k x) y n e = cc

gate_of : (r : ℕ) → r < rule_count → (o : Option ℕ) → option_of (row_of r) ≡ o → IsGateOf (slice_index FIRST_SETS (gate_rule r o)) r o
gate_of r l None e = sets_cover r l
gate_of r l (Some y) e = sets_cover y (option_low (row_of r) y (named r) e)

pub gates_are : (r : ℕ) → r < rule_count → IsGate (slice_index GATES r) r
gates_are r l =
    let is : slice_index GATES r ≡ slice_index FIRST_SETS (gate_rule r (option_of (row_of r))) = ap (λ z. slice_index z r) gates_here ∙ gate_at table 0 r (omega (arith, table_long)) ∙ ap (λ z. slice_index FIRST_SETS (gate_rule z (option_of (row_of r)))) (let q : 0 + r ≡ r = omega arith in q) in
    subst (λ z. IsGate z r) (sym is) (gate_of r l (option_of (row_of r)) refl)

-- a row that goes without nothing
pub no_option : (row : rows.Row) → ((x : ℕ) → row ≡ code.Opt x → ⊥) → ((x : ℕ) → row ≡ code.Many x → ⊥) → ((x t : ℕ) → row ≡ code.List x t → ⊥) → ((x s : ℕ) → row ≡ code.Tail x s → ⊥) → option_of (row_view row) ≡ None
no_option (code.Bytes b) o m l t = refl
no_option (code.OneOf c) o m l t = refl
no_option (code.NotNext c) o m l t = refl
no_option (code.Run c) o m l t = refl
no_option (code.Past b) o m l t = refl
no_option (code.Seq parts) o m l t = refl
no_option (code.First parts) o m l t = refl
no_option (code.Opt x) o m l t = absurd (o x refl)
no_option (code.Many x) o m l t = absurd (m x refl)
no_option (code.List x y) o m l t = absurd (l x y refl)
no_option (code.List1 x y) o m l t = refl
no_option (code.Tail x s) o m l t = absurd (t x s refl)
no_option (code.If parts k y) o m l t = refl
