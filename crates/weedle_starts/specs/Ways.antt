-- Rows in the table, and what the byte at a place says of a rule.
use Rattle.std.specs.Prelude.{◌≡◌, ◌<◌, ◌≤◌, ℕ, List, length, slice_range, Option, Some, None, IsTrue}
use Rattle.weedle_grammar.specs.Entry.{are_rules}
use Rattle.weedle_grammar.specs.Rows.{Row, Bytes, OneOf, NotNext, Run, Past, Seq, First, Opt, Many, ListOf, List1, Tail, If}
use Rattle.weedle_grammar.specs.written.Bound.{rule_count}
use Rattle.weedle_grammar.specs.written.Table.{row_of}
use Rattle.weedle_rules.specs.Outcomes.{FailsAt}
use Rattle.weedle_starts.specs.Starts.{CoversStarts}
use Rattle.weedle_starts.specs.Tries.{TriesHere}
use Rattle.weedle_starts.specs.declared.ahead.Ahead.{Ahead}
use Rattle.weedle_starts.specs.declared.ahead.Ahead.TheVariants.{Fails, Empty, Open}
use Rattle.weedle_starts.specs.declared.way.Span.{Span}
use Rattle.weedle_starts.specs.declared.way.Way.{Way}
use Rattle.weedle_starts.specs.declared.way.Way.TheVariants as way
use Rattle.weedle_starts.specs.declared.written.bytes.TheConstants.{BYTES}
use Rattle.weedle_starts.specs.declared.written.numbers.TheConstants.{NUMBERS}

-- bytes of the table are there, and numbers of rules
abbrev pub AreBytes : Span → Type 0
AreBytes s = (s.0 ≤ s.1) × (s.1 ≤ length BYTES)

abbrev pub AreNumbers : Span → Type 0
AreNumbers s = (s.0 ≤ s.1) × (s.1 ≤ length NUMBERS) × IsTrue (are_rules (slice_range NUMBERS s.0 s.1))

-- the way is that of the row, and its numbers are rules'
abbrev pub IsWay : Way → Row → Type 0
IsWay (way.Bytes s) row = AreBytes s × (row ≡ Bytes (slice_range BYTES s.0 s.1))
IsWay (way.OneOf c) row = row ≡ OneOf c
IsWay (way.NotNext c) row = row ≡ NotNext c
IsWay (way.Run c) row = row ≡ Run c
IsWay (way.Past s) row = AreBytes s × (row ≡ Past (slice_range BYTES s.0 s.1))
IsWay (way.Seq s) row = AreNumbers s × (row ≡ Seq (slice_range NUMBERS s.0 s.1))
IsWay (way.First s) row = AreNumbers s × (row ≡ First (slice_range NUMBERS s.0 s.1))
IsWay (way.Opt x) row = (x < rule_count) × (row ≡ Opt x)
IsWay (way.Many x) row = (x < rule_count) × (row ≡ Many x)
IsWay (way.List x t) row = (x < rule_count) × (t < rule_count) × (row ≡ ListOf x t)
IsWay (way.List1 x t) row = (x < rule_count) × (t < rule_count) × (row ≡ List1 x t)
IsWay (way.Tail x t) row = (x < rule_count) × (t < rule_count) × (row ≡ Tail x t)
IsWay (way.If s k y) row = AreNumbers s × (y < rule_count) × (row ≡ If (slice_range NUMBERS s.0 s.1) k y)

-- the rule that a row may go without, and then takes nothing: what it repeats, what a list begins
-- with, what is between items
abbrev pub option_of : Row → Option ℕ
option_of (Opt y) = Some y
option_of (Many y) = Some y
option_of (ListOf y t) = Some y
option_of (Tail y s) = Some s
option_of _ = None

-- the word has the bytes with which can begin what rule r may go without, or else the rule itself
abbrev pub IsGateOf : ℕ → ℕ → Option ℕ → Type 0
IsGateOf word r (Some y) = CoversStarts word y
IsGateOf word r None = CoversStarts word r

abbrev pub IsGate : ℕ → ℕ → Type 0
IsGate word r = IsGateOf word r (option_of (row_of r))

-- rule r fails at p, and all that it tries is tried there
abbrev pub IsPassedOver : List ℕ → ℕ → ℕ → Type 0
IsPassedOver text r p = FailsAt text r p × TriesHere text r p

-- rule r takes nothing at p, since what it may go without is passed over
abbrev pub GoesWithout : List ℕ → ℕ → ℕ → Type 0
GoesWithout text r p = (y : ℕ) × (option_of (row_of r) ≡ Some y) × IsPassedOver text y p

-- what the byte at p says of rule r
abbrev pub IsAhead : List ℕ → ℕ → ℕ → Ahead → Type 0
IsAhead text r p Fails = IsPassedOver text r p
IsAhead text r p Empty = GoesWithout text r p
IsAhead text r p Open = Unit {0}
