-- What a frame waits for, and what it comes to.
use Rattle.std.specs.Prelude.{false, ◌^◌, ◌≡◌, ◌≢◌, ◌≤◌, ◌<◌, ◌+◌, ◌-◌, ◌*◌, ◌⊎◌, ℕ, true, List, [], ◌∷◌, length, drop, slice_index, Option, Some, None}
use Rattle.std.proofs.Common.{inl}
use Rattle.weedle_grammar.specs.Rows.{Row, Bytes, OneOf, NotNext, Run, Past, Seq, First, Opt, Many, ListOf, List1, Tail, If}
use Rattle.weedle_grammar.specs.written.Bound.{rule_count}
use Rattle.weedle_grammar.specs.written.Table.{webidl, row_of}
use Rattle.weedle_grammar.proofs.Takes.{takes}
use Rattle.weedle_rules.specs.Cells.{HasEnd, turn_number}
use Rattle.weedle_rules.specs.written.Bound.{most_reads}
use Rattle.weedle_rules.proofs.PartEnds.{Along, Trying}
use Rattle.weedle_rules.proofs.ConditionEnds.{AlongIf, NoteEnds, note_at}
use Rattle.weedle_memo.specs.Entries.{MemoEntry, entry_at, Absent}
use Rattle.weedle_memo.specs.Closure.{Memory, Covered, CoveredStep, IsClosed}
use Rattle.weedle_memo.specs.declared.frame.Frame.{Frame}
use Rattle.weedle_memo.specs.declared.frame.Step.{Step}
use Rattle.weedle_memo.specs.declared.frame.Step.TheVariants.{Needs, Ends}

-- x is the part of this number
abbrev pub IsPart : List ℕ → ℕ → ℕ → Type 0
IsPart parts i x = (i < length parts) × (x ≡ slice_index parts i)

-- by the row of its rule, the frame f waits for rule x at q
abbrev pub WaitsBy : List ℕ → Row → Frame → ℕ → ℕ → Type 0
WaitsBy text (Seq parts) f x q = IsPart parts f.part x × Along webidl text takes f.rule f.place parts (drop f.part parts) q
WaitsBy text (First parts) f x q = IsPart parts f.part x × (q ≡ f.place) × Trying webidl text takes f.rule parts (drop f.part parts) f.part f.place
WaitsBy text (If parts k y) f x q =
    (q ≡ f.end) × ((IsPart parts f.part x × AlongIf webidl text takes f.rule k f.place parts (drop f.part parts) (note_at k f.part f.present) q)
    ⊎ ((length parts ≤ f.part) × (x ≡ y) × NoteEnds webidl text (inl k) parts f.place (Some q) true))
WaitsBy text (Opt y) f x q = (x ≡ y) × (q ≡ f.place)
WaitsBy text (Many y) f x q = ((f.part ≡ 0) × (x ≡ y) × (q ≡ f.place)) ⊎ ((f.part ≡ 1) × (x ≡ f.rule) × (q ≢ f.place) × HasEnd text y f.place (Some q))
WaitsBy text (ListOf y t) f x q = ((f.part ≡ 0) × (x ≡ y) × (q ≡ f.place)) ⊎ ((f.part ≡ 1) × (x ≡ t) × HasEnd text y f.place (Some q))
WaitsBy text (List1 y t) f x q = ((f.part ≡ 0) × (x ≡ y) × (q ≡ f.place)) ⊎ ((f.part ≡ 1) × (x ≡ t) × HasEnd text y f.place (Some q))
WaitsBy text (Tail y s) f x q =
    ((f.part ≡ 0) × (x ≡ s) × (q ≡ f.place)) ⊎ (((f.part ≡ 1) × (x ≡ y) × (q ≢ f.place) × HasEnd text s f.place (Some q))
    ⊎ ((f.part ≡ 2) × (x ≡ f.rule) × ((e : ℕ) × (e ≢ f.place) × HasEnd text s f.place (Some e) × HasEnd text y e (Some q))))
WaitsBy text (Bytes b) f x q = ⊥
WaitsBy text (OneOf c) f x q = ⊥
WaitsBy text (NotNext c) f x q = ⊥
WaitsBy text (Run c) f x q = ⊥
WaitsBy text (Past b) f x q = ⊥

-- the frame f waits for rule x at q, at which it looked (k is 1) or is yet to look (0)
pub record Waits (text : List ℕ) (f : Frame) (x q k : ℕ) : Type 0 where
  pub onward : WaitsBy text (row_of f.rule) f x q
  pub before : turn_number (length text) x q < turn_number (length text) f.rule f.place
  pub low : x < rule_count
  pub within : q ≤ length text
  pub few : f.count ≤ f.part + k
  pub some : k ≤ f.count
  pub part_few : f.part < most_reads

-- a frame is of a rule at a place of the text
pub record IsOpen (text : List ℕ) (f : Frame) : Type 0 where
  pub low : f.rule < rule_count
  pub within : f.place ≤ length text
  pub fits : length text < 2 ^ 63

-- the frame's outcome, which took a look at least
pub record IsOver (text : List ℕ) (f : Frame) (o : Option ℕ) : Type 0 where
  pub right : HasEnd text f.rule f.place o
  pub looked : 0 < f.count
  pub few : f.count ≤ most_reads

abbrev pub IsStep : List ℕ → Frame → Step → Type 0
IsStep text f (Needs x q) = Waits text f x q 0
IsStep text f (Ends o) = IsOver text f o

-- a frame of the same cell, after the same looks
abbrev pub SameCell : Frame → Frame → Type 0
SameCell f g = (g.rule ≡ f.rule) × (g.place ≡ f.place) × (g.count ≡ f.count)

-- a frame at its start
pub record IsFresh (text : List ℕ) (f : Frame) : Type 0 where
  pub opened : IsOpen text f
  pub part_is : f.part ≡ 0
  pub end_is : f.end ≡ f.place
  pub absent : f.present ≡ false
  pub count_is : f.count ≡ 0

-- what a frame tried before it came to place q is known
pub record IsCovered (text : List ℕ) (m : Memory) (f : Frame) (q : ℕ) : Type 0 where
  pub covered : Covered text m (row_of f.rule) f q

-- frames that wait, the one on top first: the top one for rule r at p, each other one for the cell of the one above
abbrev pub AreWaiting : List ℕ → Memory → List Frame → ℕ → ℕ → Type 0
AreWaiting text m [] r p = (r ≡ m.start.rule) × (p ≡ m.start.place)
AreWaiting text m (f ∷ fs) r p = IsOpen text f × Waits text f r p 1 × Absent m.entries f.rule f.place × IsCovered text m f p × AreWaiting text m fs f.rule f.place

-- a state of the reading: the frame on top, what it needs next, and those that wait
pub record IsState (text : List ℕ) (m : Memory) (waiting : List Frame) (f : Frame) (t : Step) : Type 0 where
  pub opened : IsOpen text f
  pub turn : IsStep text f t
  pub absent : Absent m.entries f.rule f.place
  pub others : AreWaiting text m waiting f.rule f.place
  pub tried : CoveredStep text m f t

-- what falls with each step: cells before, and then looks that are left
abbrev pub weight : List ℕ → Frame → ℕ
weight text f = turn_number (length text) f.rule f.place * 64 + (63 - f.count)

-- the entry of a frame with its outcome
abbrev pub entry_for : Frame → Option ℕ → MemoEntry
entry_for f o = entry_at f.rule f.place o

-- a frame whose outcome is known, and those that wait
pub record IsDone (text : List ℕ) (m : Memory) (waiting : List Frame) (f : Frame) (o : Option ℕ) : Type 0 where
  pub opened : IsOpen text f
  pub over : IsOver text f o
  pub absent : Absent m.entries f.rule f.place
  pub others : AreWaiting text m waiting f.rule f.place
  pub tried : IsClosed text m f.rule f.place
