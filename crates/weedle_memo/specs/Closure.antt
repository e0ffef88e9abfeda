-- What is known of all that a rule tries: where it is read, it is known.
use Rattle.std.specs.Prelude.{◌≡◌, ◌≤◌, ◌<◌, ◌⊎◌, ℕ, false, List, [], ◌∷◌, length, drop, Option, Some, None}
use Rattle.std.proofs.Common.{get_or}
use Rattle.weedle_grammar.specs.Rows.{Row, Bytes, OneOf, NotNext, Run, Past, Seq, First, Opt, Many, ListOf, List1, Tail, If}
use Rattle.weedle_grammar.specs.written.Table.{row_of}
use Rattle.weedle_grammar.specs.written.Table.Definitions.{DEFINITIONS}
use Rattle.weedle_rules.specs.Outcomes.{EndsAt}
use Rattle.weedle_rules.specs.Cells.{HasEnd, turn_number}
use Rattle.weedle_starts.specs.Tries.{TriesInTurn, TriesByChoice, Tries, has_no_parts}
use Rattle.weedle_memo.specs.Entries.{MemoEntry, Reading, Start, start_at, Absent}
use Rattle.weedle_memo.specs.Tables.{Stays}
use Rattle.weedle_memo.specs.declared.frame.Look.{Look}
use Rattle.weedle_memo.specs.declared.frame.Look.TheVariants.{Known, Unknown}
use Rattle.weedle_memo.specs.declared.frame.Frame.{Frame}
use Rattle.weedle_memo.specs.declared.frame.Step.{Step}
use Rattle.weedle_memo.specs.declared.frame.Step.TheVariants.{Needs, Ends}

-- rule r at p is known
pub record Present (known : List MemoEntry) (r p : ℕ) : Type 0 where
  pub index : ℕ
  pub low : index < length known
  pub rule_is : (d : MemoEntry) → (get_or known index d).rule ≡ r
  pub place_is : (d : MemoEntry) → (get_or known index d).place ≡ p

-- what is known of a text while it is read: what is read and where, the words of the rules, and the entries
pub record Memory : Type 0 where
  pub start : Start
  pub words : List ℕ
  pub text : List ℕ
  pub entries : List MemoEntry

abbrev pub memory_of : Reading → Memory
memory_of r = record { start = r.start; words = r.words; text = r.text; entries = r.known }

-- where rule r ends at p is known: by an entry, or since it goes without something there by the
-- byte there
pub data Met (m : Memory) (r p : ℕ) : Type 0 where
  stored : Present m.entries r p → Met m r p
  passed : Stays m.words m.text r p → Met m r p

-- it is known, where it has an end
abbrev pub MetIf : Memory → ℕ → ℕ → Option ℕ → Type 0
MetIf m r p None = Unit {0}
MetIf m r p (Some e) = Met m r p

-- what rule r tries at p, and what is read there, is known
abbrev pub IsClosed : List ℕ → Memory → ℕ → ℕ → Type 0
IsClosed text m r p = (x q e : ℕ) → Tries text r p x q → EndsAt text x q e → Met m x q

-- of all entries
abbrev pub AreClosed : List ℕ → Memory → Type 0
AreClosed text m = (i : ℕ) (d : MemoEntry) → i < length m.entries → IsClosed text m (get_or m.entries i d).rule (get_or m.entries i d).place

-- of rules one after another, the rest is still to be tried
pub record CoveredIn (text : List ℕ) (m : Memory) (parts : List ℕ) (p : ℕ) (rest : List ℕ) (q : ℕ) : Type 0 where
  pub still : (x z e : ℕ) → TriesInTurn text parts p x z → EndsAt text x z e → Met m x z ⊎ TriesInTurn text rest q x z

-- of the rules of a choice, the rest is still to be tried
pub record CoveredFirst (text parts : List ℕ) (p : ℕ) (rest : List ℕ) : Type 0 where
  pub still : (x z e : ℕ) → TriesByChoice text parts p x z → EndsAt text x z e → TriesByChoice text rest p x z

-- what a frame of this row tried before it came to place q
abbrev pub Covered : List ℕ → Memory → Row → Frame → ℕ → Type 0
Covered text m (Seq parts) f q = CoveredIn text m parts f.place (drop f.part parts) q
Covered text m (First parts) f q = CoveredFirst text parts f.place (drop f.part parts)
Covered text m (If parts k y) f q = CoveredIn text m parts f.place (drop f.part parts) q
Covered text m (Opt y) f q = Unit {0}
Covered text m (Many y) f q = 0 < f.part → Met m y f.place
Covered text m (ListOf y t) f q = 0 < f.part → Met m y f.place
Covered text m (List1 y t) f q = 0 < f.part → Met m y f.place
Covered text m (Tail y s) f q = (0 < f.part → Met m s f.place) × (1 < f.part → (e : ℕ) × EndsAt text s f.place e × Met m y e)
Covered text m (Bytes b) f q = Unit {0}
Covered text m (OneOf c) f q = Unit {0}
Covered text m (NotNext c) f q = Unit {0}
Covered text m (Run c) f q = Unit {0}
Covered text m (Past b) f q = Unit {0}

abbrev pub CoveredStep : List ℕ → Memory → Frame → Step → Type 0
CoveredStep text m f (Needs x q) = Covered text m (row_of f.rule) f q
CoveredStep text m f (Ends o) = IsClosed text m f.rule f.place

-- what a look finds is known, where it has an end
abbrev pub MetLook : Memory → ℕ → ℕ → Look → Type 0
MetLook m r p (Known e) = MetIf m r p e
MetLook m r p Unknown = Unit {0}

-- a text was read from the start
pub record IsMemo (r : Reading) (end : Option ℕ) : Type 0 where
  pub ends : HasEnd r.text r.start.rule r.start.place end
  pub first : MetIf (memory_of r) r.start.rule r.start.place end
  pub closed : AreClosed r.text (memory_of r)

-- the definitions at the front of a text were read
pub record IsDefinitions (r : Reading) (end : Option ℕ) : Type 0 where
  pub is_memo : IsMemo r end
  pub start_is : r.start ≡ start_at DEFINITIONS 0

-- the same text, the same words, and the same start
abbrev pub SameText : Reading → Reading → Type 0
SameText r s = (s.text ≡ r.text) × (s.words ≡ r.words) × (s.start ≡ r.start)

-- n knows what m knows, and more of the cells up to number c
pub record Extends (m n : Memory) (c : ℕ) : Type 0 where
  pub text_is : n.text ≡ m.text
  pub start_is : n.start ≡ m.start
  pub longer : length m.entries ≤ length n.entries
  pub keeps : (x q : ℕ) → Met m x q → Met n x q
  pub leaves : (x q : ℕ) → c < turn_number (length m.text) x q → Absent m.entries x q → Absent n.entries x q
  pub closes : AreClosed m.text m → AreClosed m.text n

-- rule r, which has no parts, was worked out at p
pub record IsWorked (m n : Memory) (r p : ℕ) (o : Option ℕ) : Type 0 where
  pub right : HasEnd m.text r p o
  pub met : MetIf n r p o
  pub extends : Extends m n (turn_number (length m.text) r p)

-- rule r was worked out at p, or it has parts, and nothing was done
abbrev pub IsLeaf : Memory → Memory → ℕ → ℕ → Look → Type 0
IsLeaf m n r p (Known o) = IsWorked m n r p o
IsLeaf m n r p Unknown = (n ≡ m) × (has_no_parts (row_of r) ≡ false)

-- a rule has this outcome at each place from p to q
abbrev pub EndsAlike : List ℕ → ℕ → ℕ → ℕ → Option ℕ → Type 0
EndsAlike text r p q o = (k : ℕ) → p ≤ k → k ≤ q → HasEnd text r k o
