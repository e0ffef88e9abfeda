-- What is known of a rule at a place by the byte there.
use Rattle.std.specs.Prelude.{◌≡◌, ◌<◌, ℕ, List, Option, Some, None, slice_get, slice_index}
use Rattle.std.specs.Int.{bit_at}
use Rattle.std.proofs.Common.{get_or}
use Rattle.weedle_grammar.specs.Rows.{Row, Bytes, OneOf, NotNext, Run, Past, Seq, First, Opt, Many, ListOf, List1, Tail, If}
use Rattle.weedle_grammar.specs.View.{numbers_of}
use Rattle.weedle_grammar.specs.written.Bound.{rule_count}
use Rattle.weedle_grammar.specs.written.Table.{row_of}
use Rattle.weedle_rules.specs.Cells.{HasEnd}
use Rattle.weedle_starts.specs.Starts.{CoversStarts}
use Rattle.weedle_grammar.specs.declared.row.Parts.{Parts}
use Rattle.weedle_memo.specs.declared.tables.Word.{Word}
use Rattle.weedle_memo.specs.declared.tables.Way.{Way}
use Rattle.weedle_memo.specs.declared.tables.Way.TheVariants as way
use Rattle.weedle_memo.specs.declared.frame.Look.{Look}
use Rattle.weedle_memo.specs.declared.frame.Look.TheVariants.{Known, Unknown}

-- the rule that a row may go without: what it repeats, what a list begins with, what is between
-- items
abbrev pub option_of : Row → Option ℕ
option_of (Opt y) = Some y
option_of (Many y) = Some y
option_of (ListOf y t) = Some y
option_of (Tail y s) = Some s
option_of _ = None

-- the word has the bytes with which can begin what rule r may go without, or else the rule itself
abbrev pub IsWordOf : ℕ → ℕ → Option ℕ → Type 0
IsWordOf word r (Some y) = CoversStarts word y
IsWordOf word r None = CoversStarts word r

abbrev pub IsWord : ℕ → ℕ → Type 0
IsWord word r = IsWordOf word r (option_of (row_of r))

-- the way is that of the row, and its numbers are rules'
abbrev pub IsWay : Way Word Parts → Row → Type 0
IsWay (way.Bytes word) row = row ≡ Bytes word.bytes.now
IsWay (way.OneOf c) row = row ≡ OneOf c
IsWay (way.NotNext c) row = row ≡ NotNext c
IsWay (way.Run c) row = row ≡ Run c
IsWay (way.Past word) row = row ≡ Past word.bytes.now
IsWay (way.Seq parts) row = row ≡ Seq (numbers_of parts)
IsWay (way.First parts) row = row ≡ First (numbers_of parts)
IsWay (way.Opt x) row = (x < rule_count) × (row ≡ Opt x)
IsWay (way.Many x) row = (x < rule_count) × (row ≡ Many x)
IsWay (way.List x t) row = (x < rule_count) × (t < rule_count) × (row ≡ ListOf x t)
IsWay (way.List1 x t) row = (x < rule_count) × (t < rule_count) × (row ≡ List1 x t)
IsWay (way.Tail x s) row = (x < rule_count) × (s < rule_count) × (row ≡ Tail x s)
IsWay (way.If parts k y) row = (y < rule_count) × (row ≡ If (numbers_of parts) k y)

-- the words of all rules
abbrev pub AreWords : List ℕ → Type 0
AreWords words = (r : ℕ) → r < rule_count → IsWord (slice_index words r) r

-- the way and the word of rule r
abbrev pub IsLaid : List (Way Word Parts) → List ℕ → ℕ → Type 0
IsLaid ways words r = ((d : Way Word Parts) → IsWay (get_or ways r d) (row_of r)) × IsWord (slice_index words r) r

-- those of all rules
abbrev pub AreTables : List (Way Word Parts) → List ℕ → Type 0
AreTables ways words = (r : ℕ) → r < rule_count → IsLaid ways words r

-- an ASCII byte is at p that the word of rule r lacks
pub record Lacks (words text : List ℕ) (r p : ℕ) : Type 0 where
  pub byte : ℕ
  pub stands : Some byte ≡ slice_get text p
  pub ascii : byte < 128
  pub unset : bit_at (slice_index words r) byte ≡ 0

-- rule r goes without something at p by the byte there, so it ends there, and isn't worked out
pub record Stays (words text : List ℕ) (r p : ℕ) : Type 0 where
  pub option : ℕ
  pub is : option_of (row_of r) ≡ Some option
  pub fails : HasEnd text option p None
  pub lacks : Lacks words text r p

-- what the byte at p says of rule r
abbrev pub IsPassed : List ℕ → List ℕ → ℕ → ℕ → Look → Type 0
IsPassed words text r p (Known None) = HasEnd text r p None
IsPassed words text r p (Known (Some e)) = HasEnd text r p (Some e) × Stays words text r p
IsPassed words text r p Unknown = Lacks words text r p → ⊥
