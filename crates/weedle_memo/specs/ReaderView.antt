-- A reader's fields as contracts see them, and what always holds of them.
use Rattle.std.specs.Prelude.{◌^◌, ◌≡◌, ◌≤◌, ◌<◌, ◌+◌, ◌*◌, ℕ, List, [], length, map, Option}
use Rattle.std.proofs.Common.{get_or}
use Rattle.weedle_grammar.specs.written.Table.Definitions.{DEFINITIONS}
use Rattle.weedle_rules.specs.written.Bound.{most_reads}
use Rattle.weedle_rules.specs.TableOfEnds.{AreCounts}
use Rattle.weedle_memo.specs.Entries.{MemoEntry, AreRight, AreOwn, AreDistinct}
use Rattle.weedle_memo.specs.Tables.{AreWords}
use Rattle.weedle_memo.specs.declared.entries.Entry.{Entry}

-- what an entry says
abbrev pub entry_of : Entry → MemoEntry
entry_of entry = record { rule = entry.rule; place = entry.place; end = entry.end }

-- the entries of a place are below the head of its chain, and below what an entry of that place links to are those before it
pub record AreLinked (heads : List ℕ) (entries : List Entry) : Type 0 where
  pub heads_are : (p i : ℕ) (d : ℕ) (e : Entry) → p < length heads → i < length entries → (get_or entries i e).place ≡ p → i < get_or heads p d
  pub heads_in : (p : ℕ) (d : ℕ) → p < length heads → get_or heads p d ≤ length entries
  pub links_are : (i j : ℕ) (e : Entry) → i < j → j < length entries → (get_or entries i e).place ≡ (get_or entries j e).place → i < (get_or entries j e).next

pub record IsReader (first : ℕ) (text heads : List ℕ) (entries : List Entry) (reads most : ℕ) : Type 0 where
  pub fits : length text < 2 ^ 63
  pub places : length heads ≡ length text + 1
  pub linked : AreLinked heads entries
  pub right : AreRight text (map entry_of entries)
  pub own : AreOwn first (map entry_of entries)
  pub apart : AreDistinct (map entry_of entries)
  pub counts : List ℕ
  pub counted : AreCounts most_reads counts (length entries) reads most

-- what is known of a text whose definitions were read, and the words of the rules
pub record IsMemoTable (text words heads : List ℕ) (entries : List Entry) (reads most : ℕ) : Type 0 where
  pub reader : IsReader DEFINITIONS text heads entries reads most
  pub covered : AreWords words
