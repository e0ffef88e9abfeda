-- The entries as the memo's own specs see them.
use Rattle.std.specs.Prelude.{List, ◌++◌, map}
use Rattle.weedle_rules.specs.NarrowCells.{narrow_outcome}
use Rattle.weedle_memo.specs.declared.entries.Entry.{Entry}
use Rattle.weedle_memo.specs.declared.entries.NarrowEntry.{NarrowEntry}

-- what an entry of 16 bytes says
abbrev pub wide_of : NarrowEntry → Entry
wide_of entry = record { rule = entry.rule; place = entry.place; end = narrow_outcome entry.end; next = entry.next }

-- narrow entries, and behind them others
abbrev pub entries_of : List NarrowEntry → List Entry → List Entry
entries_of few more = map wide_of few ++ more
