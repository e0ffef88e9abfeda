use Rattle.std.proofs.Common.{◌≡◌, ◌≤◌, ◌<◌, ℕ, length, get_or}
use Rattle.weedle_memo.specs.declared.entries.Entry.{Entry}
use Rattle.weedle_memo.proofs.memo_table.MemoTable.find.Given as goal

-- entries of the rule at the place are below this one
abbrev pub invariant-loop-at : goal.invariant-loop-at
invariant-loop-at l =
    (l.at ≤ length l.self-inside.entries)
    × ((i : ℕ) (e : Entry) → i < length l.self-inside.entries → (get_or l.self-inside.entries i e).rule ≡ l.fn.rule → (get_or l.self-inside.entries i e).place ≡ l.fn.place → i < l.at)

abbrev pub decreases-loop-at : goal.decreases-loop-at
decreases-loop-at l = l.at
