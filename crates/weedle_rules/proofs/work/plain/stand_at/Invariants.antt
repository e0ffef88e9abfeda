use Rattle.std.proofs.Common.{◌≡◌, ◌≤◌, ◌+◌, length, drop}
use Rattle.weedle_grammar.specs.Rows.{begins}
use Rattle.weedle_rules.proofs.Looks.{Looked}
use Rattle.weedle_rules.proofs.work.plain.stand_at.Given as goal

abbrev pub invariant-loop-i : goal.invariant-loop-i
invariant-loop-i g l =
    Looked l.fn.working l.working l.i × (l.place + l.i ≤ length l.reader.text)
    × (begins l.bytes (drop l.place l.reader.text) ≡ begins (drop l.i l.bytes) (drop (l.place + l.i) l.reader.text))
