use Rattle.std.proofs.Common.{◌≡◌, ◌++◌, map, string_bytes}
use Rattle.std.specs.Prelude.{flat_map}
use Rattle.weedle_view.specs.Outline.{indented_line}
use Rattle.weedle_view.proofs.entries.push_indented.Given as goal

abbrev pub invariant-loop-part : goal.invariant-loop-part
invariant-loop-part l = string_bytes l.report ≡ string_bytes l.fn.report ++ flat_map indented_line (map (λ part. part.now) l.yielded)
