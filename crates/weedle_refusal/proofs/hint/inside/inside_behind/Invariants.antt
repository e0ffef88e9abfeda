use Rattle.std.proofs.Common.{◌≡◌, drop}
use Rattle.weedle_refusal.specs.Inside.{behind}
use Rattle.weedle_refusal.specs.declared.hint.inside.Inside.TheVariants.{Code}
use Rattle.weedle_refusal.proofs.hint.inside.inside_behind.Given as goal

-- behind what is left is what follows all
abbrev pub invariant-loop-byte : goal.invariant-loop-byte
invariant-loop-byte l = behind l.inside (drop l.byte-index l.bytes) ≡ behind Code l.bytes
