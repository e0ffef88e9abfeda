-- What the faults of a run say.
use Rattle.std.specs.Prelude.{ℕ, List, codes}
use Rattle.weedle_front.specs.declared.program.RunFault.{RunFault}
use Rattle.weedle_front.specs.declared.program.RunFault.TheVariants.{NotUtf8, Memory, Input, Output}

-- why a run ended
abbrev pub fault_text : RunFault → List ℕ
fault_text NotUtf8 = codes "input is not UTF-8"
fault_text Memory = codes "out of memory"
fault_text Input = codes "cannot read input"
fault_text Output = codes "cannot write output"
