use Rattle.std.proofs.Common.{subst}
use Rattle.std.specs.Prelude.{slice_index}
use Rattle.weedle_starts.specs.Ways.{IsGate}
use Rattle.weedle_starts.specs.declared.written.gates.TheConstants.{GATES}
use Rattle.weedle_starts.proofs.WayFacts.{gates_are}
use Rattle.weedle_starts.proofs.starts.gate.Goals as goal

pub returns : goal.returns
returns c =
    let number = c.number.ensures in
    subst (λ r. IsGate (slice_index GATES c.number.result) r) number.0 (gates_are c.number.result number.1)
