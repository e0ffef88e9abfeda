use Rattle.std.proofs.Common.{subst}
use Rattle.std.specs.Prelude.{slice_index}
use Rattle.weedle_starts.specs.Starts.{CoversStarts}
use Rattle.weedle_starts.specs.declared.written.first_sets.TheConstants.{FIRST_SETS}
use Rattle.weedle_starts.proofs.StartedFacts.{sets_cover}
use Rattle.weedle_starts.proofs.starts.first_set.Goals as goal

pub returns : goal.returns
returns c =
    let number = c.number.ensures in
    subst (λ r. CoversStarts (slice_index FIRST_SETS c.number.result) r) number.0 (sets_cover c.number.result number.1)
