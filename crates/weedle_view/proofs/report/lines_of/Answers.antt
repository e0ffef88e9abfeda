use Rattle.std.proofs.Common.{◌≡◌, take}
use Rattle.std.proofs.lemmas.List.{take_all}
use Rattle.weedle_view.proofs.report.lines_of.Goals as goal

-- after the loop each has its lines
pub returns : goal.returns
returns g c =
    let each : take c.loop-definition.definition-index c.args.definitions.now ≡ c.args.definitions.now =
    take_all _ _ c.loop-definition-test.false in
    rw (c.in_ok-writeln.ensures.bytes, c.loop-definition.invariant, each)
