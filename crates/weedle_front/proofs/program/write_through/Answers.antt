use Rattle.std.proofs.Common.{◌≡◌, length, ◌-◌, take, drop, arith, take-add, length-drop}
use Rattle.std.proofs.lemmas.List.{take_all}
use Rattle.std.proofs.KnownBytes.{Appends-trans}
use Rattle.weedle_front.proofs.program.write_through.Goals as goal

-- a write goes on where the last one stopped
pub writes-preserved : goal.writes-preserved
writes-preserved g c =
    let bytes = c.args.bytes.now in
    let sent = c.writes.sent in
    let before = c.writes.invariant in
    let rest : take (length bytes - sent) (drop sent bytes) ≡ drop sent bytes =
    take_all _ _ (omega (arith, length-drop sent bytes)) in
    let bound = rw rest at c.in-Ok.ensures.bound in
    let taken = rw rest at c.in-Ok.ensures.bytes in
    rw (take-add sent c.in-Ok.n bytes)
    (omega (arith, before.0, bound, length-drop sent bytes), Appends-trans _ _ _ _ _ before.1 taken)
