use Rattle.std.proofs.Common.{◌≡◌, ◌<◌, length, arith, refl}
use Rattle.weedle_recovery.specs.Stops.{with_text, at_goal, behind}
use Rattle.weedle_recovery.proofs.stops.stop_behind.Goals as goal

pub returns-then-branch-clause-passes : goal.returns-then-branch-clause-passes
returns-then-branch-clause-passes c =
    let inside : c.loop-token.token.at < length c.args.text.now.text = omega (arith, c.loop-token-test.true, c.len-in-loop-token.ensures) in
    c.loop-token.invariant.4 _ (at_goal inside (c.in_ok-is_reached.ensures.yes c.if-branch.true) c.in_ok-end.ensures.ends)

pub loop-token-preserved : goal.loop-token-preserved
loop-token-preserved c =
    let inside : c.loop-token.token.at < length c.args.text.now.text = omega (arith, c.loop-token-test.true, c.len-in-loop-token.ensures) in (
      c.in_ok-token-2.ensures.within,
      omega (arith, c.loop-token.invariant.1, c.loop-token.invariant.2, c.in_ok-token-2.ensures.after),
      c.in_ok-token-2.ensures.line,
      c.in_ok-token-2.ensures.shallow,
      λ e s. c.loop-token.invariant.4 e (behind inside (c.in_ok-is_reached.ensures.no c.if-branch.false) c.in_ok-token-2.ensures.is s),
      omega (arith, c.loop-token.invariant.5, c.in_ok-is_reached.ensures.falls, c.in_ok-token-2.ensures.falls),
    )

pub returns-clause-passes : goal.returns-clause-passes
returns-clause-passes c =
    let ended : c.loop-token.token.at ≡ length c.args.text.now.text = omega (arith, c.loop-token-test.false, c.len-in-loop-token.ensures, c.loop-token.invariant.0) in
    c.loop-token.invariant.4 c.loop-token.token.at (with_text ended refl)
