use Rattle.std.proofs.Common.{◌<◌, sym, subst, ◌∙◌, arith}
use Rattle.weedle_syntax.proofs.StepFacts.{joined}
use Rattle.weedle_syntax.proofs.WalkFacts.{Halving, halving_starts, halved}
use Rattle.weedle_syntax.proofs.tree.Syntax.at.Goals as goal

pub loop-low-init : goal.loop-low-init
loop-low-init c =
    let j = joined c.self.inside.dialect _ _ c.self.invariant.front in
    let many = sym c.self.inside.nodes.ok.0 ∙ sym c.len-high.ensures in
    subst (Halving c.self.inside.nodes.items c.args.byte 0) many (halving_starts c.self.inside.nodes.items j.0 j.2 c.args.byte)

pub returns : goal.returns
returns c =
    let j = joined c.self.inside.dialect _ _ c.self.invariant.front in
    let rest = rw (← c.self.view_is) at c.rest.ensures.value in
    let here : c.args.byte < j.0 = omega (arith, rest, j.2.rest) in
    rw (← c.self.view_is) (halved c.self.inside.nodes.items j.0 j.2 c.args.byte c.loop-low.low c.loop-low.high c.loop-low.invariant c.loop-low-test.false here)
