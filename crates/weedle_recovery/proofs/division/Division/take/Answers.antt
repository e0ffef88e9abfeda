use Rattle.std.proofs.Common.{refl, subst}
use Rattle.weedle_rules.proofs.OutcomeFacts.{it_ends}
use Rattle.weedle_syntax.specs.Laid.{LaysNode}
use Rattle.weedle_syntax.proofs.DescentFacts.{has_now}
use Rattle.weedle_starts.proofs.ReadFacts.{ends_inside, ends_after}
use Rattle.weedle_recovery.proofs.CountFacts.{counted_read}
use Rattle.weedle_recovery.proofs.DivisionFacts.{one_read}
use Rattle.weedle_recovery.proofs.division.Division.take.Goals as goal

pub returns-in_ok-push-in-Some-clause-read : goal.returns-in_ok-push-in-Some-clause-read
returns-in_ok-push-in-Some-clause-read c =
    let h = has_now c.in-Some.is c.in_ok-end.ensures.end in (
      it_ends h,
      one_read c.requires.divided h
          (subst (LaysNode c.args.text.now.text c.args.rule c.args.place 0 c.args.self.now.nodes.items c.lay.new.nodes.items) c.in-Some.is c.in_ok-end.ensures.lays)
          c.in_ok-push-in-Some.ensures.items,
    )

pub returns-in_ok-push-in-Some-clause-after : goal.returns-in_ok-push-in-Some-clause-after
returns-in_ok-push-in-Some-clause-after c = ends_after (it_ends (has_now c.in-Some.is c.in_ok-end.ensures.end))

pub returns-in_ok-push-in-Some-clause-within : goal.returns-in_ok-push-in-Some-clause-within
returns-in_ok-push-in-Some-clause-within c = ends_inside (it_ends (has_now c.in-Some.is c.in_ok-end.ensures.end)) c.requires.divided.within

pub returns-in_ok-push-in-Some-clause-counted : goal.returns-in_ok-push-in-Some-clause-counted
returns-in_ok-push-in-Some-clause-counted c = counted_read _ c.requires.counted c.in_ok-end.ensures.steps refl c.in_ok-push-in-Some.ensures.items
