use Rattle.std.proofs.Common.{refl, sym, ◌∙◌}
use Rattle.weedle_rules.proofs.OutcomeFacts.{it_fails}
use Rattle.weedle_refusal.proofs.OutcomeFacts.{no_failure, never_so}
use Rattle.weedle_refusal.proofs.MarkingFacts.{tried_is}
use Rattle.weedle_refusal.proofs.diagnose.unmet.is_unmet.Goals as goal

pub returns-in-Some : goal.returns-in-Some
returns-in-Some c = (λ h. never_so h, λ u. absurd (no_failure c.in-Some.ensures.right u.fails))

pub returns-in-None : goal.returns-in-None
returns-in-None c = (
  λ h. record {
    plain = sym c.has_no_parts.ensures ∙ c.if-not-has_no_parts.false;
    tried = (tried_is c.args.ends.now.text c.args.start c.args.last c.args.marks.now c.args.rule c.args.place c.requires.last c.requires.marked c.requires.here).0 (c.is_marked.ensures.0 c.if-not-is_marked.false);
    fails = it_fails c.in-None.ensures.right;
  },
  λ u. refl,
)
