use Rattle.std.proofs.Common.{subst}
use Rattle.weedle_rules.specs.Outcomes.{FailsAt}
use Rattle.weedle_syntax.specs.Dialects.{start_of}
use Rattle.weedle_syntax.specs.Syntax.{IsRuleFront}
use Rattle.weedle_syntax.proofs.DialectFacts.{start_reads, front_each_read}
use Rattle.weedle_syntax.proofs.dialect.front_in.Goals as goal

pub unreachable-requires : goal.unreachable-requires
unreachable-requires c =
    let fails : FailsAt c.args.raw.now (start_of c.args.dialect) 0 = subst (λ r. FailsAt c.args.raw.now r 0) c.start.ensures (rw c.in_default.is at c.in_ok-found.ensures.fails) in
    start_reads c.args.dialect c.args.raw.now 0 fails

pub returns-clause-are : goal.returns-clause-are
returns-clause-are c = subst (λ r. IsRuleFront c.args.raw.now r c.in-Some.nodes.items) c.start.ensures (rw c.in-Some.is at c.in_ok-found.ensures.are)

pub returns-clause-read : goal.returns-clause-read
returns-clause-read c =
    let front : IsRuleFront c.args.raw.now (start_of c.args.dialect) c.in-Some.nodes.items = subst (λ r. IsRuleFront c.args.raw.now r c.in-Some.nodes.items) c.start.ensures (rw c.in-Some.is at c.in_ok-found.ensures.are) in
    front_each_read c.args.dialect c.args.raw.now c.in-Some.nodes.items c.utf8.raw front
