use Rattle.std.proofs.Common.{◌≡◌, length, arith}
use Rattle.weedle_c.proofs.RuleFacts.{has_rule}
use Rattle.weedle_c.proofs.rule.rule_answer.Goals as goal

pub returns-then-count-nodes-clause-no_room : goal.returns-then-count-nodes-clause-no_room
returns-then-count-nodes-clause-no_room c =
    let many : c.len-count.result ≡ length c.args.found.now = c.len-count.ensures in
    let more = c.if-count-nodes.true in
    λ _. record {
      tree = c.args.found.now;
      has = has_rule c.requires.front c.end.ensures many;
      more = omega (arith, more, many);
    }

pub returns-clause-read : goal.returns-clause-read
returns-clause-read c =
    let many : c.len-count.result ≡ length c.args.found.now = c.len-count.ensures in
    λ _. record {
      tree = c.args.found.now;
      has = has_rule c.requires.front c.end.ensures many;
      written = c.write_to.ensures;
    }
