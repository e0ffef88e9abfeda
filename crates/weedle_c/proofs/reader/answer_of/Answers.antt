use Rattle.std.proofs.Common.{◌≡◌, ◌<◌, ◌≤◌, length, arith}
use Rattle.weedle_c.proofs.TreeFacts.{unread, has_tree}
use Rattle.weedle_syntax.specs.Syntax.{rest_of}
use Rattle.weedle_c.proofs.reader.answer_of.Goals as goal

pub returns-then-rest-raw-clause-refused : goal.returns-then-rest-raw-clause-refused
returns-then-rest-raw-clause-refused c =
    let rest = c.end-rest.ensures in
    let before = c.if-rest-raw.true in
    let inside : rest_of c.args.found.now < length c.args.raw.now = omega arith in
    λ _. unread c.args.dialect c.requires.front rest inside

pub returns-then-count-nodes-clause-no_room : goal.returns-then-count-nodes-clause-no_room
returns-then-count-nodes-clause-no_room c =
    let rest = c.end-rest.ensures in
    let behind = c.if-rest-raw.false in
    let done : length c.args.raw.now ≤ rest_of c.args.found.now = omega arith in
    let many : c.len-count.result ≡ length c.args.found.now = c.len-count.ensures in
    let more = c.if-count-nodes.true in
    λ _. record {
      tree = c.args.found.now;
      has = has_tree c.args.dialect c.requires.front done rest many;
      more = omega (arith, more, many);
    }

pub returns-clause-read : goal.returns-clause-read
returns-clause-read c =
    let rest = c.end-rest.ensures in
    let behind = c.if-rest-raw.false in
    let done : length c.args.raw.now ≤ rest_of c.args.found.now = omega arith in
    let many : c.len-count.result ≡ length c.args.found.now = c.len-count.ensures in
    λ _. record {
      tree = c.args.found.now;
      has = has_tree c.args.dialect c.requires.front done rest many;
      written = c.write_to.ensures;
    }
