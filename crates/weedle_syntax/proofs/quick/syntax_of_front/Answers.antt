use Rattle.weedle_syntax.proofs.EachFacts.{each_is_read}
use Rattle.weedle_syntax.proofs.FrontFacts.{front_joins}
use Rattle.weedle_syntax.proofs.quick.syntax_of_front.Goals as goal

pub returns-in-Ok-clause-lossless : goal.returns-in-Ok-clause-lossless
returns-in-Ok-clause-lossless c =
    let front = c.in-Ok.ensures.are in
    front_joins c.args.raw.now c.in-Ok.nodes.items front.0 front.2

pub returns-in-Ok-clause-read : goal.returns-in-Ok-clause-read
returns-in-Ok-clause-read c =
    let front = c.in-Ok.ensures.are in
    each_is_read c.args.raw.now c.utf8.raw front.0 c.in-Ok.nodes.items front.1 front.2

pub returns-clause-lossless : goal.returns-clause-lossless
returns-clause-lossless c =
    let front = c.in_ok-nodes.ensures in
    front_joins c.args.raw.now c.in_ok-nodes.nodes.items front.0 front.2

pub returns-clause-read : goal.returns-clause-read
returns-clause-read c =
    let front = c.in_ok-nodes.ensures in
    each_is_read c.args.raw.now c.utf8.raw front.0 c.in_ok-nodes.nodes.items front.1 front.2
