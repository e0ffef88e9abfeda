use Rattle.std.proofs.Common.{refl}
use Rattle.weedle_syntax.proofs.WantedFacts.{wanted_by}
use Rattle.weedle_syntax.proofs.LayFacts.{opt_there, opt_absent}
use Rattle.weedle_syntax.proofs.walk.items.optional.Goals as goal

pub end-requires-clause-wanted : goal.end-requires-clause-wanted
end-requires-clause-wanted c = wanted_by c.requires.wanted c.requires.reads c.requires.row (refl, refl)

pub returns-in_ok-push-in-Some : goal.returns-in_ok-push-in-Some
returns-in_ok-push-in-Some c = opt_there c.args.table.now.text c.args.depth c.args.node.start c.args.node.end c.args.node.rule c.args.item _ _ _ c.requires.row c.requires.reads c.requires.empty c.in_ok-push-in-Some.ensures.items c.in-Some.ensures.right

pub returns-in-None : goal.returns-in-None
returns-in-None c = opt_absent c.args.table.now.text c.args.depth c.args.node.start c.args.node.end c.args.node.rule c.args.item _ c.requires.row c.requires.reads c.requires.empty c.in-None.ensures.right
