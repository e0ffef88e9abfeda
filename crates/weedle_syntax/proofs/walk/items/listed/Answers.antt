use Rattle.std.proofs.Common.{inl, inr, refl}
use Rattle.weedle_rules.proofs.OutcomeFacts.{it_ends}
use Rattle.weedle_starts.proofs.ReadFacts.{ends_inside}
use Rattle.weedle_syntax.proofs.LayFacts.{listed_two, listed_stuck, listed_none}
use Rattle.weedle_syntax.proofs.walk.items.listed.Goals as goal

pub end-requires-clause-wanted : goal.end-requires-clause-wanted
end-requires-clause-wanted c = c.requires.tried c.args.item c.args.node.start (inl (refl, refl))

pub end-requires-2-clause-within : goal.end-requires-2-clause-within
end-requires-2-clause-within c = ends_inside (it_ends c.in-Some.ensures.right) c.requires.within

pub end-requires-2-clause-wanted : goal.end-requires-2-clause-wanted
end-requires-2-clause-wanted c = c.requires.tried c.args.tail c.in-Some.at (inr (c.in-Some.at, it_ends c.in-Some.ensures.right, (refl, refl)))

pub returns-in_default : goal.returns-in_default
returns-in_default c = listed_none c.args.table.now.text c.args.depth c.args.node.start c.args.node.end c.args.item c.args.tail _ c.requires.reads c.requires.empty c.in_default.ensures.right

pub returns-in_default-end : goal.returns-in_default-end
returns-in_default-end c = listed_stuck c.args.table.now.text c.args.depth c.args.node.start c.args.node.end c.args.item c.args.tail c.in-Some.at c.requires.reads c.in-Some.ensures.right c.in_default-end.ensures.right

pub returns : goal.returns
returns c = listed_two c.args.table.now.text c.args.depth c.args.node.start c.args.node.end c.args.item c.args.tail c.in-Some.at c.in-Some-end.end _ _ _ c.requires.reads c.requires.empty c.in_ok-push.ensures.items c.in_ok-push-2.ensures.items c.in-Some.ensures.right c.in-Some-end.ensures.right
