use Rattle.std.proofs.Common.{refl, arith}
use Rattle.weedle_syntax.proofs.BelowFacts.{depth_found, hop_start, hop_fits, hop, hopped}
use Rattle.weedle_syntax.proofs.below.count_behind.Goals as goal

pub loop-next-init : goal.loop-next-init
loop-next-init c = hop_start c.args.nodes.now c.args.i c.requires.within

pub overflow_add-next-in-loop-next : goal.overflow_add-next-in-loop-next
overflow_add-next-in-loop-next c =
    let behind = c.loop-next.invariant.behind in
    let count = c.requires.counted.are c.loop-next.next (omega arith) (omega arith) in
    let fits = hop_fits c.args.nodes.now c.args.i c.loop-next.next _ (omega arith) count in
    omega arith

pub overflow_add-next-in-loop-next-2 : goal.overflow_add-next-in-loop-next-2
overflow_add-next-in-loop-next-2 c =
    let behind = c.loop-next.invariant.behind in
    let count = c.requires.counted.are c.loop-next.next (omega arith) (omega arith) in
    let fits = hop_fits c.args.nodes.now c.args.i c.loop-next.next _ (omega arith) count in
    omega arith

pub loop-next-preserved : goal.loop-next-preserved
loop-next-preserved c =
    let here = c.requires.within in
    let behind = c.loop-next.invariant.behind in
    let count = c.requires.counted.are c.loop-next.next (omega arith) (omega arith) in
    let own = depth_found c.args.nodes.now c.args.i c.index-nodes-i.result here in
    let other = depth_found c.args.nodes.now c.loop-next.next c.index-nodes-next.result (omega arith) in
    hop c.args.nodes.now c.args.i c.loop-next.next _ _ c.loop-next.invariant (omega arith) (omega (arith, own, other, c.if-nodes-next.false)) count refl

pub returns-then-nodes-next : goal.returns-then-nodes-next
returns-then-nodes-next c =
    let here = c.requires.within in
    let own = depth_found c.args.nodes.now c.args.i c.index-nodes-i.result here in
    let other = depth_found c.args.nodes.now c.loop-next.next c.index-nodes-next.result (omega arith) in
    hopped c.args.nodes.now c.args.i c.loop-next.next c.loop-next.invariant (λ l. omega (arith, own, other, c.if-nodes-next.true))

pub returns : goal.returns
returns c = hopped c.args.nodes.now c.args.i c.loop-next.next c.loop-next.invariant (λ l. absurd (omega arith))
