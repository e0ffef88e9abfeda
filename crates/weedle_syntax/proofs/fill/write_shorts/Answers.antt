use Rattle.std.proofs.Common.{◌<◌, ◌∙◌, length, map, sym, ap, subst, arith}
use Rattle.std.proofs.lemmas.List.{get_or-map, length-map}
use Rattle.weedle_syntax.specs.Compact.{IsNarrow, node_of}
use Rattle.weedle_syntax.proofs.FillFacts.{one_written, all_written}
use Rattle.weedle_syntax.proofs.fill.write_shorts.Goals as goal

pub from_node-requires : goal.from_node-requires
from_node-requires g c =
    let f = node_of c.args.base in
    let many = length-map c.args.shorts.now f in
    let less : c.loop-i.i < length (map f c.args.shorts.now) = (let t = c.loop-i-test.true in omega (arith, many, t)) in
    let is = get_or-map f c.args.shorts.now c.loop-i.i c.index-shorts-i.result c.node.result c.loop-i-test.true in
    subst IsNarrow (is ∙ ap f (sym c.index-shorts-i.is) ∙ sym c.node.ensures) (c.requires.narrow c.loop-i.i c.node.result less)

pub loop-i-preserved : goal.loop-i-preserved
loop-i-preserved g c =
    let f = node_of c.args.base in
    let many = length-map c.args.shorts.now f in
    let less : c.loop-i.i < length (map f c.args.shorts.now) = (let t = c.loop-i-test.true in omega (arith, many, t)) in
    let is = get_or-map f c.args.shorts.now c.loop-i.i c.index-shorts-i.result c.node.result c.loop-i-test.true in
    one_written g.T.FromNode.of c.args.at (map f c.args.shorts.now) c.args.room.now c.loop-i.room c.loop-i.i c.node.result c.from_node.result c.loop-i.invariant less
    (let r = c.requires.room in omega (arith, many, r))
    (c.from_node.ensures ∙ ap g.T.FromNode.of (c.node.ensures ∙ ap f c.index-shorts-i.is ∙ sym is))

pub returns : goal.returns
returns g c =
    let f = node_of c.args.base in
    let many = length-map c.args.shorts.now f in
    all_written g.T.FromNode.of c.args.at (map f c.args.shorts.now) c.args.room.now c.loop-i.room c.loop-i.i c.loop-i.invariant (let over = c.loop-i-test.false in let upto = c.loop-i.auto.i-end in omega (arith, many, over, upto)) (let r = c.requires.room in omega (arith, many, r))
