use Rattle.std.proofs.Common.{sym, ◌∙◌, ap, arith, eqb-true, eq-eqb}
use Rattle.weedle_syntax.specs.Tree.{HasRule}
use Rattle.weedle_syntax.proofs.BelowFacts.{looked_at}
use Rattle.weedle_syntax.proofs.WalkFacts.{none_yet}
use Rattle.weedle_syntax.proofs.tree.Syntax.find.Goals as goal

pub returns-then-eq : goal.returns-then-eq
returns-then-eq c =
    let many = c.self.inside.nodes.ok.0 in
    let node = looked_at c.self.inside.nodes.items c.loop-node.node _ (omega (arith, many, c.len-node-end.ensures)) c.index.ensures in
    let after = c.loop-node.auto.node in
    rw (← c.self.view_is) (record {
      after = omega arith;
      within = omega (arith, many, c.len-node-end.ensures);
      holds = sym (ap (λ n. n.rule) node) ∙ eqb-true _ _ (sym c.eq.ensures ∙ c.if-eq.true);
      first = c.loop-node.invariant;
    })

pub loop-node-preserved : goal.loop-node-preserved
loop-node-preserved c =
    let many = c.self.inside.nodes.ok.0 in
    let node = looked_at c.self.inside.nodes.items c.loop-node.node _ (omega (arith, many, c.len-node-end.ensures)) c.index.ensures in
    none_yet (HasRule c.self.inside.nodes.items c.args.rule) c.args.from c.loop-node.node c.loop-node.invariant (λ h.
    let is = c.eq.ensures ∙ eq-eqb _ _ (ap (λ n. n.rule) node ∙ h) in
    let no = c.if-eq.false in
    cc)

pub returns : goal.returns
returns c =
    let many = c.self.inside.nodes.ok.0 in
    rw (← c.self.view_is) (λ j a l h. c.loop-node.invariant j a (omega (arith, many, c.len-node-end.ensures)) h)
