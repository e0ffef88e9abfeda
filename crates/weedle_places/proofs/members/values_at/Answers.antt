use Rattle.std.proofs.Common.{◌≡◌, ◌==◌, ◌+◌, ◌<◌, true, false, length, sym, subst, ◌∙◌, ap, arith}
use Rattle.weedle_syntax.specs.Tree.{node_at}
use Rattle.weedle_places.specs.Standing.{value_in}
use Rattle.weedle_places.proofs.NameFacts.{node_found}
use Rattle.weedle_places.proofs.ValueFacts.{StandTo, is_value, stand_none, stand_one, stand_same}
use Rattle.weedle_places.proofs.members.values_at.Goals as goal
use Rattle.weedle_places.proofs.members.values_at.Goals.{then-eq+in_ok-push, else-eq}

pub loop-i-init : goal.loop-i-init
loop-i-init c = stand_none c.args.syntax.now.dialect c.args.syntax.now.text c.args.syntax.now.nodes (c.args.definition + 1) c.new-values.result.items c.new-values.ensures.items

pub loop-i-preserved : goal.loop-i-preserved
loop-i-preserved c =
    let ns = c.args.syntax.now.nodes in
    let text = c.args.syntax.now.text in
    let i = c.loop-i.i in
    let from = c.args.definition + 1 in
    let here : i < length ns = omega (arith, c.loop-i-test.true, c.below.ensures.within) in
    let node = node_found c.nodes-nodes.result.now ns i c.index-nodes-i.result c.nodes-nodes.ensures.are here in
    let dialect = c.args.syntax.now.dialect in
    let value = c.value_in-value.ensures ∙ ap value_in c.dialect.ensures in
    let rule = ap (λ n. n.rule == c.value_in-value.result) node ∙ ap (λ v. (node_at ns i).rule == v) value in
    elim c.if-eq.branch [
      | then-eq+in_ok-push w ↦ (
          let is : is_value dialect text ns i ≡ true = sym rule ∙ sym c.eq.ensures ∙ w.if-eq.true in
          stand_one dialect text ns from c.loop-i.values.items c.if-eq.values.items i w.member_at.result is (ap (λ s. s.items) w.values-is ∙ w.in_ok-push.ensures.items) w.member_at.ensures c.loop-i.invariant)
      | else-eq w ↦ (
          let is : is_value dialect text ns i ≡ false = sym rule ∙ sym c.eq.ensures ∙ w.if-eq.false in
          subst (λ s. StandTo dialect text ns from (i + 1) s.items) (sym w.values-is) (stand_same dialect text ns from c.loop-i.values.items i is c.loop-i.invariant))
    ]
