use Rattle.std.proofs.Common.{◌≡◌, ◌==◌, ◌+◌, get_or, length, false, sym, subst, ◌∙◌, ap, arith}
use Rattle.std.proofs.lemmas.List.{length-take-le}
use Rattle.weedle_grammar.specs.written.Table.Leaves.{IDENTIFIER}
use Rattle.weedle_syntax.specs.Dialects.{IsFrontIn}
use Rattle.weedle_syntax.proofs.BelowFacts.{looked_at}
use Rattle.weedle_places.specs.Above.{AreAbove}
use Rattle.weedle_places.specs.Names.{is_name}
use Rattle.weedle_places.proofs.AboveFacts.{above_take, all_still, open_deep, open_more}
use Rattle.weedle_places.proofs.above.role_at.Goals as goal
use Rattle.weedle_places.proofs.above.role_at.Goals.{then-eq+in_ok-name_below, else-eq}

pub name_below-requires-clause-above : goal.name_below-requires-clause-above
name_below-requires-clause-above c =
    subst (AreAbove c.args.syntax.now.nodes c.args.i 0) (sym c.truncate.ensures.items) (above_take c.args.syntax.now.nodes c.args.i 0 c.index-nodes-i.result.depth c.args.above.now.items c.requires.open.each)

pub name_below-requires-clause-many : goal.name_below-requires-clause-many
name_below-requires-clause-many c =
    let ns = c.args.syntax.now.nodes in
    let front = subst (IsFrontIn c.args.syntax.now.dialect c.args.syntax.now.text) c.nodes.ensures.are c.nodes.ensures.front in
    let node = looked_at ns c.args.i c.index-nodes-i.result c.requires.within (subst (λ s. c.index-nodes-i.result ≡ get_or s c.args.i c.index-nodes-i.result) c.nodes.ensures.are c.index-nodes-i.is) in
    let deep = open_deep c.args.syntax.now.dialect c.args.syntax.now.text ns front c.args.i c.requires.within c.args.above.now.items c.requires.open in
    let same = ap (λ n. n.depth) node in
    ap length c.truncate.ensures.items ∙ length-take-le c.index-nodes-i.result.depth c.args.above.now.items (omega arith) ∙ same

pub returns-clause-open : goal.returns-clause-open
returns-clause-open c =
    let ns = c.args.syntax.now.nodes in
    let i = c.args.i in
    let front = subst (IsFrontIn c.args.syntax.now.dialect c.args.syntax.now.text) c.nodes.ensures.are c.nodes.ensures.front in
    let node = looked_at ns i c.index-nodes-i.result c.requires.within (subst (λ s. c.index-nodes-i.result ≡ get_or s i c.index-nodes-i.result) c.nodes.ensures.are c.index-nodes-i.is) in
    let deep = open_deep c.args.syntax.now.dialect c.args.syntax.now.text ns front i c.requires.within c.args.above.now.items c.requires.open in
    let same = ap (λ n. n.depth) node in
    let many = ap length c.truncate.ensures.items ∙ length-take-le c.index-nodes-i.result.depth c.args.above.now.items (omega arith) ∙ same in
    let kept = subst (AreAbove ns i 0) (sym c.truncate.ensures.items) (above_take ns i 0 c.index-nodes-i.result.depth c.args.above.now.items c.requires.open.each) in
    let rule = ap (λ n. n.rule == IDENTIFIER) node in
    elim c.if-eq.branch [
      | then-eq+in_ok-name_below w ↦ (
          let above = ap (λ s. s.items) w.above-is in
          open_more ns i c.if-eq.above.items c.push.new.self.items (subst (AreAbove ns (i + 1) 0) (sym above) w.in_ok-name_below.ensures.above) (ap length above ∙ w.in_ok-name_below.ensures.many ∙ many) c.in_ok-push.ensures.items)
      | else-eq w ↦ (
          let above = ap (λ s. s.items) w.above-is in
          let not_name : is_name ns i ≡ false = cc in
          open_more ns i c.if-eq.above.items c.push.new.self.items (subst (AreAbove ns (i + 1) 0) (sym above) (all_still ns i 0 c.truncate.new.self.items kept (omega arith) (λ z. not_name))) (ap length above ∙ many) c.in_ok-push.ensures.items)
    ]
