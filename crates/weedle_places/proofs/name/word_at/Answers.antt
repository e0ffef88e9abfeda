use Rattle.std.proofs.Common.{length, subst, ◌∙◌, ap, arith}
use Rattle.weedle_grammar.specs.Meaning.{between}
use Rattle.weedle_syntax.specs.Dialects.{IsFrontIn}
use Rattle.weedle_syntax.specs.Tree.{node_at}
use Rattle.weedle_places.proofs.NameFacts.{no_first, no_second, no_third, two_parts, is_named, node_found}
use Rattle.weedle_places.proofs.name.word_at.Goals as goal

pub unreachable-requires : goal.unreachable-requires
unreachable-requires c =
    let front = subst (IsFrontIn c.args.syntax.now.dialect c.args.syntax.now.text) c.nodes-nodes.ensures.are c.nodes-nodes.ensures.front in
    no_first c.args.syntax.now.dialect c.args.syntax.now.text c.args.syntax.now.nodes front c.args.i c.requires.within _ c.requires.name c.children-parts.ensures c.in_default.ensures.steps.0

pub unreachable-requires-in_default-next : goal.unreachable-requires-in_default-next
unreachable-requires-in_default-next c =
    let front = subst (IsFrontIn c.args.syntax.now.dialect c.args.syntax.now.text) c.nodes-nodes.ensures.are c.nodes-nodes.ensures.front in
    no_second c.args.syntax.now.dialect c.args.syntax.now.text c.args.syntax.now.nodes front c.args.i c.requires.within _ _ _ c.requires.name c.children-parts.ensures c.in-Some.ensures.steps c.in_default-next.ensures.steps.0

pub unreachable-requires-in_default-next-2 : goal.unreachable-requires-in_default-next-2
unreachable-requires-in_default-next-2 c =
    let front = subst (IsFrontIn c.args.syntax.now.dialect c.args.syntax.now.text) c.nodes-nodes.ensures.are c.nodes-nodes.ensures.front in
    no_third c.args.syntax.now.dialect c.args.syntax.now.text c.args.syntax.now.nodes front c.args.i c.requires.within _ _ _ _ _ c.requires.name c.children-parts.ensures c.in-Some.ensures.steps c.in-Some-next.ensures.steps c.in_default-next-2.ensures.steps.0

pub text_of-requires : goal.text_of-requires
text_of-requires c =
    let front = subst (IsFrontIn c.args.syntax.now.dialect c.args.syntax.now.text) c.nodes-nodes.ensures.are c.nodes-nodes.ensures.front in
    let w = two_parts c.args.syntax.now.dialect c.args.syntax.now.text c.args.syntax.now.nodes front c.args.i c.requires.within _ _ _ _ _ _ _ c.requires.name c.children-parts.ensures c.in-Some.ensures.steps c.in-Some-next.ensures.steps c.in-Some-next-2.ensures.steps in
    w.third_within

pub offset_bounds-nodes-underscore : goal.offset_bounds-nodes-underscore
offset_bounds-nodes-underscore c =
    let front = subst (IsFrontIn c.args.syntax.now.dialect c.args.syntax.now.text) c.nodes-nodes.ensures.are c.nodes-nodes.ensures.front in
    let w = two_parts c.args.syntax.now.dialect c.args.syntax.now.text c.args.syntax.now.nodes front c.args.i c.requires.within _ _ _ _ _ _ _ c.requires.name c.children-parts.ensures c.in-Some.ensures.steps c.in-Some-next.ensures.steps c.in-Some-next-2.ensures.steps in
    let h = w.second_within in
    omega (arith, h, ap length c.nodes-nodes.ensures.are, c.nodes-nodes.type_inv.1)

pub bounds-nodes-underscore : goal.bounds-nodes-underscore
bounds-nodes-underscore c =
    let front = subst (IsFrontIn c.args.syntax.now.dialect c.args.syntax.now.text) c.nodes-nodes.ensures.are c.nodes-nodes.ensures.front in
    let w = two_parts c.args.syntax.now.dialect c.args.syntax.now.text c.args.syntax.now.nodes front c.args.i c.requires.within _ _ _ _ _ _ _ c.requires.name c.children-parts.ensures c.in-Some.ensures.steps c.in-Some-next.ensures.steps c.in-Some-next-2.ensures.steps in
    let h = w.second_within in
    omega (arith, h, ap length c.nodes-nodes.ensures.are)

pub bounds-nodes-underscore-in-Some-next-2 : goal.bounds-nodes-underscore-in-Some-next-2
bounds-nodes-underscore-in-Some-next-2 c =
    let front = subst (IsFrontIn c.args.syntax.now.dialect c.args.syntax.now.text) c.nodes-nodes.ensures.are c.nodes-nodes.ensures.front in
    let w = two_parts c.args.syntax.now.dialect c.args.syntax.now.text c.args.syntax.now.nodes front c.args.i c.requires.within _ _ _ _ _ _ _ c.requires.name c.children-parts.ensures c.in-Some.ensures.steps c.in-Some-next.ensures.steps c.in-Some-next-2.ensures.steps in
    let h = w.second_within in
    omega (arith, h, ap length c.nodes-nodes.ensures.are)

pub offset_bounds-nodes-letters : goal.offset_bounds-nodes-letters
offset_bounds-nodes-letters c =
    let front = subst (IsFrontIn c.args.syntax.now.dialect c.args.syntax.now.text) c.nodes-nodes.ensures.are c.nodes-nodes.ensures.front in
    let w = two_parts c.args.syntax.now.dialect c.args.syntax.now.text c.args.syntax.now.nodes front c.args.i c.requires.within _ _ _ _ _ _ _ c.requires.name c.children-parts.ensures c.in-Some.ensures.steps c.in-Some-next.ensures.steps c.in-Some-next-2.ensures.steps in
    let h = w.third_within in
    omega (arith, h, ap length c.nodes-nodes.ensures.are, c.nodes-nodes.type_inv.1)

pub bounds-nodes-letters : goal.bounds-nodes-letters
bounds-nodes-letters c =
    let front = subst (IsFrontIn c.args.syntax.now.dialect c.args.syntax.now.text) c.nodes-nodes.ensures.are c.nodes-nodes.ensures.front in
    let w = two_parts c.args.syntax.now.dialect c.args.syntax.now.text c.args.syntax.now.nodes front c.args.i c.requires.within _ _ _ _ _ _ _ c.requires.name c.children-parts.ensures c.in-Some.ensures.steps c.in-Some-next.ensures.steps c.in-Some-next-2.ensures.steps in
    let h = w.third_within in
    omega (arith, h, ap length c.nodes-nodes.ensures.are)

pub bounds-nodes-letters-in-Some-next-2 : goal.bounds-nodes-letters-in-Some-next-2
bounds-nodes-letters-in-Some-next-2 c =
    let front = subst (IsFrontIn c.args.syntax.now.dialect c.args.syntax.now.text) c.nodes-nodes.ensures.are c.nodes-nodes.ensures.front in
    let w = two_parts c.args.syntax.now.dialect c.args.syntax.now.text c.args.syntax.now.nodes front c.args.i c.requires.within _ _ _ _ _ _ _ c.requires.name c.children-parts.ensures c.in-Some.ensures.steps c.in-Some-next.ensures.steps c.in-Some-next-2.ensures.steps in
    let h = w.third_within in
    omega (arith, h, ap length c.nodes-nodes.ensures.are)

pub returns : goal.returns
returns c =
    let front = subst (IsFrontIn c.args.syntax.now.dialect c.args.syntax.now.text) c.nodes-nodes.ensures.are c.nodes-nodes.ensures.front in
    let w = two_parts c.args.syntax.now.dialect c.args.syntax.now.text c.args.syntax.now.nodes front c.args.i c.requires.within _ _ _ _ _ _ _ c.requires.name c.children-parts.ensures c.in-Some.ensures.steps c.in-Some-next.ensures.steps c.in-Some-next-2.ensures.steps in
    let ns = c.args.syntax.now.nodes in
    let text = c.args.syntax.now.text in
    let second = node_found c.nodes-nodes.result.now ns _ c.index-nodes-underscore.result c.nodes-nodes.ensures.are w.second_within ∙ ap (node_at ns) w.second in
    let third = node_found c.nodes-nodes.result.now ns _ c.index-nodes-letters.result c.nodes-nodes.ensures.are w.third_within ∙ ap (node_at ns) w.third in
    is_named c.args.syntax.now.dialect text ns front c.args.i c.requires.within w.parts _ _ (ap (λ n. n.start) second) (ap (λ n. n.end) third) (c.text_of.ensures ∙ ap (λ k. between text (node_at ns k).start (node_at ns k).end) w.third)
