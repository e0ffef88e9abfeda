use Rattle.std.proofs.Common.{◌≡◌, ◌<◌, length, subst}
use Rattle.weedle_grammar.specs.written.Table.TodayDefinitions.{TODAY_DEFINITION_KIND}
use Rattle.weedle_syntax.specs.Dialects.{IsFrontIn}
use Rattle.weedle_syntax.specs.Tree.{node_at}
use Rattle.weedle_places.specs.Members.{IsBehindFront}
use Rattle.weedle_places.proofs.PieceFacts.{front_parts, third_is}
use Rattle.weedle_places.proofs.parts.kind_behind.Goals as goal

pub unreachable-requires : goal.unreachable-requires
unreachable-requires c =
    let front = subst (IsFrontIn c.args.syntax.now.dialect c.args.syntax.now.text) c.nodes.ensures.are c.nodes.ensures.front in
    let w = front_parts c.args.syntax.now.dialect c.args.syntax.now.text c.args.syntax.now.nodes front c.args.definition c.requires.within c.requires.rule in
    let are = w.are in
    let none = c.in_default.ensures.steps.0 in
    let all = c.children-parts.ensures in
    absurd (let n : ⊥ = cc in n)

pub unreachable-requires-in_default-next : goal.unreachable-requires-in_default-next
unreachable-requires-in_default-next c =
    let front = subst (IsFrontIn c.args.syntax.now.dialect c.args.syntax.now.text) c.nodes.ensures.are c.nodes.ensures.front in
    let w = front_parts c.args.syntax.now.dialect c.args.syntax.now.text c.args.syntax.now.nodes front c.args.definition c.requires.within c.requires.rule in
    let are = w.are in
    let first = c.in-Some.ensures.steps in
    let none = c.in_default-next.ensures.steps.0 in
    let all = c.children-parts.ensures in
    absurd (let n : ⊥ = cc in n)

pub unreachable-requires-in_default-next-2 : goal.unreachable-requires-in_default-next-2
unreachable-requires-in_default-next-2 c =
    let front = subst (IsFrontIn c.args.syntax.now.dialect c.args.syntax.now.text) c.nodes.ensures.are c.nodes.ensures.front in
    let w = front_parts c.args.syntax.now.dialect c.args.syntax.now.text c.args.syntax.now.nodes front c.args.definition c.requires.within c.requires.rule in
    let are = w.are in
    let first = c.in-Some.ensures.steps in
    let second = c.in-Some-next.ensures.steps in
    let none = c.in_default-next-2.ensures.steps.0 in
    let all = c.children-parts.ensures in
    absurd (let n : ⊥ = cc in n)

pub returns-clause-within : goal.returns-clause-within
returns-clause-within c =
    let ns = c.args.syntax.now.nodes in
    let front = subst (IsFrontIn c.args.syntax.now.dialect c.args.syntax.now.text) c.nodes.ensures.are c.nodes.ensures.front in
    let w = front_parts c.args.syntax.now.dialect c.args.syntax.now.text ns front c.args.definition c.requires.within c.requires.rule in
    let same = third_is c.args.syntax.now.dialect c.args.syntax.now.text ns front c.args.definition c.requires.within w _ _ _ _ _ _ c.in-Some-next-2.kind c.children-parts.ensures c.in-Some.ensures.steps c.in-Some-next.ensures.steps c.in-Some-next-2.ensures.steps in
    subst (λ z. z < length ns) same w.within

pub returns-clause-rule : goal.returns-clause-rule
returns-clause-rule c =
    let ns = c.args.syntax.now.nodes in
    let front = subst (IsFrontIn c.args.syntax.now.dialect c.args.syntax.now.text) c.nodes.ensures.are c.nodes.ensures.front in
    let w = front_parts c.args.syntax.now.dialect c.args.syntax.now.text ns front c.args.definition c.requires.within c.requires.rule in
    let same = third_is c.args.syntax.now.dialect c.args.syntax.now.text ns front c.args.definition c.requires.within w _ _ _ _ _ _ c.in-Some-next-2.kind c.children-parts.ensures c.in-Some.ensures.steps c.in-Some-next.ensures.steps c.in-Some-next-2.ensures.steps in
    subst (λ z. (node_at ns z).rule ≡ TODAY_DEFINITION_KIND) same w.rule

pub returns-clause-begins : goal.returns-clause-begins
returns-clause-begins c =
    let ns = c.args.syntax.now.nodes in
    let text = c.args.syntax.now.text in
    let front = subst (IsFrontIn c.args.syntax.now.dialect text) c.nodes.ensures.are c.nodes.ensures.front in
    let w = front_parts c.args.syntax.now.dialect text ns front c.args.definition c.requires.within c.requires.rule in
    let same = third_is c.args.syntax.now.dialect text ns front c.args.definition c.requires.within w _ _ _ _ _ _ c.in-Some-next-2.kind c.children-parts.ensures c.in-Some.ensures.steps c.in-Some-next.ensures.steps c.in-Some-next-2.ensures.steps in
    subst (λ z. IsBehindFront text (node_at ns c.args.definition).start (node_at ns z).start) same w.begins
