use Rattle.std.proofs.Common.{◌≡◌, ◌<◌, ℕ, Some, length, subst}
use Rattle.std.proofs.lemmas.List.Elements.{All-weaker}
use Rattle.std.specs.Prelude.{All}
use Rattle.weedle_grammar.specs.Rows.{Many}
use Rattle.weedle_grammar.specs.written.Table.{row_of}
use Rattle.weedle_grammar.specs.written.Table.Symbols.{OPEN_BRACE}
use Rattle.weedle_rules.specs.Outcomes.{EndsAt}
use Rattle.weedle_syntax.specs.Dialects.{IsFrontIn}
use Rattle.weedle_syntax.specs.Tree.{node_at}
use Rattle.weedle_places.specs.Items.{AreItems}
use Rattle.weedle_places.specs.Members.{member_in, IsBehindBrace, spans_of}
use Rattle.weedle_places.specs.Standing.{IsMemberIn, IsMemberOfIn}
use Rattle.weedle_places.proofs.PartFacts.{braces_of, if_ok_so, second_is}
use Rattle.weedle_places.proofs.members.members_in.Goals as goal

pub unreachable-requires : goal.unreachable-requires
unreachable-requires c =
    let front = subst (IsFrontIn c.args.syntax.now.dialect c.args.syntax.now.text) c.nodes.ensures.are c.nodes.ensures.front in
    let w = braces_of c.args.syntax.now.dialect c.args.syntax.now.text c.args.syntax.now.nodes front c.args.braced c.requires.within c.requires.list.0 c.requires.list.1 in
    let are = w.are in
    let none = c.in_default.ensures.steps.0 in
    let all = c.children-parts.ensures in
    absurd (let n : ⊥ = cc in n)

pub unreachable-requires-in_default-next : goal.unreachable-requires-in_default-next
unreachable-requires-in_default-next c =
    let front = subst (IsFrontIn c.args.syntax.now.dialect c.args.syntax.now.text) c.nodes.ensures.are c.nodes.ensures.front in
    let w = braces_of c.args.syntax.now.dialect c.args.syntax.now.text c.args.syntax.now.nodes front c.args.braced c.requires.within c.requires.list.0 c.requires.list.1 in
    let are = w.are in
    let first = c.in-Some.ensures.steps in
    let none = c.in_default-next.ensures.steps.0 in
    let all = c.children-parts.ensures in
    absurd (let n : ⊥ = cc in n)

pub listed-requires-clause-within : goal.listed-requires-clause-within
listed-requires-clause-within c =
    let front = subst (IsFrontIn c.args.syntax.now.dialect c.args.syntax.now.text) c.nodes.ensures.are c.nodes.ensures.front in
    let w = braces_of c.args.syntax.now.dialect c.args.syntax.now.text c.args.syntax.now.nodes front c.args.braced c.requires.within c.requires.list.0 c.requires.list.1 in
    let same = second_is _ _ _ _ w.others _ _ w.brace w.list c.children-parts.ensures w.are c.in-Some.ensures.steps c.in-Some-next.ensures.steps in
    subst (λ z. z < length c.args.syntax.now.nodes) same w.within

pub listed-requires-clause-many : goal.listed-requires-clause-many
listed-requires-clause-many c =
    let ns = c.args.syntax.now.nodes in
    let front = subst (IsFrontIn c.args.syntax.now.dialect c.args.syntax.now.text) c.nodes.ensures.are c.nodes.ensures.front in
    let w = braces_of c.args.syntax.now.dialect c.args.syntax.now.text ns front c.args.braced c.requires.within c.requires.list.0 c.requires.list.1 in
    let same = second_is _ _ _ _ w.others _ _ w.brace w.list c.children-parts.ensures w.are c.in-Some.ensures.steps c.in-Some-next.ensures.steps in
    (c.requires.list.0, subst (λ z. row_of (node_at ns z).rule ≡ Many c.requires.list.0) same w.many)

pub returns-clause-are : goal.returns-clause-are
returns-clause-are c =
    let ns = c.args.syntax.now.nodes in
    let text = c.args.syntax.now.text in
    let front = subst (IsFrontIn c.args.syntax.now.dialect text) c.nodes.ensures.are c.nodes.ensures.front in
    let list = c.in-Some-next.list in
    if_ok_so c.listed.result (λ ms. (y : ℕ) → row_of (node_at ns list).rule ≡ Many y → AreItems text y (node_at ns list).start (spans_of ms.items))
    (λ ms. (y : ℕ) → member_in c.args.syntax.now.dialect (node_at ns c.args.braced).rule ≡ Some y → IsBehindBrace text y (node_at ns c.args.braced).start (spans_of ms.items))
    (λ ms h y is. (
    let w = braces_of c.args.syntax.now.dialect text ns front c.args.braced c.requires.within y is in
    let same = second_is _ _ _ _ w.others _ _ w.brace w.list c.children-parts.ensures w.are c.in-Some.ensures.steps c.in-Some-next.ensures.steps in (
      (node_at ns list).start,
      subst (λ z. EndsAt text OPEN_BRACE (node_at ns c.args.braced).start (node_at ns z).start) same w.behind,
      h y (subst (λ z. row_of (node_at ns z).rule ≡ Many y) same w.many),
    )))
    c.listed.ensures.are

pub returns-clause-each : goal.returns-clause-each
returns-clause-each c =
    let ns = c.args.syntax.now.nodes in
    let text = c.args.syntax.now.text in
    let front = subst (IsFrontIn c.args.syntax.now.dialect text) c.nodes.ensures.are c.nodes.ensures.front in
    let list = c.in-Some-next.list in
    let y = c.requires.list.0 in
    let w = braces_of c.args.syntax.now.dialect text ns front c.args.braced c.requires.within y c.requires.list.1 in
    let same = second_is _ _ _ _ w.others _ _ w.brace w.list c.children-parts.ensures w.are c.in-Some.ensures.steps c.in-Some-next.ensures.steps in
    if_ok_so c.listed.result (λ ms. (z : ℕ) → row_of (node_at ns list).rule ≡ Many z → All (IsMemberOfIn c.args.syntax.now.dialect text ns z) ms.items)
    (λ ms. All (IsMemberIn c.args.syntax.now.dialect text ns) ms.items)
    (λ ms h. All-weaker (IsMemberOfIn c.args.syntax.now.dialect text ns y) (IsMemberIn c.args.syntax.now.dialect text ns) (λ m k. ((node_at ns c.args.braced).rule, y, c.requires.list.1, k)) ms.items
    (h y (subst (λ z. row_of (node_at ns z).rule ≡ Many y) same w.many)))
    c.listed.ensures.each
