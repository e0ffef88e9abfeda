use Rattle.std.proofs.Common.{◌≡◌, ℕ, List, Some, sym, subst, ◌∙◌, ap}
use Rattle.weedle_grammar.specs.Rows.{Seq}
use Rattle.weedle_grammar.specs.written.Table.{row_of}
use Rattle.weedle_syntax.specs.Dialects.{IsFrontIn}
use Rattle.weedle_syntax.specs.Tree.{node_at}
use Rattle.weedle_places.specs.Members.{member_in, AreMembersIn, IsBehindBrace, spans_of}
use Rattle.weedle_places.proofs.NameFacts.{node_found}
use Rattle.weedle_places.proofs.PartFacts.{passing_starts, pass_within, pass_on, pass_in, pass_ends, if_ok_so}
use Rattle.weedle_places.proofs.members.members_of.Goals as goal

pub loop-part-init : goal.loop-part-init
loop-part-init c =
    let front = subst (IsFrontIn c.args.syntax.now.dialect c.args.syntax.now.text) c.nodes-nodes.ensures.are c.nodes-nodes.ensures.front in
    passing_starts c.args.syntax.now.dialect c.args.syntax.now.text c.args.syntax.now.nodes front c.args.kind c.requires.within c.requires.seq.0 _ c.requires.seq.1 (c.into_iter-part-iterator.ensures.into_iter_gives ∙ c.children-part-items.ensures)

pub members_in-requires-clause-within : goal.members_in-requires-clause-within
members_in-requires-clause-within c =
    let i = c.loop-part.invariant in
    pass_within c.args.syntax.now.dialect c.args.syntax.now.text c.args.syntax.now.nodes i.0 _ _ _ _ _ _ c.in-Some.ensures.steps i.2

pub members_in-requires-clause-list : goal.members_in-requires-clause-list
members_in-requires-clause-list c =
    let ns = c.args.syntax.now.nodes in
    let i = c.loop-part.invariant in
    let here = pass_within c.args.syntax.now.dialect c.args.syntax.now.text ns i.0 _ _ _ _ _ _ c.in-Some.ensures.steps i.2 in
    let node = node_found c.nodes-nodes.result.now ns c.in-Some.part c.index-nodes-part.result c.nodes-nodes.ensures.are here in
    let rule = ap (λ n. member_in c.dialect.result n.rule) node ∙ ap (λ d. member_in d (node_at ns c.in-Some.part).rule) c.dialect.ensures in
    (c.in-Some-member_in.field-0, sym rule ∙ sym c.member_in.ensures ∙ c.in-Some-member_in.is)

pub returns-in-Some-member_in-clause-are : goal.returns-in-Some-member_in-clause-are
returns-in-Some-member_in-clause-are c =
    let ns = c.args.syntax.now.nodes in
    let text = c.args.syntax.now.text in
    let i = c.loop-part.invariant in
    let here = pass_within c.args.syntax.now.dialect text ns i.0 _ _ _ _ _ _ c.in-Some.ensures.steps i.2 in
    let node = node_found c.nodes-nodes.result.now ns c.in-Some.part c.index-nodes-part.result c.nodes-nodes.ensures.are here in
    let dialect = c.args.syntax.now.dialect in
    let rule = ap (λ n. member_in c.dialect.result n.rule) node ∙ ap (λ d. member_in d (node_at ns c.in-Some.part).rule) c.dialect.ensures in
    let some : member_in dialect (node_at ns c.in-Some.part).rule ≡ Some c.in-Some-member_in.field-0 = sym rule ∙ sym c.member_in.ensures ∙ c.in-Some-member_in.is in
    if_ok_so c.members_in.result (λ ms. (y : ℕ) → member_in dialect (node_at ns c.in-Some.part).rule ≡ Some y → IsBehindBrace text y (node_at ns c.in-Some.part).start (spans_of ms.items))
    (λ ms. (parts : List ℕ) → row_of (node_at ns c.args.kind).rule ≡ Seq parts → AreMembersIn c.args.syntax.now.dialect text parts (node_at ns c.args.kind).start (spans_of ms.items))
    (λ ms h parts is. (
    let same : i.0 ≡ parts = cc in
    subst (λ z. AreMembersIn c.args.syntax.now.dialect text z (node_at ns c.args.kind).start (spans_of ms.items)) same
    (pass_in c.args.syntax.now.dialect text ns i.0 _ _ _ _ _ c.in-Some.part c.in-Some.ensures.steps i.2 c.in-Some-member_in.field-0 (spans_of ms.items) some (h c.in-Some-member_in.field-0 some))))
    c.members_in.ensures.are

pub loop-part-preserved : goal.loop-part-preserved
loop-part-preserved c =
    let ns = c.args.syntax.now.nodes in
    let text = c.args.syntax.now.text in
    let i = c.loop-part.invariant in
    let here = pass_within c.args.syntax.now.dialect text ns i.0 _ _ _ _ _ _ c.in-Some.ensures.steps i.2 in
    let node = node_found c.nodes-nodes.result.now ns c.in-Some.part c.index-nodes-part.result c.nodes-nodes.ensures.are here in
    let rule = ap (λ n. member_in c.dialect.result n.rule) node ∙ ap (λ d. member_in d (node_at ns c.in-Some.part).rule) c.dialect.ensures in
    let none = sym rule ∙ sym c.member_in.ensures ∙ c.in_default.is in
    (i.0, i.1, pass_on c.args.syntax.now.dialect text ns i.0 _ _ _ _ _ c.in-Some.part c.in-Some.ensures.steps i.2 none)

pub returns-clause-are : goal.returns-clause-are
returns-clause-are c =
    let ns = c.args.syntax.now.nodes in
    let text = c.args.syntax.now.text in
    let i = c.loop-part.invariant in
    λ parts is. (
    let same : i.0 ≡ parts = cc in
    let none = pass_ends c.args.syntax.now.dialect text ns i.0 _ _ _ _ c.in-None.ensures.steps.0 i.2 in
    subst (λ z. AreMembersIn c.args.syntax.now.dialect text z (node_at ns c.args.kind).start (spans_of c.new.result.items)) same
    (subst (λ s. AreMembersIn c.args.syntax.now.dialect text i.0 (node_at ns c.args.kind).start (spans_of s)) (sym c.new.ensures.items) none))
