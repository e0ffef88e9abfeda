use Rattle.std.proofs.Common.{◌≡◌, ◌<◌, ◌+◌, ℕ, List, length, sym, subst}
use Rattle.weedle_grammar.specs.Rows.{Seq}
use Rattle.weedle_grammar.specs.written.Table.{row_of}
use Rattle.weedle_syntax.specs.Dialects.{IsFrontIn}
use Rattle.weedle_syntax.specs.Tree.{node_at}
use Rattle.weedle_places.specs.Members.{AreMembersIn, HasKindMembers, spans_of}
use Rattle.weedle_places.proofs.PartFacts.{definition_kind, has_members, if_ok_so, one_is}
use Rattle.weedle_places.proofs.members.members_by_kind.Goals as goal

pub unreachable-requires : goal.unreachable-requires
unreachable-requires c =
    let front = subst (IsFrontIn c.args.syntax.now.dialect c.args.syntax.now.text) c.nodes.ensures.are c.nodes.ensures.front in
    let k = definition_kind c.args.syntax.now.dialect c.args.syntax.now.text c.args.syntax.now.nodes front c.args.choice c.requires.within c.requires.rule in
    let are = k.are in
    let none = c.in_default.ensures.steps.0 in
    let all = c.children-kinds.ensures in
    absurd (let n : ⊥ = cc in n)

pub members_of-requires-clause-within : goal.members_of-requires-clause-within
members_of-requires-clause-within c =
    let front = subst (IsFrontIn c.args.syntax.now.dialect c.args.syntax.now.text) c.nodes.ensures.are c.nodes.ensures.front in
    let k = definition_kind c.args.syntax.now.dialect c.args.syntax.now.text c.args.syntax.now.nodes front c.args.choice c.requires.within c.requires.rule in
    let same = one_is _ _ _ _ k.kind c.children-kinds.ensures k.are c.in-Some.ensures.steps in
    subst (λ z. z < length c.args.syntax.now.nodes) same k.within

pub members_of-requires-clause-seq : goal.members_of-requires-clause-seq
members_of-requires-clause-seq c =
    let ns = c.args.syntax.now.nodes in
    let front = subst (IsFrontIn c.args.syntax.now.dialect c.args.syntax.now.text) c.nodes.ensures.are c.nodes.ensures.front in
    let k = definition_kind c.args.syntax.now.dialect c.args.syntax.now.text ns front c.args.choice c.requires.within c.requires.rule in
    let same = one_is _ _ _ _ k.kind c.children-kinds.ensures k.are c.in-Some.ensures.steps in
    (k.seq.0, subst (λ z. row_of (node_at ns z).rule ≡ Seq k.seq.0) same k.seq.1)

pub returns-clause-are : goal.returns-clause-are
returns-clause-are c =
    let ns = c.args.syntax.now.nodes in
    let text = c.args.syntax.now.text in
    let front = subst (IsFrontIn c.args.syntax.now.dialect text) c.nodes.ensures.are c.nodes.ensures.front in
    let k = definition_kind c.args.syntax.now.dialect text ns front c.args.choice c.requires.within c.requires.rule in
    let same = one_is _ _ _ _ k.kind c.children-kinds.ensures k.are c.in-Some.ensures.steps in
    let kind = c.in-Some.kind in
    if_ok_so c.members_of.result (λ ms. (parts : List ℕ) → row_of (node_at ns kind).rule ≡ Seq parts → AreMembersIn c.args.syntax.now.dialect text parts (node_at ns kind).start (spans_of ms.items))
    (λ ms. HasKindMembers c.args.syntax.now.dialect text (node_at ns c.args.choice).start (spans_of ms.items))
    (λ ms h. has_members c.args.syntax.now.dialect text ns ((node_at ns c.args.choice).depth + 1) (node_at ns c.args.choice).start (node_at ns c.args.choice).end _ (spans_of ms.items) k
    (subst (λ z. AreMembersIn c.args.syntax.now.dialect text k.seq.0 (node_at ns z).start (spans_of ms.items)) (sym same) (h k.seq.0 (subst (λ z. row_of (node_at ns z).rule ≡ Seq k.seq.0) same k.seq.1))))
    c.members_of.ensures.are
