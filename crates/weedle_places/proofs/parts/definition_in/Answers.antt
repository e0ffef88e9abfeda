use Rattle.std.proofs.Common.{◌≡◌, ◌+◌, ◌<◌, length, sym, subst, ◌∙◌, eq-eqb, eqb-true}
use Rattle.weedle_grammar.specs.written.Table.TodayDefinitions.{TODAY_DEFINITION}
use Rattle.weedle_syntax.specs.Dialects.{IsFrontIn}
use Rattle.weedle_syntax.specs.Tree.{node_at, children_of}
use Rattle.weedle_places.proofs.PartFacts.{one_is, one_not}
use Rattle.weedle_places.proofs.PieceFacts.{piece_held, held_is, none_held}
use Rattle.weedle_places.proofs.parts.definition_in.Goals as goal

pub unreachable-requires : goal.unreachable-requires
unreachable-requires c =
    let front = subst (IsFrontIn c.args.syntax.now.dialect c.args.syntax.now.text) c.nodes.ensures.are c.nodes.ensures.front in
    let k = piece_held c.args.syntax.now.dialect c.args.syntax.now.text c.args.syntax.now.nodes front c.args.piece c.requires.within c.requires.rule in
    absurd (one_not _ _ _ c.children-kinds.ensures k.are c.in_default.ensures.steps.0)

pub rule_at-requires : goal.rule_at-requires
rule_at-requires c =
    let front = subst (IsFrontIn c.args.syntax.now.dialect c.args.syntax.now.text) c.nodes.ensures.are c.nodes.ensures.front in
    let k = piece_held c.args.syntax.now.dialect c.args.syntax.now.text c.args.syntax.now.nodes front c.args.piece c.requires.within c.requires.rule in
    let same = one_is _ _ _ _ k.kind c.children-kinds.ensures k.are c.in-Some.ensures.steps in
    subst (λ z. z < length c.args.syntax.now.nodes) same k.within

pub returns-then-eq : goal.returns-then-eq
returns-then-eq c =
    let ns = c.args.syntax.now.nodes in
    let i = c.args.piece in
    let front = subst (IsFrontIn c.args.syntax.now.dialect c.args.syntax.now.text) c.nodes.ensures.are c.nodes.ensures.front in
    let k = piece_held c.args.syntax.now.dialect c.args.syntax.now.text ns front i c.requires.within c.requires.rule in
    let same = one_is _ _ _ _ k.kind c.children-kinds.ensures k.are c.in-Some.ensures.steps in
    held_is c.args.syntax.now.text ns i ((node_at ns i).depth + 1) (children_of ns i) k c.in-Some.kind same (sym c.rule_at.ensures ∙ eqb-true _ _ (sym c.eq.ensures ∙ c.if-eq.true))

pub returns : goal.returns
returns c =
    let ns = c.args.syntax.now.nodes in
    let i = c.args.piece in
    let front = subst (IsFrontIn c.args.syntax.now.dialect c.args.syntax.now.text) c.nodes.ensures.are c.nodes.ensures.front in
    let k = piece_held c.args.syntax.now.dialect c.args.syntax.now.text ns front i c.requires.within c.requires.rule in
    let same = one_is _ _ _ _ k.kind c.children-kinds.ensures k.are c.in-Some.ensures.steps in
    none_held c.args.syntax.now.text ns i ((node_at ns i).depth + 1) (children_of ns i) k c.in-Some.kind same (λ h. (
    let rule : c.rule_at.result ≡ TODAY_DEFINITION = c.rule_at.ensures ∙ h in
    let is = c.eq.ensures ∙ eq-eqb _ _ rule in
    let no = c.if-eq.false in
    let n : ⊥ = cc in n))
