use Rattle.std.proofs.Common.{inl, refl}
use Rattle.weedle_rules.specs.Outcomes.{FailsAt}
use Rattle.weedle_syntax.specs.Dialects.{definition_of}
use Rattle.weedle_syntax.specs.Tree.{node_at}
use Rattle.weedle_places.specs.Placed.{IsDefinition}
use Rattle.weedle_places.proofs.PlaceFacts.{adds_place}
use Rattle.weedle_places.proofs.place.add_place.Goals as goal

pub returns-in_default : goal.returns-in_default
returns-in_default c =
    let fails : FailsAt c.args.syntax.now.text (definition_of c.args.syntax.now.dialect) (node_at c.args.syntax.now.nodes c.args.piece).start = rw c.in_default.is at c.definition_at.ensures in
    inl (fails, refl)

pub members_at-requires-clause-within : goal.members_at-requires-clause-within
members_at-requires-clause-within c =
    let is : IsDefinition c.args.syntax.now.dialect c.args.syntax.now.text c.args.syntax.now.nodes c.args.piece c.in-Some.definition = rw c.in-Some.is at c.definition_at.ensures in
    is.within

pub members_at-requires-clause-rule : goal.members_at-requires-clause-rule
members_at-requires-clause-rule c =
    let is : IsDefinition c.args.syntax.now.dialect c.args.syntax.now.text c.args.syntax.now.nodes c.args.piece c.in-Some.definition = rw c.in-Some.is at c.definition_at.ensures in
    is.rule

pub values_at-requires : goal.values_at-requires
values_at-requires c =
    let is : IsDefinition c.args.syntax.now.dialect c.args.syntax.now.text c.args.syntax.now.nodes c.args.piece c.in-Some.definition = rw c.in-Some.is at c.definition_at.ensures in
    is.within

pub member_at-own-requires : goal.member_at-own-requires
member_at-own-requires c =
    let is : IsDefinition c.args.syntax.now.dialect c.args.syntax.now.text c.args.syntax.now.nodes c.args.piece c.in-Some.definition = rw c.in-Some.is at c.definition_at.ensures in
    is.within

pub returns : goal.returns
returns c =
    let is : IsDefinition c.args.syntax.now.dialect c.args.syntax.now.text c.args.syntax.now.nodes c.args.piece c.in-Some.definition = rw c.in-Some.is at c.definition_at.ensures in
    adds_place c.args.syntax.now.dialect c.args.syntax.now.text c.args.syntax.now.nodes c.args.piece c.in-Some.definition c.args.found.now.items c.push.new.self.items _ is c.in_ok-push.ensures.items
    c.member_at-own.ensures c.in_ok-members.ensures.are c.in_ok-members.ensures.each c.in_ok-values.ensures
