use Rattle.std.proofs.Common.{◌≡◌, ◌<◌, ◌≤◌, ◌∙◌, ℕ, List, IsCharBoundary, ap, length, sym, subst, arith}
use Rattle.std.proofs.lemmas.Str.{IsCharBoundary-from_rest, IsCharBoundary-start}
use Rattle.weedle_grammar.proofs.GrammarFacts.{at_boundary}
use Rattle.weedle_grammar.specs.written.Table.Definitions.{DEFINITIONS}
use Rattle.weedle_refusal.proofs.FrontFacts.{rest_begins, rest_within}
use Rattle.weedle_refusal.proofs.RefusalFacts.{refused_behind}
use Rattle.weedle_syntax.specs.Syntax.{RestBegins, rest_of}
use Rattle.weedle_syntax.specs.declared.dialect.Dialect.TheVariants.{Weedle2}
use Rattle.weedle_refusal.proofs.behind.refusal_behind.Goals as goal

pub refusal_at-requires : goal.refusal_at-requires
refusal_at-requires c =
    let rest = c.range_from-rest.result.now in
    let utf8 = c.range_from-rest.utf8 in
    let at = c.rest_of-left.result in
    let left : at ≡ rest_of c.in_ok-nodes.nodes.items = c.rest_of-left.ensures ∙ ap rest_of c.deref.ensures.value in
    let begins : RestBegins rest at = subst (RestBegins rest) (sym left) (rest_begins c.in_ok-nodes.ensures.are) in
    let there : IsCharBoundary rest at = at_boundary rest DEFINITIONS 0 utf8 (IsCharBoundary-start rest utf8) begins.0 at begins.1 in
    let B : List ℕ → Type 0 = λ text. IsCharBoundary text at in
    IsCharBoundary-from_rest c.args.raw.now c.args.from at c.requires.0 (subst B c.range_from-rest.ensures.value there)

pub returns-clause-explains : goal.returns-clause-explains
returns-clause-explains c =
    let rest = c.range_from-rest.result.now in
    let at = c.rest_of-left.result in
    let left : at ≡ rest_of c.in_ok-nodes.nodes.items = c.rest_of-left.ensures ∙ ap rest_of c.deref.ensures.value in
    let begins : RestBegins rest at = subst (RestBegins rest) (sym left) (rest_begins c.in_ok-nodes.ensures.are) in
    let within : rest_of c.in_ok-nodes.nodes.items ≤ length rest = rest_within c.in_ok-nodes.ensures.are in
    let differ = c.if-left-rest.false in
    let unread : at < length rest = omega arith in
    let R : List ℕ → Type 0 = λ text. RestBegins text at in
    let U : List ℕ → Type 0 = λ text. at < length text in
    refused_behind Weedle2 (subst R c.range_from-rest.ensures.value begins) (subst U c.range_from-rest.ensures.value unread) c.in_ok-refusal.ensures.said
