use Rattle.std.proofs.Common.{◌≡◌, ◌<◌, ◌≤◌, ℕ, List, IsCharBoundary, length, subst, arith}
use Rattle.std.proofs.lemmas.Str.{IsCharBoundary-from_rest, IsCharBoundary-start}
use Rattle.weedle_grammar.proofs.GrammarFacts.{at_boundary}
use Rattle.weedle_refusal.proofs.RefusalFacts.{refused_behind}
use Rattle.weedle_refusal.specs.Refusal.{RestBeginsIn}
use Rattle.weedle_syntax.specs.Dialects.{start_of}
use Rattle.weedle_refusal.proofs.behind.refusal_behind_in.Goals as goal

pub refusal_at_in-requires : goal.refusal_at_in-requires
refusal_at_in-requires c =
    let rest = c.range_from-rest.result.now in
    let utf8 = c.range_from-rest.utf8 in
    let at = c.in_ok-left.left in
    let begins : RestBeginsIn c.args.dialect rest at = c.in_ok-left.ensures.rest in
    let there : IsCharBoundary rest at = at_boundary rest (start_of c.args.dialect) 0 utf8 (IsCharBoundary-start rest utf8) begins.0 at begins.1 in
    let B : List ℕ → Type 0 = λ text. IsCharBoundary text at in
    IsCharBoundary-from_rest c.args.raw.now c.args.from at c.requires.0 (subst B c.range_from-rest.ensures.value there)

pub returns-clause-explains : goal.returns-clause-explains
returns-clause-explains c =
    let rest = c.range_from-rest.result.now in
    let at = c.in_ok-left.left in
    let within : at ≤ length rest = c.in_ok-left.ensures.within in
    let differ = c.if-left-rest.false in
    let unread : at < length rest = omega arith in
    let R : List ℕ → Type 0 = λ text. RestBeginsIn c.args.dialect text at in
    let U : List ℕ → Type 0 = λ text. at < length text in
    refused_behind c.args.dialect (subst R c.range_from-rest.ensures.value c.in_ok-left.ensures.rest) (subst U c.range_from-rest.ensures.value unread) c.in_ok-refusal.ensures.said
