use Rattle.std.proofs.Common.{◌≡◌, ◌<◌, ◌≤◌, length, subst, arith}
use Rattle.std.proofs.lemmas.Str.{IsCharBoundary-start}
use Rattle.weedle_grammar.proofs.GrammarFacts.{at_boundary}
use Rattle.weedle_refusal.proofs.RefusalFacts.{refused}
use Rattle.weedle_refusal.specs.Refusal.{RestBeginsIn}
use Rattle.weedle_syntax.specs.Dialects.{start_of}
use Rattle.weedle_refusal.proofs.refusal.refusal_in.Goals as goal

pub refusal_at_in-requires : goal.refusal_at_in-requires
refusal_at_in-requires c =
    let raw = c.args.raw.now in
    let begins : RestBeginsIn c.args.dialect raw c.in_ok-left.left = c.in_ok-left.ensures.rest in
    at_boundary raw (start_of c.args.dialect) 0 c.utf8.raw (IsCharBoundary-start raw c.utf8.raw) begins.0 c.in_ok-left.left begins.1

pub returns-clause-explains : goal.returns-clause-explains
returns-clause-explains c =
    let within : c.in_ok-left.left ≤ length c.args.raw.now = c.in_ok-left.ensures.within in
    let differ = c.if-left-raw.false in
    let unread : c.in_ok-left.left < length c.args.raw.now = omega arith in
    refused c.args.dialect c.in_ok-left.ensures.rest unread c.in_ok-refusal.ensures.said
