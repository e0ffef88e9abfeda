use Rattle.std.proofs.Common.{◌≡◌, ◌<◌, ◌≤◌, ◌∙◌, ap, length, refl, arith}
use Rattle.weedle_c.specs.declared.reader.WeedleAnswer.{WeedleAnswer}
use Rattle.weedle_c.specs.Answers.{IsUnreadIn}
use Rattle.weedle_c.proofs.FormatFacts.{says_the_same}
use Rattle.weedle_c.proofs.TreeFacts.{unread}
use Rattle.weedle_syntax.specs.Syntax.{rest_of}
use Rattle.weedle_c.proofs.format.format_text.Goals as goal

pub returns-then-rest-raw-clause-refused : goal.returns-then-rest-raw-clause-refused
returns-then-rest-raw-clause-refused c =
    let nodes = c.in-Ok.nodes.items in
    let rest : c.rest_of-rest.result ≡ rest_of nodes = c.rest_of-rest.ensures ∙ ap rest_of c.deref.ensures.value in
    let before = c.if-rest-raw.true in
    let inside : rest_of nodes < length c.args.raw.now = omega (arith, rest, before) in
    let left : WeedleAnswer = record { count = 0; rest = c.rest_of-rest.result } in
    let is : IsUnreadIn c.args.dialect c.args.raw.now left = unread c.args.dialect c.in-Ok.ensures rest inside in
    λ _. record { refused = is.refused; left = is.left; unread = is.unread }

pub put-requires-in-Ok-None-clause-same : goal.put-requires-in-Ok-None-clause-same
put-requires-in-Ok-None-clause-same c =
    let nodes = c.in-Ok.nodes.items in
    let rest : c.rest_of-rest.result ≡ rest_of nodes = c.rest_of-rest.ensures ∙ ap rest_of c.deref.ensures.value in
    let behind = c.if-rest-raw.false in
    let done : length c.args.raw.now ≤ rest_of nodes = omega (arith, rest, behind) in
    says_the_same c.args.dialect c.in-Ok.ensures done c.in-Ok.ensures done refl
