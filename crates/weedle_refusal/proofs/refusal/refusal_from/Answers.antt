use Rattle.std.proofs.lemmas.Str.{IsCharBoundary-start}
use Rattle.weedle_grammar.proofs.GrammarFacts.{at_boundary}
use Rattle.weedle_grammar.specs.written.Table.Definitions.{DEFINITIONS}
use Rattle.weedle_refusal.proofs.RefusalFacts.{refused}
use Rattle.weedle_syntax.specs.declared.dialect.Dialect.TheVariants.{Weedle2}
use Rattle.weedle_refusal.proofs.refusal.refusal_from.Goals as goal

pub refusal_at-requires : goal.refusal_at-requires
refusal_at-requires c =
    let raw = c.args.raw.now in
    at_boundary raw DEFINITIONS 0 c.utf8.raw (IsCharBoundary-start raw c.utf8.raw) c.requires.rest.0 c.args.start c.requires.rest.1

pub returns-clause-is : goal.returns-clause-is
returns-clause-is c = refused Weedle2 c.requires.rest c.requires.unread c.in_ok-refusal.ensures.said
