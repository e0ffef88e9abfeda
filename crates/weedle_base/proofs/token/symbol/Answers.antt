use Rattle.std.proofs.Common.{refl}
use Rattle.weedle_grammar.specs.Trees.{Mark}
use Rattle.weedle_base.proofs.TokenFacts.{symbol_lacks, symbol_reads, got_own, fault_own}
use Rattle.weedle_base.proofs.token.symbol.Goals as goal

pub returns-in-None-clause-outcome : goal.returns-in-None-clause-outcome
returns-in-None-clause-outcome g c =
    fault_own (λ v. Mark) ⊥ (symbol_lacks c.skip_trivia-start.ensures c.requires c.in-None.ensures.cases) c.utf8.input c.mismatch.ensures

pub returns-in-Some-clause-outcome : goal.returns-in-Some-clause-outcome
returns-in-Some-clause-outcome g c =
    got_own (λ v. Mark) ⊥ _ (symbol_reads c.skip_trivia-start.ensures c.requires c.in-Some.ensures.cases c.skip_trivia.ensures)
    refl c.utf8.input c.skip_trivia.utf8
