use Rattle.std.proofs.Common.{refl}
use Rattle.weedle_grammar.specs.Trees.{Text}
use Rattle.weedle_base.proofs.TokenFacts.{got_own, fault_own}
use Rattle.weedle_parts.proofs.KeptFacts.{kept_reads, no_kept}
use Rattle.weedle_parts.proofs.literal.float.FloatValueLitParse.parse.Goals as goal

pub returns-in-Some : goal.returns-in-Some
returns-in-Some c = got_own (λ v. Text v.0.now) ⊥ _ (kept_reads c.skip_trivia-start.ensures refl refl c.taken.ensures c.skip_trivia.ensures) refl c.utf8.input c.skip_trivia.utf8

pub returns-in-None : goal.returns-in-None
returns-in-None c = fault_own (λ v. Text v.0.now) ⊥ (no_kept c.skip_trivia-start.ensures refl c.in-None.ensures) c.utf8.input c.mismatch.ensures
