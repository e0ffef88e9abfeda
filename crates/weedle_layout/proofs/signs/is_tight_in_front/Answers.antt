-- The place of each sign among the words; of the first two and of the last it is found.
use Rattle.std.proofs.Common.{arith, rules}
use Rattle.std.proofs.lemmas.Grind.{common_steps}
use Rattle.weedle_layout.proofs.signs.is_tight_in_front.Goals as goal

pub returns-in-59-3 : goal.returns-in-59-3
returns-in-59-3 c = (λ t. (2, omega arith, grind (arith, common_steps)), λ f. search rules)

pub returns-in-59-4 : goal.returns-in-59-4
returns-in-59-4 c = (λ t. (3, omega arith, grind (arith, common_steps)), λ f. search rules)

pub returns-in-59-5 : goal.returns-in-59-5
returns-in-59-5 c = (λ t. (4, omega arith, grind (arith, common_steps)), λ f. search rules)

pub returns-in-59-6 : goal.returns-in-59-6
returns-in-59-6 c = (λ t. (5, omega arith, grind (arith, common_steps)), λ f. search rules)

pub returns-in-59-7 : goal.returns-in-59-7
returns-in-59-7 c = (λ t. (6, omega arith, grind (arith, common_steps)), λ f. search rules)
