-- What is answered where the nodes of a rule at the front of a text are known.
use Rattle.std.proofs.Common.{◌≡◌, ◌∙◌, ℕ, List, ◌∷◌, ◌++◌, length, ap, subst, sym}
use Rattle.weedle_rules.specs.Outcomes.{EndsAt}
use Rattle.weedle_c.specs.Answers.{HasRule}
use Rattle.weedle_c.specs.declared.reader.WeedleAnswer.{WeedleAnswer}
use Rattle.weedle_syntax.specs.Syntax.{IsRuleFront, IsRuleTo, rest_of, a_tree}
use Rattle.weedle_syntax.specs.declared.node.Node.{Node}

-- the first node's end
pub root_first : (text : List ℕ) (rule end : ℕ) (ns : List Node) → IsRuleTo text rule end ns → rest_of ns ≡ end
root_first text rule end ns (a_tree p a b e) = ap rest_of e

module _ {text : List ℕ} {rule : ℕ} {ns : List Node} (front : IsRuleFront text rule ns) where
  pub has_rule : {answer : WeedleAnswer} → answer.rest ≡ rest_of ns → answer.count ≡ length ns → HasRule text rule answer ns
  has_rule {answer} rest count =
      let at : front.0 ≡ answer.rest = sym (rest ∙ root_first text rule front.0 ns front.2) in
      record {
        reads = subst (EndsAt text rule 0) at front.1;
        are = subst (λ e. IsRuleTo text rule e ns) at front.2;
        count = count;
      }
