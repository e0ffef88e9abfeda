-- What is answered where the nodes at the front of a text are known.
use Rattle.std.proofs.Common.{◌≡◌, ◌<◌, ◌≤◌, ◌∙◌, ℕ, List, length, subst, sym, arith}
use Rattle.weedle_grammar.proofs.Exists.{stays_inside}
use Rattle.weedle_grammar.specs.written.Table.{webidl}
use Rattle.weedle_rules.specs.Outcomes.{EndsAt}
use Rattle.weedle_rules.proofs.OutcomeFacts.{one_end}
use Rattle.weedle_c.specs.Answers.{HasTreeIn, IsUnreadIn}
use Rattle.weedle_c.specs.declared.reader.WeedleAnswer.{WeedleAnswer}
use Rattle.weedle_c.proofs.RuleFacts.{root_first}
use Rattle.weedle_syntax.specs.Dialects.{start_of}
use Rattle.weedle_syntax.specs.Syntax.{IsRuleFront, IsRuleTo, rest_of}
use Rattle.weedle_syntax.specs.declared.dialect.Dialect.{Dialect}
use Rattle.weedle_syntax.specs.declared.node.Node.{Node}

module _ (d : Dialect) {text : List ℕ} {ns : List Node} (front : IsRuleFront text (start_of d) ns) where
  -- the remaining input begins where the first node ends
  begins : EndsAt text (start_of d) 0 (rest_of ns)
  begins = subst (EndsAt text (start_of d) 0) (sym (root_first text (start_of d) front.0 ns front.2)) front.1

  within : rest_of ns ≤ length text
  within = stays_inside webidl text begins.1 (omega arith)

  -- that is inside of the text
  pub unread : {answer : WeedleAnswer} → answer.rest ≡ rest_of ns → rest_of ns < length text → IsUnreadIn d text answer
  unread {answer} is inside = record {
    refused = λ whole. let e : length text ≡ rest_of ns = one_end begins whole in omega arith;
    left = subst (EndsAt text (start_of d) 0) (sym is) begins;
    unread = omega (arith, is, inside);
  }

  -- it is at its end
  pub has_tree : {answer : WeedleAnswer} → length text ≤ rest_of ns → answer.rest ≡ rest_of ns → answer.count ≡ length ns → HasTreeIn d text answer ns
  has_tree {answer} done rest count =
      let inside = within in
      let at_end : rest_of ns ≡ length text = omega arith in
      let whole : EndsAt text (start_of d) 0 (length text) = subst (EndsAt text (start_of d) 0) at_end begins in
      let end : front.0 ≡ length text = one_end whole front.1 in
      record {
        whole = whole;
        is_syntax = subst (λ e. IsRuleTo text (start_of d) e ns) end front.2;
        count = count;
        rest = rest ∙ at_end;
      }
