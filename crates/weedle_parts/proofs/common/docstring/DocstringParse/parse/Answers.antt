use Rattle.std.proofs.Common.{refl, string_bytes}
use Rattle.weedle_grammar.specs.Trees.{Lines}
use Rattle.weedle_grammar.specs.written.Table.Leaves.{DOCSTRING}
use Rattle.weedle_base.proofs.RuleFacts.{own_rule, got_rule, fault_rule}
use Rattle.weedle_base.proofs.Steps.{exit_answers}
use Rattle.weedle_parts.proofs.common.docstring.DocstringParse.parse.Goals as goal

pub returns-in_err-rest : goal.returns-in_err-rest
returns-in_err-rest c = exit_answers c.from_residual.result (fault_rule (own_rule DOCSTRING (λ s. Lines (string_bytes s)) (Unit {0})) (λ v. Lines (string_bytes v.0)) c.in_err-rest.ensures) c.from_residual.ensures.1

pub returns : goal.returns
returns c = got_rule (own_rule DOCSTRING (λ s. Lines (string_bytes s)) (Unit {0})) (λ v. Lines (string_bytes v.0)) _ c.in_ok-rest.ensures refl
