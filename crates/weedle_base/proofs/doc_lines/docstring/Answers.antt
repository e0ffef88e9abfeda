use Rattle.std.proofs.Common.{◌≡◌, [], ◌∷◌, ◌++◌, refl, string_bytes}
use Rattle.weedle_grammar.specs.Trees.{Lines}
use Rattle.weedle_grammar.specs.written.Table.Leaves.{DOCSTRING}
use Rattle.weedle_grammar.proofs.Suffix.{fails, no_node}
use Rattle.weedle_base.proofs.TokenFacts.{got_own, fault_own, fault_full}
use Rattle.weedle_grammar.proofs.WordFacts.{rest_utf8}
use Rattle.weedle_base.proofs.LineFacts.{line_shorter, lined_first, lined_more, lined_all, when_ok}
use Rattle.weedle_base.proofs.doc_lines.docstring.Goals as goal

pub returns-in_default : goal.returns-in_default
returns-in_default c = fault_own (λ s. Lines (string_bytes s)) (Unit {0}) (no_node refl (fails c.in_default.ensures)) c.utf8.input c.mismatch.ensures

pub returns-in_default-from_str : goal.returns-in_default-from_str
returns-in_default-from_str c = fault_full DOCSTRING (λ s. Lines (string_bytes s)) c.utf8.input c.out_of_memory.ensures

pub loop-line-init : goal.loop-line-init
loop-line-init c = (rest_utf8 c.utf8.input c.in-Some.ensures, lined_first c.in-Some.ensures c.in-Ok.ensures.ok)

pub returns-then-is_err : goal.returns-then-is_err
returns-then-is_err c = fault_full DOCSTRING (λ s. Lines (string_bytes s)) c.utf8.input c.out_of_memory-then-is_err.ensures

pub loop-line-smaller : goal.loop-line-smaller
loop-line-smaller c = line_shorter c.loop-line.invariant.0 c.in-Some-doc_line.ensures

pub loop-line-preserved : goal.loop-line-preserved
loop-line-preserved c =
    let pushed : string_bytes c.push_line.new.text ≡ (string_bytes c.loop-line.text ++ (10 ∷ [])) ++ c.in-Some-doc_line.line.now =
    when_ok c.push_line.result c.if-is_err.ensures.negation c.push_line.ensures in
    (rest_utf8 c.loop-line.invariant.0 c.in-Some-doc_line.ensures, lined_more c.loop-line.invariant.1 c.in-Some-doc_line.ensures pushed)

pub returns : goal.returns
returns c =
    got_own (λ s. Lines (string_bytes s)) (Unit {0}) _ (lined_all c.loop-line.invariant.1 c.in_default-doc_line.ensures) refl c.utf8.input c.loop-line.invariant.0
