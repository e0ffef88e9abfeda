use Rattle.std.proofs.Common.{sym, ◌∙◌, refl}
use Rattle.weedle_grammar.proofs.Suffix.{fails, no_node}
use Rattle.weedle_grammar.specs.written.Table.Trivia.{NOT_NEXT_SLASH, LINE_COMMENT}
use Rattle.weedle_grammar.proofs.SilentRules.{exit, along, last, lost, took_seq}
use Rattle.weedle_grammar.proofs.WordFacts.{look_fails, look_took}
use Rattle.weedle_grammar.proofs.trivia.line_comment.Goals as goal

pub returns-in_err-after : goal.returns-in_err-after
returns-in_err-after c = exit LINE_COMMENT c.from_residual.ensures (no_node refl (fails c.in_err-after.ensures))

pub returns-then-next_is : goal.returns-then-next_is
returns-then-next_is c =
    no_node refl (lost c.in_ok-after.ensures (fails (look_fails NOT_NEXT_SLASH refl refl (sym c.next_is.ensures ∙ c.if-next_is.true))))

pub returns : goal.returns
returns c =
    let look = look_took NOT_NEXT_SLASH refl refl (sym c.next_is.ensures ∙ c.if-next_is.false) in
    let line = c.after_line.ensures in
    took_seq refl refl (along c.in_ok-after.ensures (along look (along line.1 (last line.2))))
