use Rattle.std.proofs.Common.{ap, sym, ◌∙◌}
use Rattle.weedle_grammar.specs.View.{row_view}
use Rattle.weedle_memo.specs.Tables.{option_of}
use Rattle.weedle_memo.proofs.TableFacts.{word_with, word_without, none_of}
use Rattle.weedle_memo.proofs.tables.word_of.Goals as goal

pub returns-in-Opt : goal.returns-in-Opt
returns-in-Opt c = word_with _ c.args.rule (ap option_of (sym c.row_of.ensures ∙ ap row_view c.in-Opt.is)) c.first_set.ensures

pub returns-in-Many : goal.returns-in-Many
returns-in-Many c = word_with _ c.args.rule (ap option_of (sym c.row_of.ensures ∙ ap row_view c.in-Many.is)) c.first_set-in-Many.ensures

pub returns-in-List : goal.returns-in-List
returns-in-List c = word_with _ c.args.rule (ap option_of (sym c.row_of.ensures ∙ ap row_view c.in-List.is)) c.first_set-in-List.ensures

pub returns-in-Tail : goal.returns-in-Tail
returns-in-Tail c = word_with _ c.args.rule (ap option_of (sym c.row_of.ensures ∙ ap row_view c.in-Tail.is)) c.first_set-in-Tail.ensures

pub returns-in_default : goal.returns-in_default
returns-in_default c =
    word_without _ c.args.rule (ap option_of (sym c.row_of.ensures) ∙ none_of c.row_of.result c.in_default.not-Opt c.in_default.not-Many c.in_default.not-List c.in_default.not-Tail)
    c.first_set-in_default.ensures
