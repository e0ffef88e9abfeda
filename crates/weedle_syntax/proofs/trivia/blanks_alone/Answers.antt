use Rattle.std.proofs.Common.{sym, ◌∙◌}
use Rattle.weedle_syntax.proofs.TriviaFacts.{first_inside, all_inside}
use Rattle.weedle_syntax.proofs.trivia.blanks_alone.Goals as goal

pub end_of_run-end-requires : goal.end_of_run-end-requires
end_of_run-end-requires c = first_inside c.args.text.now c.args.place c.in-Some.first c.requires (sym c.in-Some.is ∙ c.end_of_one.ensures)

pub refuses-requires-2 : goal.refuses-requires-2
refuses-requires-2 c =
    let first = first_inside c.args.text.now c.args.place c.in-Some.first c.requires (sym c.in-Some.is ∙ c.end_of_one.ensures) in
    record { within = all_inside c.args.text.now c.in-Some.first c.end_of_run-end.result first c.end_of_run-end.ensures }
