use Rattle.std.proofs.Common.{sym, ◌∙◌, arith}
use Rattle.weedle_syntax.proofs.TokenFacts.{token_fails, fail_steps, token_inside, token_end, token_laid, token_steps}
use Rattle.weedle_syntax.proofs.token.read_token.Goals as goal

pub returns-in_default-clause-end : goal.returns-in_default-clause-end
returns-in_default-clause-end c =
    token_fails c.args.text.now c.args.rule c.args.first c.args.run c.args.place c.args.depth c.args.first_class c.args.run_class c.args.nodes.now.items c.requires.row c.requires.one c.requires.others c.requires.within (sym c.in_default.is ∙ c.end_of_one.ensures)

pub returns-in_default-clause-steps : goal.returns-in_default-clause-steps
returns-in_default-clause-steps c =
    let some = c.if-limits-lt2.false in
    fail_steps c.args.text.now c.args.rule c.args.first c.args.run c.args.place c.args.depth c.args.first_class c.args.run_class c.args.nodes.now.items c.requires.row c.requires.one c.requires.others c.requires.within _ _ (omega (arith, some)) (sym c.in_default.is ∙ c.end_of_one.ensures)

pub end_of_run-end-requires : goal.end_of_run-end-requires
end_of_run-end-requires c =
    token_inside c.args.text.now c.args.rule c.args.first c.args.run c.args.place c.args.depth c.args.first_class c.args.run_class c.args.nodes.now.items c.requires.row c.requires.one c.requires.others c.requires.within c.in-Some.at (sym c.in-Some.is ∙ c.end_of_one.ensures)

pub returns-clause-end : goal.returns-clause-end
returns-clause-end c =
    token_end c.args.text.now c.args.rule c.args.first c.args.run c.args.place c.args.depth c.args.first_class c.args.run_class c.args.nodes.now.items c.requires.row c.requires.one c.requires.others c.requires.within c.in-Some.at c.end_of_run-end.result c.lay.new.nodes.items c.lay-2.new.nodes.items (sym c.in-Some.is ∙ c.end_of_one.ensures) c.end_of_run-end.ensures c.in_ok-lay.ensures.items c.in_ok-lay-2.ensures.items

pub returns-clause-lays : goal.returns-clause-lays
returns-clause-lays c =
    token_laid c.args.text.now c.args.rule c.args.first c.args.run c.args.place c.args.depth c.args.first_class c.args.run_class c.args.nodes.now.items c.requires.row c.requires.one c.requires.others c.requires.within c.in-Some.at c.end_of_run-end.result c.lay.new.nodes.items c.lay-2.new.nodes.items (sym c.in-Some.is ∙ c.end_of_one.ensures) c.end_of_run-end.ensures c.in_ok-lay.ensures.items c.in_ok-lay-2.ensures.items

pub returns-clause-steps : goal.returns-clause-steps
returns-clause-steps c =
    let some = c.if-limits-lt2.false in
    token_steps c.args.text.now c.args.rule c.args.first c.args.run c.args.place c.args.depth c.args.first_class c.args.run_class c.args.nodes.now.items c.requires.row c.requires.one c.requires.others c.requires.within c.in-Some.at c.end_of_run-end.result c.lay.new.nodes.items c.lay-2.new.nodes.items (sym c.in-Some.is ∙ c.end_of_one.ensures) c.end_of_run-end.ensures c.in_ok-lay.ensures.items c.in_ok-lay-2.ensures.items _ _ (omega (arith, some))
