use Rattle.std.proofs.Common.{◌≡◌}
use Rattle.weedle_grammar.specs.Rows.{run_length}
use Rattle.weedle_grammar.proofs.WordFacts.{run_took, run_cut}
use Rattle.weedle_grammar.proofs.scan.after_run.Goals as goal

pub range_from-requires : goal.range_from-requires
range_from-requires c =
    let e : c.run-end.result ≡ run_length c.args.class c.args.input.now = rw c.as_bytes.ensures.value at c.run-end.ensures in
    λ positive. run_cut c.args.rule c.requires e c.utf8.input

pub returns : goal.returns
returns c =
    let e : c.run-end.result ≡ run_length c.args.class c.args.input.now = rw c.as_bytes.ensures.value at c.run-end.ensures in
    run_took c.requires e c.range_from.ensures.value
