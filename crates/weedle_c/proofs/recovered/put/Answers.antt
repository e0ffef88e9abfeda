use Rattle.std.proofs.Common.{◌≡◌, inl, inr, true}
use Rattle.weedle_c.proofs.recovered.put.Goals as goal

pub returns-then-not-all_parts_fit-clause-too_long : goal.returns-then-not-all_parts_fit-clause-too_long
returns-then-not-all_parts_fit-clause-too_long c =
    λ _. inr (c.args.found.now, c.args.tree.now, c.requires.is, inl (λ all. let t = c.if-not-all_parts_fit.ensures.1 all in cc))

pub returns-then-not-all_fit-clause-too_long : goal.returns-then-not-all_fit-clause-too_long
returns-then-not-all_fit-clause-too_long c =
    λ _. inr (c.args.found.now, c.args.tree.now, c.requires.is, inr (λ all. let t = c.if-not-all_fit.ensures.1 all in cc))
