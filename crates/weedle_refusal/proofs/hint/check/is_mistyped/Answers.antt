use Rattle.std.proofs.Common.{◌+◌, refl, slice_range, subst}
use Rattle.weedle_refusal.specs.Near.{DifferByOne}
use Rattle.weedle_refusal.proofs.hint.check.is_mistyped.Goals as goal

pub returns : goal.returns
returns c = λ near. record {
  is_keyword = c.if-not-is_keyword.ensures refl;
  word = c.if-not-is_word.ensures refl;
  near = subst (DifferByOne (slice_range c.args.raw.now c.args.at (c.args.at + c.args.taken))) c.as_bytes.ensures.value (c.differ_by_one.ensures near);
}
