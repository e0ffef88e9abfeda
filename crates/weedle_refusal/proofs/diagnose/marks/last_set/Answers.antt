use Rattle.std.proofs.Common.{ℕ, ◌-◌, ◌/◌, ◌%◌, ◌≤◌, arith}
use Rattle.std.proofs.Math.Facts.{Fits-lt-pow}
use Rattle.weedle_refusal.proofs.LastBit.{none_set, few_zeros, last_set_is}
use Rattle.weedle_refusal.proofs.diagnose.marks.last_set.Goals as goal

pub returns-then-bits-eq0-clause-none : goal.returns-then-bits-eq0-clause-none
returns-then-bits-eq0-clause-none c = none_set c.args.marks.now c.args.behind c.requires.some c.if-bits-eq0.true

pub overflow_sub-result : goal.overflow_sub-result
overflow_sub-result c = within (few_zeros c.args.marks.now c.args.behind c.requires.some (Fits-lt-pow (c.type_inv.marks ((c.args.behind - 1) / 64))) c.if-bits-eq0.false)
  where
    within : {t : ℕ} → t ≤ (c.args.behind - 1) % 64 → t ≤ c.args.behind - 1
    within h = omega arith

pub returns-clause-found : goal.returns-clause-found
returns-clause-found c = last_set_is c.args.marks.now c.args.behind c.requires.some (Fits-lt-pow (c.type_inv.marks ((c.args.behind - 1) / 64))) c.if-bits-eq0.false
