-- Written by tools/orders.py, and not edited by hand.
use Rattle.weedle_types.specs.contracts.types.AttributedNonAnyTypeOrd.TheImpl.Laws as order
use Rattle.weedle_comparisons.proofs.orders.written.types.attributed_non_any_type.Goals as goal

pub returns : goal.returns
returns c = order.is
