-- Written by tools/orders.py, and not edited by hand.
use Rattle.weedle_types.specs.contracts.types.RecordTypesOrd.TheImpl.Laws as order
use Rattle.weedle_comparisons.proofs.orders.written.types.record_types.Goals as goal

pub returns : goal.returns
returns c = order.is
