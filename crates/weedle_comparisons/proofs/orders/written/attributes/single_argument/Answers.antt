-- Written by tools/orders.py, and not edited by hand.
use Rattle.weedle_types.specs.contracts.argument.SingleArgumentOrd.TheImpl.Laws as order
use Rattle.weedle_comparisons.proofs.orders.written.attributes.single_argument.Goals as goal

pub returns : goal.returns
returns c = order.is
