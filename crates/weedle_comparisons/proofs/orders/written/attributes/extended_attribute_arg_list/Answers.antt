-- Written by tools/orders.py, and not edited by hand.
use Rattle.weedle_types.specs.contracts.attribute.ExtendedAttributeArgListOrd.TheImpl.Laws as order
use Rattle.weedle_comparisons.proofs.orders.written.attributes.extended_attribute_arg_list.Goals as goal

pub returns : goal.returns
returns c = order.is
