use Rattle.weedle_comparisons.proofs.ListingAttributes.{alike_listed, alike_names, listings_equal}
use Rattle.weedle_comparisons.proofs.types.copy_listing_attribute.Goals as goal

pub returns : goal.returns
returns c =
    let names = alike_names c.in_ok-copy.copy c.args.attribute.now c.in_ok-copy.ensures in
    let listed = alike_listed c.in_ok-copy.copy c.args.attribute.now c.in_ok-copy.ensures in
    (names, listed, (listings_equal _ _ _ _ _ c.eq-equal.ensures).1 (names, listed))
