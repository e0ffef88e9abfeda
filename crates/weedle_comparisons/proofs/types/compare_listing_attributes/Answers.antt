use Rattle.weedle_comparisons.proofs.ListingAttributes.{listings_equal}
use Rattle.weedle_comparisons.proofs.types.compare_listing_attributes.Goals as goal

pub returns-clause-equal : goal.returns-clause-equal
returns-clause-equal c = listings_equal _ _ _ _ _ c.compare.ensures.equal
