use Rattle.std.proofs.Common.{refl}
use Rattle.weedle_comparisons.proofs.ListingAttributes.{listings_equal}
use Rattle.weedle_comparisons.proofs.types.listing_attributes_hash_alike.Goals as goal

pub returns-clause-equal : goal.returns-clause-equal
returns-clause-equal c h = c.hash_alike.ensures.equal ((listings_equal _ _ _ _ _ refl).1 h)
