-- The readings of the two types are lawful: lemmas that their laws need.
use Rattle.std.proofs.Common.{sym, ◌∙◌}
use Rattle.std.proofs.lemmas.Str.{IsCharBoundary-start}
use Rattle.weedle_base.specs.Alike.{IsEquivalence}
use Rattle.weedle_base.specs.Reading.{IsLawful}
use Rattle.weedle_leaf_rows.specs.Users.{nothing_reading, fuse_reading}

all_alike : {V : Type 0} → IsEquivalence {V = V} (λ v w. Unit {0})
all_alike = record { same = λ v. tt; back = λ v w h. tt; along = λ u v w h l. tt }

pub nothing_lawful : {V : Type 0} → IsLawful (nothing_reading {V = V})
nothing_lawful = record {
  within = λ s v k u h. rw h (IsCharBoundary-start s u);
  one = λ s v w k l u h m. (tt, h ∙ sym m);
  apart = λ s v k u h m. m;
  equivalence = all_alike;
  growing = λ s r code h. h;
}

pub fuse_lawful : {V : Type 0} → IsLawful (fuse_reading {V = V})
fuse_lawful = record {
  within = λ s v k u h. absurd h;
  one = λ s v w k l u h m. absurd h;
  apart = λ s v k u h m. h;
  equivalence = all_alike;
  growing = λ s r code h. tt;
}
