-- The laws of the standard types.
use Rattle.std.specs.Global.{Box, Vec}
use Rattle.std.proofs.Common.{inl, inr}
use Rattle.weedle_base.specs.Reading.{Reading}
use Rattle.weedle_base.specs.Generic.{option_reading, pair_reading, boxed_reading, seen_reading}
use Rattle.weedle_base.specs.Runs.{run_reading, vec_step}
use Rattle.weedle_base.specs.RuleLaws.{OptionLaw, BoxLaw, VecLaw, PairLaw, TripleLaw}
use Rattle.weedle_base.proofs.RuleFacts.{wider_rule, option_rule, boxed_rule, pair_rule, triple_rule}
use Rattle.weedle_base.proofs.RunRules.{run_rule}

-- the law of `Option`
pub option_law : {V : Type 0} (R : Reading V) → OptionLaw R (option_reading R)
unfolding option_reading
option_law R x r tree rule row shape = option_rule rule r row shape

-- the law of `Box`
pub box_law : {V : Type 0} (R : Reading V) → BoxLaw R (boxed_reading (λ (b : Box V). b.value) R)
unfolding boxed_reading
box_law {V} R r tree rule = boxed_rule (λ (b : Box V). b.value) tt (λ grows. tt) rule

-- the law of `Vec`
pub vec_law : {V : Type 0} (R : Reading V) → VecLaw R (run_reading (λ (v : Vec V). v.items) (vec_step R))
vec_law {V} R x r tree rule row shape = run_rule (wider_rule (λ grows. tt) rule) (λ (v : Vec V). v.items) r row shape tt

-- the law of pairs
pub pair_law : {V W : Type 0} (R : Reading V) (S : Reading W) → PairLaw R S (pair_reading R S)
unfolding pair_reading
pair_law R S x y r f g first second row shape = pair_rule (wider_rule inl first) (wider_rule inr second) r row shape

-- the law of triples
pub triple_law : {T U V : Type 0} (P : Reading T) (Q : Reading U) (R : Reading V) → TripleLaw P Q R (seen_reading {X = T × U × V} (λ t. (t.0, (t.1, t.2))) (pair_reading P (pair_reading Q R)))
unfolding pair_reading seen_reading
triple_law {T} {U} {V} P Q R x y z r f g h first second third row shape =
    triple_rule (λ (t : T × U × V). (t.0, (t.1, t.2)))
    (wider_rule inl first) (wider_rule (λ grows. inr (inl grows)) second) (wider_rule (λ grows. inr (inr grows)) third) r row shape
