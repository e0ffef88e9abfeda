-- Values made of values that are alike are alike: lemmas that the laws of `Parse` and `TryClone` need.
use Rattle.std.specs.Prelude.{◌≡◌, List, [], ◌∷◌, Option, Some, None}
use Rattle.std.proofs.Common.{refl, sym, ◌∙◌}
use Rattle.weedle_base.specs.Alike.{IsEquivalence, option_alike, all_alike}

-- equal values
pub equal_equivalence : {V : Type 0} → IsEquivalence {V = V} (λ v w. v ≡ w)
equal_equivalence = record { same = λ v. refl; back = λ v w e. sym e; along = λ u v w e f. e ∙ f }

-- values that are seen as others
pub seen_equivalence : {V X : Type 0} {alike : V → V → Type 0} (view : X → V) → IsEquivalence alike
    → IsEquivalence (λ (x y : X). alike (view x) (view y))
seen_equivalence view e = record {
  same = λ x. e.same (view x);
  back = λ x y h. e.back (view x) (view y) h;
  along = λ x y z h l. e.along (view x) (view y) (view z) h l;
}

-- pairs
pub pair_equivalence : {V W : Type 0} {alike : V → V → Type 0} {also : W → W → Type 0} → IsEquivalence alike
    → IsEquivalence also → IsEquivalence (λ (x y : V × W). alike x.0 y.0 × also x.1 y.1)
pair_equivalence first second = record {
  same = λ x. (first.same x.0, second.same x.1);
  back = λ x y h. (first.back x.0 y.0 h.0, second.back x.1 y.1 h.1);
  along = λ x y z h l. (first.along x.0 y.0 z.0 h.0 l.0, second.along x.1 y.1 z.1 h.1 l.1);
}

-- options and lists
module _ {V : Type 0} {alike : V → V → Type 0} (e : IsEquivalence alike) where
  option_same : (v : Option V) → option_alike alike v v
  option_same (Some v) = e.same v
  option_same None = tt

  option_back : (v w : Option V) → option_alike alike v w → option_alike alike w v
  option_back (Some v) (Some w) h = e.back v w h
  option_back (Some v) None h = h
  option_back None (Some w) h = h
  option_back None None h = tt

  option_along : (t v w : Option V) → option_alike alike t v → option_alike alike v w → option_alike alike t w
  option_along (Some t) (Some v) (Some w) h l = e.along t v w h l
  option_along (Some t) (Some v) None h l = l
  option_along (Some t) None w h l = absurd h
  option_along None (Some v) w h l = absurd h
  option_along None None (Some w) h l = l
  option_along None None None h l = tt

  pub option_equivalence : IsEquivalence (option_alike alike)
  option_equivalence = record { same = option_same; back = option_back; along = option_along }

  all_same : (v : List V) → all_alike alike v v
  all_same [] = tt
  all_same (v ∷ vs) = (e.same v, all_same vs)

  all_back : (v w : List V) → all_alike alike v w → all_alike alike w v
  all_back [] [] h = tt
  all_back [] (w ∷ ws) h = h
  all_back (v ∷ vs) [] h = h
  all_back (v ∷ vs) (w ∷ ws) h = (e.back v w h.0, all_back vs ws h.1)

  all_along : (t v w : List V) → all_alike alike t v → all_alike alike v w → all_alike alike t w
  all_along [] [] w h l = l
  all_along [] (v ∷ vs) w h l = absurd h
  all_along (t ∷ ts) [] w h l = absurd h
  all_along (t ∷ ts) (v ∷ vs) [] h l = l
  all_along (t ∷ ts) (v ∷ vs) (w ∷ ws) h l = (e.along t v w h.0 l.0, all_along ts vs ws h.1 l.1)

  pub all_equivalence : IsEquivalence (all_alike alike)
  all_equivalence = record { same = all_same; back = all_back; along = all_along }
