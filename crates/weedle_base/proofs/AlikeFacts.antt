-- Copies of lists, item by item.
use Rattle.std.proofs.Common.{ℕ, ◌+◌, ◌<◌, List, [], ◌∷◌, ◌++◌, length, take, get_or}
use Rattle.std.proofs.lemmas.List.{take_more}
use Rattle.weedle_base.specs.Alike.{all_alike}

all_alike-push : {V : Type 0} (alike : V → V → Type 0) → (vs ws : List V) (v w : V) → all_alike alike vs ws → alike v w
    → all_alike alike (vs ++ (v ∷ [])) (ws ++ (w ∷ []))
all_alike-push alike [] [] v w h k = (k, tt)
all_alike-push alike [] (y ∷ ws) v w h k = absurd h
all_alike-push alike (x ∷ vs) [] v w h k = absurd h
all_alike-push alike (x ∷ vs) (y ∷ ws) v w h k = (h.0, all_alike-push alike vs ws v w h.1 k)

-- a copy of the items before place i, and one of the item there
pub one_more_alike : {V : Type 0} (alike : V → V → Type 0) (vs ws : List V) (i : ℕ) (v d : V) → all_alike alike vs (take i ws)
    → i < length ws → alike v (get_or ws i d) → all_alike alike (vs ++ (v ∷ [])) (take (i + 1) ws)
one_more_alike alike vs ws i v d h l k = rw (take_more ws i d l) (all_alike-push alike vs (take i ws) v (get_or ws i d) h k)
