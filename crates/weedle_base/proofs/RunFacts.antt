-- One more item of a run.
use Rattle.std.proofs.Common.{refl, sym, ap, ◌∙◌, subst, arith}
use Rattle.std.proofs.lemmas.List.{drop-drop}
use Rattle.std.specs.Prelude.{ℕ, ◌+◌, List, [], ◌∷◌, ◌++◌, drop}
use Rattle.weedle_base.specs.Runs.{Items}

-- one more item
pub Items-push : {V : Type 0} (takes : List ℕ → V → ℕ → Type 0) (s : List ℕ) (vs : List V) (v : V) (k i : ℕ)
    → Items takes s vs k → takes (drop k s) v i → Items takes s (vs ++ (v ∷ [])) (k + i)
Items-push takes s [] v k i h t =
    let here : takes s v i = subst (λ (n : ℕ). takes (drop n s) v i) h t in
    (i, 0, here, refl, omega (arith, h))
Items-push takes s (w ∷ vs) v k i h t =
    let moved : takes (drop h.1 (drop h.0 s)) v i = subst (λ (r : List ℕ). takes r v i) (ap (λ (n : ℕ). drop n s) h.4 ∙ sym (drop-drop h.1 h.0 s)) t in
    (h.0, h.1 + i, h.2, Items-push takes (drop h.0 s) vs v h.1 i h.3 moved, omega (arith, h.4))
