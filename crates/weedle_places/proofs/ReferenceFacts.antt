-- References, one name after another.
use Rattle.std.proofs.Common.{◌≡◌, ℕ, ◌+◌, Bool, true, false, List, [], ◌∷◌, ◌++◌, refl, sym, ◌∙◌, ap, append-nil, filter}
use Rattle.std.specs.Prelude.{cond}
use Rattle.weedle_syntax.specs.declared.node.Node.{Node}
use Rattle.weedle_places.specs.declared.name.Name.{Name}
use Rattle.weedle_places.specs.Names.{is_name, IsName}
use Rattle.weedle_places.specs.References.{refers_to}
use Rattle.weedle_places.proofs.NameFacts.{AreSaidTo, one_more, no_more, none_yet}

-- a list with one element more, filtered
filter_last : {X : Type 0} (p : X → Bool) (xs : List X) (x : X) → filter p (xs ++ x ∷ []) ≡ filter p xs ++ cond (p x) (x ∷ []) []
filter_last p [] x = refl
filter_last {X = X} p (y ∷ ys) x = by (p y) (filter p ys) (filter p (ys ++ x ∷ [])) (cond (p x) (x ∷ []) []) (filter_last p ys x)
  where
    by : (b : Bool) (rest more last : List X) → more ≡ rest ++ last → cond b (y ∷ more) more ≡ cond b (y ∷ rest) rest ++ last
    by true rest more last h = ap (λ z. y ∷ z) h
    by false rest more last h = h

module _ (text : List ℕ) (ns : List Node) (letters : List ℕ) where
  -- the references among the names of the nodes before node i
  abbrev pub AreReferencesTo : ℕ → List Name → Type 0
  AreReferencesTo i found = (names : List Name) × AreSaidTo text ns i names × (found ≡ filter (refers_to letters) names)

  pub no_reference_yet : (found : List Name) → found ≡ [] → AreReferencesTo 0 found
  no_reference_yet found e = ([], none_yet text ns [] refl, e)

  -- a name more, that refers to it
  pub one_reference_more : (found new : List Name) (i : ℕ) (name : Name) → is_name ns i ≡ true → IsName text ns i name → refers_to letters name ≡ true → new ≡ found ++ name ∷ [] → AreReferencesTo i found → AreReferencesTo (i + 1) new
  one_reference_more found new i name is k r e h = (
    h.0 ++ name ∷ [],
    one_more text ns h.0 (h.0 ++ name ∷ []) i name is refl k h.1,
    e ∙ ap (λ z. z ++ name ∷ []) h.2 ∙ sym (filter_last (refers_to letters) h.0 name ∙ ap (λ b. filter (refers_to letters) h.0 ++ cond b (name ∷ []) []) r),
  )

  -- a name more, that doesn't
  pub other_name_more : (found : List Name) (i : ℕ) (name : Name) → is_name ns i ≡ true → IsName text ns i name → refers_to letters name ≡ false → AreReferencesTo i found → AreReferencesTo (i + 1) found
  other_name_more found i name is k r h = (
    h.0 ++ name ∷ [],
    one_more text ns h.0 (h.0 ++ name ∷ []) i name is refl k h.1,
    h.2 ∙ sym (filter_last (refers_to letters) h.0 name ∙ ap (λ b. filter (refers_to letters) h.0 ++ cond b (name ∷ []) []) r ∙ append-nil (filter (refers_to letters) h.0)),
  )

  -- a node that is no name
  pub no_name_more : (found : List Name) (i : ℕ) → is_name ns i ≡ false → AreReferencesTo i found → AreReferencesTo (i + 1) found
  no_name_more found i is h = (h.0, no_more text ns h.0 i is h.1, h.2)
