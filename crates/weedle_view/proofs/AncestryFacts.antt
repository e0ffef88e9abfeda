-- The chain of what is inherited, one definition after another, and why it ends.
use Rattle.std.proofs.Common.{◌≡◌, ℕ, zero, suc, ◌+◌, ◌<◌, ◌≤◌, Bool, true, false, not, cond, ◌||◌, ◌&&◌, if◌then◌else◌, Option, Some, None, MatchOption, List, [], ◌∷◌, ◌++◌, length, get_or, map, filter, find, bytes_eq, Bor, refl, sym, subst, ◌∙◌, ap, arith, append_assoc, append-nil}
use Rattle.std.proofs.lemmas.List.Folds.{list_any-append}
use Rattle.std.proofs.lemmas.List.{map-append}
use Rattle.std.proofs.lemmas.Slice.Eq.{bytes_eq-Decides}
use Rattle.weedle_idl.specs.declared.definition.Definition.{Definition}
use Rattle.weedle_parts.specs.declared.inheritance.Inheritance.{Inheritance}
use Rattle.weedle_view.specs.Ancestry.{is_met, inherited, AreAncestors, HasAncestors}
use Rattle.weedle_view.specs.Definitions.{inheritance_of_definition}
use Rattle.weedle_view.specs.Parts.{is_whole, is_whole_of}
use Rattle.weedle_view.specs.Titles.{name_text}

-- what passes a narrower test is no longer
no_longer : {X : Type 0} (p q : X → Bool) → ((x : X) → q x ≡ true → p x ≡ true) → (xs : List X) → length (filter q xs) ≤ length (filter p xs)
no_longer p q h [] = omega arith
no_longer {X = X} p q h (x ∷ xs) = by (p x) (q x) (h x) (filter p xs) (filter q xs) (no_longer p q h xs)
  where
    by : (a b : Bool) → (b ≡ true → a ≡ true) → (ps qs : List X) → length qs ≤ length ps → length (cond b (x ∷ qs) qs) ≤ length (cond a (x ∷ ps) ps)
    by true true i ps qs l = omega (arith, l)
    by true false i ps qs l = omega (arith, l)
    by false true i ps qs l = absurd (let n : ⊥ = cc (i refl) in n)
    by false false i ps qs l = l

-- it is shorter where an element passes the wider test alone
shorter : {X : Type 0} (p q f : X → Bool) → ((x : X) → q x ≡ true → p x ≡ true) → (xs : List X) (y : X) → find f xs ≡ Some y → p y ≡ true → q y ≡ false → length (filter q xs) < length (filter p xs)
shorter p q f h [] y found passes fails = absurd (let n : ⊥ = cc in n)
shorter {X = X} p q f h (x ∷ xs) y found passes fails = first (f x) found (λ e. shorter p q f h xs y e passes fails)
  where
    one : x ≡ y → length (cond (q x) (x ∷ filter q xs) (filter q xs)) < length (cond (p x) (x ∷ filter p xs) (filter p xs))
    one e =
        let l = no_longer p q h xs in
        let passes_too : p x ≡ true = ap p e ∙ passes in
        let fails_too : q x ≡ false = ap q e ∙ fails in
        rw (passes_too, fails_too) (omega (arith, l))

    more : (a b : Bool) → (b ≡ true → a ≡ true) → (ps qs : List X) → length qs < length ps → length (cond b (x ∷ qs) qs) < length (cond a (x ∷ ps) ps)
    more true true i ps qs l = omega (arith, l)
    more true false i ps qs l = omega (arith, l)
    more false true i ps qs l = absurd (let n : ⊥ = cc (i refl) in n)
    more false false i ps qs l = l

    first : (b : Bool) → cond b (Some x) (find f xs) ≡ Some y → (find f xs ≡ Some y → length (filter q xs) < length (filter p xs)) → length (cond (q x) (x ∷ filter q xs) (filter q xs)) < length (cond (p x) (x ∷ filter p xs) (filter p xs))
    first true e rest = one (cc)
    first false e rest = more (p x) (q x) (h x) (filter p xs) (filter q xs) (rest e)

-- how many definitions have a name that wasn't met
abbrev pub left : List Definition → List (List ℕ) → ℕ
left ds met = length (filter (λ d. not (is_met met (name_text d))) ds)

module _ (met : List (List ℕ)) (name : List ℕ) where
  met_still : (other : List ℕ) → is_met met other ≡ true → is_met (met ++ name ∷ []) other ≡ true
  met_still other h = list_any-append (λ m. bytes_eq m other) met (name ∷ []) ∙ ap (λ b. b || (bytes_eq name other || false)) h

  unmet_before : (other : List ℕ) → not (is_met (met ++ name ∷ []) other) ≡ true → not (is_met met other) ≡ true
  unmet_before other h = by (is_met met other) refl
    where
      by : (b : Bool) → is_met met other ≡ b → not b ≡ true
      by true e = ap not (sym (met_still other e)) ∙ h
      by false e = refl

  itself_met : is_met (met ++ name ∷ []) name ≡ true
  itself_met = list_any-append (λ m. bytes_eq m name) met (name ∷ []) ∙ ap (λ b. is_met met name || (b || false)) ((bytes_eq-Decides name name).1 refl) ∙ or_last (is_met met name)
    where
      or_last : (b : Bool) → b || true ≡ true
      or_last true = refl
      or_last false = refl

passes_found : {X : Type 0} (f : X → Bool) (xs : List X) (y : X) → find f xs ≡ Some y → f y ≡ true
passes_found f [] y e = absurd (let n : ⊥ = cc in n)
passes_found f (x ∷ xs) y e = by (f x) refl e (passes_found f xs y)
  where
    by : (b : Bool) → f x ≡ b → cond b (Some x) (find f xs) ≡ Some y → (find f xs ≡ Some y → f y ≡ true) → f y ≡ true
    by true t e rest = let is : x ≡ y = cc in ap f (sym is) ∙ t
    by false t e rest = rest e

named : (name : List ℕ) (d : Definition) → is_whole_of name d ≡ true → name_text d ≡ name
unfolding is_whole_of
named name d h = (bytes_eq-Decides (name_text d) name).0 (second (is_whole d) (bytes_eq (name_text d) name) h)
  where
    second : (a b : Bool) → a && b ≡ true → b ≡ true
    second true b h = h
    second false b h = cc

-- each step leaves fewer
pub fewer_left : (ds : List Definition) (met : List (List ℕ)) (above : Option Inheritance) (a : Definition) → inherited ds met above ≡ Some a → left ds (met ++ name_text a ∷ []) < left ds met
fewer_left ds met None a e = absurd (let n : ⊥ = cc in n)
fewer_left ds met (Some i) a e = by (is_met met i.identifier.0.now) refl e
  where
    by : (b : Bool) → is_met met i.identifier.0.now ≡ b → (if b then None else find (is_whole_of i.identifier.0.now) ds) ≡ Some a → left ds (met ++ name_text a ∷ []) < left ds met
    by true t e = absurd (let n : ⊥ = cc in n)
    by false t e =
        let name = named i.identifier.0.now a (passes_found (is_whole_of i.identifier.0.now) ds a e) in
        shorter (λ d. not (is_met met (name_text d))) (λ d. not (is_met (met ++ name_text a ∷ []) (name_text d))) (is_whole_of i.identifier.0.now)
        (λ d h. unmet_before met (name_text a) (name_text d) h) ds a e (ap not (ap (is_met met) name ∙ t)) (ap not (itself_met met (name_text a)))

-- names as references have them
abbrev pub texts : List (Bor (List ℕ)) → List (List ℕ)
texts names = map (λ m. m.now) names

texts_more : (names names' : List (Bor (List ℕ))) (n : Bor (List ℕ)) (text : List ℕ) → names' ≡ names ++ n ∷ [] → n.now ≡ text → texts names' ≡ texts names ++ text ∷ []
texts_more names names' n text e t = ap texts e ∙ map-append (λ (m : Bor (List ℕ)). m.now) names (n ∷ []) ∙ ap (λ z. texts names ++ z ∷ []) t

pub met_at : (names : List (Bor (List ℕ))) (name : List ℕ) (i : ℕ) (d : Bor (List ℕ)) → i < length names → bytes_eq (get_or names i d).now name ≡ true → is_met (texts names) name ≡ true
met_at [] name i d l e = absurd (omega (arith, l))
met_at (n ∷ names) name zero d l e = ap (λ b. b || is_met (texts names) name) e
met_at (n ∷ names) name (suc i) d l e = either (bytes_eq n.now name) (met_at names name i d (omega (arith, l)) e)
  where
    either : (b : Bool) → is_met (texts names) name ≡ true → b || is_met (texts names) name ≡ true
    either true h = refl
    either false h = h

-- the same as the loop has it
pub fewer : (ds : List Definition) (met given met' : List (Bor (List ℕ))) (above : Option Inheritance) (next : Definition) (n : Bor (List ℕ)) → given ≡ met → Some next ≡ inherited ds (texts given) above → met' ≡ met ++ n ∷ [] → n.now ≡ name_text next → left ds (texts met') < left ds (texts met)
fewer ds met given met' above next n g e m t =
    let step = fewer_left ds (texts met) above next (ap (λ z. inherited ds (texts z) above) (sym g) ∙ sym e) in
    subst (λ z. left ds z < left ds (texts met)) (sym (texts_more met met' n (name_text next) m t)) step

module _ (ds : List Definition) (name : List ℕ) where
  -- what is found so far, the names that were met, and the last definition
  pub record Chain (met : List (List ℕ)) (last : Definition) (found : List Definition) : Type 0 where
    pub onward : (rest : List Definition) → AreAncestors ds met last rest → HasAncestors ds name (found ++ rest)

  pub has_ancestors : (first : Definition) (above : List Definition) → find (is_whole_of name) ds ≡ Some first → AreAncestors ds (name ∷ []) first above → HasAncestors ds name above
  has_ancestors first above e h = subst (λ o. MatchOption o (above ≡ []) (λ d. AreAncestors ds (name ∷ []) d above)) (sym e) h

  pub has_none : (above : List Definition) → find (is_whole_of name) ds ≡ None → above ≡ [] → HasAncestors ds name above
  has_none above e h = subst (λ o. MatchOption o (above ≡ []) (λ d. AreAncestors ds (name ∷ []) d above)) (sym e) h

  pub chain_starts : (met : List (List ℕ)) (first : Definition) (found : List Definition) → find (is_whole_of name) ds ≡ Some first → met ≡ name ∷ [] → found ≡ [] → Chain met first found
  chain_starts met first found e m none = record { onward = λ rest h. subst (λ z. HasAncestors ds name (z ++ rest)) (sym none) (has_ancestors first rest e (subst (λ z. AreAncestors ds z first rest) m h)) }

  pub chain_more : (met met' : List (List ℕ)) (last next : Definition) (found found' : List Definition) → inherited ds met (inheritance_of_definition last) ≡ Some next → met' ≡ met ++ name_text next ∷ [] → found' ≡ found ++ next ∷ [] → Chain met last found → Chain met' next found'
  chain_more met met' last next found found' e m f c = record {
    onward = λ rest h. subst (λ z. HasAncestors ds name (z ++ rest)) (sym f) (subst (HasAncestors ds name) (sym (append_assoc found (next ∷ []) rest)) (c.onward (next ∷ rest) (e, subst (λ z. AreAncestors ds z next rest) m h)));
  }

  pub chain_ends : (met : List (List ℕ)) (last : Definition) (found : List Definition) → inherited ds met (inheritance_of_definition last) ≡ None → Chain met last found → HasAncestors ds name found
  chain_ends met last found e c = subst (HasAncestors ds name) (append-nil found) (c.onward [] e)

  pub ends : (met given : List (Bor (List ℕ))) (last : Definition) (found : List Definition) → given ≡ met → None ≡ inherited ds (texts given) (inheritance_of_definition last) → Chain (texts met) last found → HasAncestors ds name found
  ends met given last found g e c = chain_ends (texts met) last found (ap (λ z. inherited ds (texts z) (inheritance_of_definition last)) (sym g) ∙ sym e) c

  pub starts : (empty met : List (Bor (List ℕ))) (n : Bor (List ℕ)) (first : Definition) (above : List (Bor Definition)) → find (is_whole_of name) ds ≡ Some first → empty ≡ [] → met ≡ empty ++ n ∷ [] → n.now ≡ name → above ≡ [] → Chain (texts met) first (map (λ d. d.now) above)
  starts empty met n first above e none m t a = chain_starts (texts met) first (map (λ d. d.now) above) e (texts_more empty met n name m t ∙ ap (λ z. texts z ++ name ∷ []) none) (ap (map (λ d. d.now)) a)

  pub goes_on : (met given met' : List (Bor (List ℕ))) (n : Bor (List ℕ)) (last : Definition) (d : Bor Definition) (above above' : List (Bor Definition)) → given ≡ met → Some d.now ≡ inherited ds (texts given) (inheritance_of_definition last) → met' ≡ met ++ n ∷ [] → n.now ≡ name_text d.now → above' ≡ above ++ d ∷ [] → Chain (texts met) last (map (λ d. d.now) above) → Chain (texts met') d.now (map (λ d. d.now) above')
  goes_on met given met' n last d above above' g e m t a c =
      let step = ap (λ z. inherited ds (texts z) (inheritance_of_definition last)) (sym g) ∙ sym e in
      chain_more (texts met) (texts met') last d.now (map (λ d. d.now) above) (map (λ d. d.now) above') step (texts_more met met' n (name_text d.now) m t)
      (ap (map (λ d. d.now)) a ∙ map-append (λ (d : Bor Definition). d.now) above (d ∷ [])) c
