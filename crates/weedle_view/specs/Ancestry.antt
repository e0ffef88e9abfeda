-- What a name inherits from.
use Rattle.std.specs.List.{list_any}
use Rattle.std.specs.Prelude.{◌≡◌, ℕ, Bool, List, [], ◌∷◌, ◌++◌, Option, None, Some, MatchOption, bytes_eq, find, if◌then◌else◌}
use Rattle.weedle_idl.specs.declared.definition.Definition.{Definition}
use Rattle.weedle_parts.specs.declared.inheritance.Inheritance.{Inheritance}
use Rattle.weedle_view.specs.Definitions.{inheritance_of_definition}
use Rattle.weedle_view.specs.Parts.{is_whole_of}
use Rattle.weedle_view.specs.Titles.{name_text}

-- the name is one of these
abbrev pub is_met : List (List ℕ) → List ℕ → Bool
is_met met name = list_any (λ m. bytes_eq m name) met

-- the first definition of what is inherited from, unless that name was met before
abbrev pub inherited : List Definition → List (List ℕ) → Option Inheritance → Option Definition
inherited ds met None = None
inherited ds met (Some i) = if is_met met i.identifier.0.now then None else find (is_whole_of i.identifier.0.now) ds

-- the ancestors of definition d where these names were met: each is the first definition of what the one before inherits from, and behind the last there is none, or its name was met
abbrev pub AreAncestors : List Definition → List (List ℕ) → Definition → List Definition → Type 0
AreAncestors ds met d [] = inherited ds met (inheritance_of_definition d) ≡ None
AreAncestors ds met d (a ∷ above) = (inherited ds met (inheritance_of_definition d) ≡ Some a) × AreAncestors ds (met ++ name_text a ∷ []) a above

-- the ancestors of a name are those of its first definition; without one it has none
abbrev pub HasAncestors : List Definition → List ℕ → List Definition → Type 0
HasAncestors ds name above = MatchOption (find (is_whole_of name) ds) (above ≡ []) (λ d. AreAncestors ds (name ∷ []) d above)
