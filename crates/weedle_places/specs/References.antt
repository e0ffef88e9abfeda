-- The names of a text that speak of a definition.
use Rattle.std.specs.Prelude.{◌≡◌, ◌&&◌, ℕ, Bool, List, bytes_eq, filter}
use Rattle.weedle_syntax.specs.declared.dialect.Dialect.{Dialect}
use Rattle.weedle_syntax.specs.declared.dialect.Dialect.TheVariants.{Weedle2}
use Rattle.weedle_syntax.specs.declared.node.Node.{Node}
use Rattle.weedle_places.specs.declared.name.Name.{Name}
use Rattle.weedle_places.specs.Names.{AreNames, HasNamesIn}
use Rattle.weedle_places.specs.Roles.{is_reference}

-- the name has these letters, and its role is that of a reference
abbrev pub refers_to : List ℕ → Name → Bool
refers_to letters name = is_reference name.role && bytes_eq name.text.now letters

-- of the names of these nodes all that do, in their order
abbrev pub AreReferences : List ℕ → List Node → List ℕ → List Name → Type 0
AreReferences text ns letters found = (names : List Name) × AreNames text ns names × (found ≡ filter (refers_to letters) names)

-- the same of a text that the rules of a dialect read whole
abbrev pub HasReferencesIn : Dialect → List ℕ → List ℕ → List Name → Type 0
HasReferencesIn dialect text letters found = (names : List Name) × HasNamesIn dialect text names × (found ≡ filter (refers_to letters) names)

-- the same by weedle2's rules
abbrev pub HasReferences : List ℕ → List ℕ → List Name → Type 0
HasReferences text letters found = HasReferencesIn Weedle2 text letters found
