-- Definitions while they are found in a tree: the words of private contracts.
use Rattle.std.specs.Prelude.{◌≡◌, ◌⊎◌, ◌<◌, ℕ, List, [], ◌∷◌, ◌++◌, length, All, Option, MatchOption}
use Rattle.weedle_places.specs.declared.place.Place.{Place}
use Rattle.weedle_rules.specs.Outcomes.{EndsAt, FailsAt}
use Rattle.weedle_syntax.specs.declared.dialect.Dialect.{Dialect}
use Rattle.weedle_syntax.specs.declared.dialect.Dialect.TheVariants.{Weedle2, Today}
use Rattle.weedle_syntax.specs.declared.node.Node.{Node}
use Rattle.weedle_syntax.specs.Dialects.{definition_of}
use Rattle.weedle_syntax.specs.Tree.{node_at}
use Rattle.weedle_places.specs.Members.{IsBehindFront, HasMembersIn, spans_of}
use Rattle.weedle_places.specs.Standing.{IsStandingIn, IsMemberIn, AreValuesIn}

-- where the choice among the kinds of a definition begins that begins at p
abbrev pub ChoiceBegins : Dialect → List ℕ → ℕ → ℕ → Type 0
ChoiceBegins Weedle2 text p q = q ≡ p
ChoiceBegins Today text p q = IsBehindFront text p q

-- node j is that of a definition, with the bytes of node i: itself, or one that it reads directly
pub record IsDefinition (dialect : Dialect) (text : List ℕ) (ns : List Node) (i j : ℕ) : Type 0 where
  pub within : j < length ns
  pub rule : (node_at ns j).rule ≡ definition_of dialect
  pub starts : (node_at ns j).start ≡ (node_at ns i).start
  pub ends : (node_at ns j).end ≡ (node_at ns i).end
  pub reads : EndsAt text (definition_of dialect) (node_at ns j).start (node_at ns j).end

-- the definition that node i is or holds; where there is none, none begins with it
abbrev pub FindsDefinition : Dialect → List ℕ → List Node → ℕ → Option ℕ → Type 0
FindsDefinition dialect text ns i found =
    MatchOption found (FailsAt text (definition_of dialect) (node_at ns i).start) (λ j. IsDefinition dialect text ns i j)

-- what is said of the definition of node j
pub record IsPlaceAt (dialect : Dialect) (text : List ℕ) (ns : List Node) (j : ℕ) (place : Place) : Type 0 where
  pub stands : IsStandingIn dialect text ns j place.span place.core place.front place.name
  pub members : HasMembersIn dialect text (node_at ns j).start (spans_of place.members.items)
  pub each : All (IsMemberIn dialect text ns) place.members.items
  pub values : AreValuesIn dialect text ns j place.values.items

-- the place of the definition that node i is or holds is put behind the others, if there is one
abbrev pub AddsPlace : Dialect → List ℕ → List Node → ℕ → List Place → List Place → Type 0
AddsPlace dialect text ns i old new =
    (FailsAt text (definition_of dialect) (node_at ns i).start × (new ≡ old))
    ⊎ ((j : ℕ) × (place : Place) × IsDefinition dialect text ns i j × IsPlaceAt dialect text ns j place × (new ≡ old ++ place ∷ []))
