-- Where the definitions of a text are.
use Rattle.std.specs.Prelude.{◌≡◌, ◌≤◌, ℕ, List, [], ◌∷◌, length, All}
use Rattle.weedle_grammar.specs.written.Table.TodayDefinitions.{TODAY_DEFINITION, TODAY_PIECE}
use Rattle.weedle_places.specs.declared.place.Place.{Place}
use Rattle.weedle_rules.specs.Outcomes.{EndsAt, FailsAt}
use Rattle.weedle_syntax.specs.declared.dialect.Dialect.{Dialect}
use Rattle.weedle_syntax.specs.declared.dialect.Dialect.TheVariants.{Weedle2, Today}
use Rattle.weedle_syntax.specs.declared.node.Node.{Node}
use Rattle.weedle_syntax.specs.Dialects.{definition_of, IsWholeIn, IsSyntaxIn}
use Rattle.weedle_syntax.specs.Tree.{node_at}
use Rattle.weedle_places.specs.Members.{HasMembersIn, spans_of}
use Rattle.weedle_places.specs.Standing.{IsStandingIn, IsMemberIn, AreValuesIn}

-- weedle2's rules read the whole text as definitions
abbrev pub IsWhole : List ℕ → Type 0
IsWhole text = IsWholeIn Weedle2 text

-- a definition is read from the start of its span to its end, and these are its members and its values
pub record IsPlaceIn (dialect : Dialect) (text : List ℕ) (place : Place) : Type 0 where
  pub reads : EndsAt text (definition_of dialect) place.span.start place.span.end
  pub members : HasMembersIn dialect text place.span.start (spans_of place.members.items)
  -- each of them lies within it
  pub within : All (λ m. (place.span.start ≤ m.start) × (m.end ≤ place.span.end)) (spans_of place.members.items)
  -- what is said of it and of each of them is said of nodes of the text
  pub nodes : List Node
  pub are : IsSyntaxIn dialect text nodes
  pub node : ℕ
  -- of its node the rule is that of a definition: so its name is that of no other node with its bytes
  pub rule : (node_at nodes node).rule ≡ definition_of dialect
  pub stands : IsStandingIn dialect text nodes node place.span place.core place.front place.name
  pub each : All (IsMemberIn dialect text nodes) place.members.items
  pub values : AreValuesIn dialect text nodes node place.values.items

-- the same by weedle2's rules
abbrev pub IsPlace : List ℕ → Place → Type 0
IsPlace text place = IsPlaceIn Weedle2 text place

-- from p to q today's pieces of which none is a definition: docstrings, comments and whitespace that no definition follows
pub data ArePassed (text : List ℕ) : ℕ → ℕ → Type 0 where
  none_passed : {p q : ℕ} → q ≡ p → ArePassed text p q
  one_passed : {p m q : ℕ} → FailsAt text TODAY_DEFINITION p → EndsAt text TODAY_PIECE p m → ArePassed text m q → ArePassed text p q

-- the next definition from p on begins at q: at p by weedle2's rules, behind what is passed by today's
abbrev pub IsNextIn : Dialect → List ℕ → ℕ → ℕ → Type 0
IsNextIn Weedle2 text p q = q ≡ p
IsNextIn Today text p q = ArePassed text p q

-- there is no definition from p to the end of the text
abbrev pub IsLastIn : Dialect → List ℕ → ℕ → Type 0
IsLastIn Weedle2 text p = p ≡ length text
IsLastIn Today text p = ArePassed text p (length text)

-- definitions from p to the end of the text, each of which is the next from where the one before ends
abbrev pub ArePlacesIn : Dialect → List ℕ → ℕ → List Place → Type 0
ArePlacesIn dialect text p [] = IsLastIn dialect text p
ArePlacesIn dialect text p (d ∷ ds) = IsNextIn dialect text p d.span.start × IsPlaceIn dialect text d × ArePlacesIn dialect text d.span.end ds

-- by weedle2's rules each begins where the one before ends, and the last ends with the text
abbrev pub ArePlaces : List ℕ → ℕ → List Place → Type 0
ArePlaces text p places = ArePlacesIn Weedle2 text p places
