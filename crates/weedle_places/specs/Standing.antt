-- What is said of definitions, members and values: where they are, and what is around them.
use Rattle.std.specs.Prelude.{◌≡◌, ◌<◌, ◌+◌, ◌==◌, ℕ, List, [], ◌∷◌, length, Option, Some}
use Rattle.weedle_grammar.specs.written.Table.OtherMembers.{ENUM_VARIANT}
use Rattle.weedle_grammar.specs.written.Table.TodayMembers.{TODAY_ENUM_VALUE}
use Rattle.weedle_syntax.specs.declared.dialect.Dialect.{Dialect}
use Rattle.weedle_syntax.specs.declared.dialect.Dialect.TheVariants.{Weedle2, Today}
use Rattle.weedle_syntax.specs.declared.node.Node.{Node}
use Rattle.weedle_syntax.specs.Tree.{node_at, below_of, numbers_where}
use Rattle.weedle_places.specs.declared.members.MemberPlace.{MemberPlace}
use Rattle.weedle_places.specs.declared.span.Span.{Span}
use Rattle.weedle_places.specs.Around.{IsAround, HasNameIn}
use Rattle.weedle_places.specs.Members.{member_in}
use Rattle.weedle_places.specs.Spans.{span_at}

-- this is said of node i
pub record IsStandingIn (dialect : Dialect) (text : List ℕ) (ns : List Node) (i : ℕ) (span core front : Span) (name : Option Span) : Type 0 where
  pub within : i < length ns
  pub span_is : span ≡ span_at ns i
  pub around : IsAround ns i core front
  pub named : HasNameIn dialect text ns i name

-- the same by weedle2's rules
abbrev pub IsStanding : List ℕ → List Node → ℕ → Span → Span → Span → Option Span → Type 0
IsStanding text ns i span core front name = IsStandingIn Weedle2 text ns i span core front name

abbrev pub IsMemberAtIn : Dialect → List ℕ → List Node → ℕ → MemberPlace → Type 0
IsMemberAtIn dialect text ns i m = IsStandingIn dialect text ns i m.span m.core m.front m.name

-- it is said of some node of this rule
abbrev pub IsMemberOfIn : Dialect → List ℕ → List Node → ℕ → MemberPlace → Type 0
IsMemberOfIn dialect text ns rule m = (i : ℕ) × ((node_at ns i).rule ≡ rule) × IsMemberAtIn dialect text ns i m

-- it is said of some node of a rule of members: one that a list in braces holds
abbrev pub IsMemberIn : Dialect → List ℕ → List Node → MemberPlace → Type 0
IsMemberIn dialect text ns m = (list rule : ℕ) × (member_in dialect list ≡ Some rule) × IsMemberOfIn dialect text ns rule m

-- the same by weedle2's rules
abbrev pub IsMember : List ℕ → List Node → MemberPlace → Type 0
IsMember text ns m = IsMemberIn Weedle2 text ns m

-- these are said of these nodes, one of each
abbrev pub AreMembersAtIn : Dialect → List ℕ → List Node → List ℕ → List MemberPlace → Type 0
AreMembersAtIn dialect text ns [] [] = Unit {0}
AreMembersAtIn dialect text ns [] (m ∷ ms) = ⊥
AreMembersAtIn dialect text ns (i ∷ is) [] = ⊥
AreMembersAtIn dialect text ns (i ∷ is) (m ∷ ms) = IsMemberAtIn dialect text ns i m × AreMembersAtIn dialect text ns is ms

-- the rule of a value of an enum
abbrev pub value_in : Dialect → ℕ
value_in Weedle2 = ENUM_VARIANT
value_in Today = TODAY_ENUM_VALUE

-- of each node of a value below node i, in their order: the values of an enum, and none of another definition
abbrev pub AreValuesIn : Dialect → List ℕ → List Node → ℕ → List MemberPlace → Type 0
AreValuesIn dialect text ns i values =
    AreMembersAtIn dialect text ns (numbers_where (λ j. (node_at ns j).rule == value_in dialect) (i + 1) (below_of ns i)) values

-- the same by weedle2's rules
abbrev pub AreValues : List ℕ → List Node → ℕ → List MemberPlace → Type 0
AreValues text ns i values = AreValuesIn Weedle2 text ns i values
