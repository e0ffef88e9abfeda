-- The members of a definition.
use Rattle.std.specs.Prelude.{map, ◌≡◌, ◌⊎◌, ◌==◌, ℕ, List, [], ◌∷◌, Option, Some, None, MatchOption, if◌then◌else◌}
use Rattle.weedle_grammar.specs.Rows.{Row, Seq, First}
use Rattle.weedle_grammar.specs.written.Table.{row_of}
use Rattle.weedle_grammar.specs.written.Table.Symbols.{OPEN_BRACE}
use Rattle.weedle_grammar.specs.written.Table.InterfaceMembers.{INTERFACE_MEMBER, BRACED_INTERFACE_MEMBERS}
use Rattle.weedle_grammar.specs.written.Table.OtherMembers.{MIXIN_MEMBER, BRACED_MIXIN_MEMBERS, NAMESPACE_MEMBER, BRACED_NAMESPACE_MEMBERS, DICTIONARY_MEMBER, BRACED_DICTIONARY_MEMBERS}
use Rattle.weedle_grammar.specs.written.Table.Definitions.{DEFINITION}
use Rattle.weedle_grammar.specs.written.Table.TodayWords.{TODAY_DOCS}
use Rattle.weedle_grammar.specs.written.Table.TodayTypes.{TODAY_ATTRIBUTE_LISTS}
use Rattle.weedle_grammar.specs.written.Table.TodayMembers.{TODAY_INTERFACE_MEMBER, BRACED_TODAY_INTERFACE_MEMBERS, TODAY_MIXIN_MEMBER, BRACED_TODAY_MIXIN_MEMBERS, TODAY_NAMESPACE_MEMBER, BRACED_TODAY_NAMESPACE_MEMBERS, TODAY_DICTIONARY_MEMBER, BRACED_TODAY_DICTIONARY_MEMBERS}
use Rattle.weedle_grammar.specs.written.Table.TodayDefinitions.{TODAY_DEFINITION_KIND}
use Rattle.weedle_syntax.specs.declared.dialect.Dialect.{Dialect}
use Rattle.weedle_syntax.specs.declared.dialect.Dialect.TheVariants.{Weedle2, Today}
use Rattle.weedle_places.specs.declared.members.MemberPlace.{MemberPlace}
use Rattle.weedle_places.specs.declared.span.Span.{Span}
use Rattle.weedle_rules.specs.Outcomes.{EndsAt, FailsAt}
use Rattle.weedle_places.specs.Items.{AreItems}

-- the rule of the members that a list in braces holds; None of a rule that is no such list
abbrev pub member_of : ℕ → Option ℕ
member_of r =
    if r == BRACED_INTERFACE_MEMBERS then Some INTERFACE_MEMBER else
    (if r == BRACED_MIXIN_MEMBERS then Some MIXIN_MEMBER else
    (if r == BRACED_NAMESPACE_MEMBERS then Some NAMESPACE_MEMBER else
    (if r == BRACED_DICTIONARY_MEMBERS then Some DICTIONARY_MEMBER else None)))

-- the same of today's rules
abbrev pub today_member_of : ℕ → Option ℕ
today_member_of r =
    if r == BRACED_TODAY_INTERFACE_MEMBERS then Some TODAY_INTERFACE_MEMBER else
    (if r == BRACED_TODAY_MIXIN_MEMBERS then Some TODAY_MIXIN_MEMBER else
    (if r == BRACED_TODAY_NAMESPACE_MEMBERS then Some TODAY_NAMESPACE_MEMBER else
    (if r == BRACED_TODAY_DICTIONARY_MEMBERS then Some TODAY_DICTIONARY_MEMBER else None)))

-- the same of the rules of a dialect
abbrev pub member_in : Dialect → ℕ → Option ℕ
member_in Weedle2 r = member_of r
member_in Today r = today_member_of r

-- the spans of members
abbrev pub spans_of : List MemberPlace → List Span
spans_of members = map (λ m. m.span) members

-- items y behind an open brace that is read from p
abbrev pub IsBehindBrace : List ℕ → ℕ → ℕ → List Span → Type 0
IsBehindBrace text y p ms = (q : ℕ) × EndsAt text OPEN_BRACE p q × AreItems text y q ms

-- of the parts of a definition, the first at p: the members follow the open brace of the first list
-- of members, or there are none
abbrev pub AreMembersIn : Dialect → List ℕ → List ℕ → ℕ → List Span → Type 0
AreMembersIn dialect text [] p ms = ms ≡ []
AreMembersIn dialect text (r ∷ rs) p ms =
    MatchOption (member_in dialect r) ((e : ℕ) × EndsAt text r p e × AreMembersIn dialect text rs e ms) (λ y. IsBehindBrace text y p ms)

-- the same by weedle2's rules
abbrev pub AreMembers : List ℕ → List ℕ → ℕ → List Span → Type 0
AreMembers text parts p ms = AreMembersIn Weedle2 text parts p ms

-- rule a is the first of these that fits at p
abbrev pub FitsFirst : List ℕ → List ℕ → ℕ → ℕ → Type 0
FitsFirst text [] p a = ⊥
FitsFirst text (r ∷ rs) p a = ((a ≡ r) × ((e : ℕ) × EndsAt text r p e)) ⊎ (FailsAt text r p × FitsFirst text rs p a)

-- the alternatives of a choice
abbrev pub choices_in : Row → List ℕ
choices_in (First choices) = choices
choices_in _ = []

-- the parts of a sequence
abbrev pub parts_in : Row → List ℕ
parts_in (Seq parts) = parts
parts_in _ = []

-- the rule that is the choice among the kinds of definitions: by today's rules it is read behind docstrings and
-- extended attributes
abbrev pub choice_of : Dialect → ℕ
choice_of Weedle2 = DEFINITION
choice_of Today = TODAY_DEFINITION_KIND

-- what begins at p has these members: by its kind, the first that fits there
pub record HasKindMembers (dialect : Dialect) (text : List ℕ) (p : ℕ) (ms : List Span) : Type 0 where
  pub kind : ℕ
  pub fits : FitsFirst text (choices_in (row_of (choice_of dialect))) p kind
  pub are : AreMembersIn dialect text (parts_in (row_of kind)) p ms

-- today's docstrings and lists of extended attributes are read from p to q
abbrev pub IsBehindFront : List ℕ → ℕ → ℕ → Type 0
IsBehindFront text p q = (m : ℕ) × EndsAt text TODAY_DOCS p m × EndsAt text TODAY_ATTRIBUTE_LISTS m q

-- a definition that begins at p has these members
abbrev pub HasMembersIn : Dialect → List ℕ → ℕ → List Span → Type 0
HasMembersIn Weedle2 text p ms = HasKindMembers Weedle2 text p ms
HasMembersIn Today text p ms = (q : ℕ) × IsBehindFront text p q × HasKindMembers Today text q ms

-- the same by weedle2's rules
abbrev pub HasMembers : List ℕ → ℕ → List Span → Type 0
HasMembers text p ms = HasMembersIn Weedle2 text p ms
