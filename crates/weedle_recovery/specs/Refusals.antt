-- What is said of an unread part.
use Rattle.std.specs.Prelude.{◌≡◌, ◌⊎◌, ◌≤◌, ◌+◌, ◌-◌, ◌==◌, ◌++◌, if◌then◌else◌, ℕ, false, List, [], ◌∷◌, Option, Some, None, IfSome, IsCharBoundary, codes, length, map, min, slice_range}
use Rattle.weedle_grammar.specs.written.Table.InterfaceMembers.{INTERFACE_MEMBER}
use Rattle.weedle_grammar.specs.written.Table.OtherMembers.{DICTIONARY_MEMBER, MIXIN_MEMBER, NAMESPACE_MEMBER}
use Rattle.weedle_grammar.specs.written.Table.Symbols.{CLOSE_BRACE, OPEN_BRACE, SEMI_COLON}
use Rattle.weedle_grammar.specs.written.Table.TodayMembers.{TODAY_DICTIONARY_MEMBER, TODAY_INTERFACE_MEMBER, TODAY_MIXIN_MEMBER, TODAY_NAMESPACE_MEMBER}
use Rattle.weedle_recovery.specs.declared.moved.Shift.{Shift}
use Rattle.weedle_recovery.specs.declared.part.Part.{Part}
use Rattle.weedle_refusal.specs.Refusal.{IsSaidFromIn}
use Rattle.weedle_refusal.specs.Words.{this_text, word_view}
use Rattle.weedle_refusal.specs.declared.hint.Hint.{Hint}
use Rattle.weedle_refusal.specs.declared.hint.Hint.TheVariants as hint
use Rattle.weedle_refusal.specs.declared.refusal.Refusal.{Refusal}
use Rattle.weedle_syntax.specs.declared.dialect.Dialect.{Dialect}
use Rattle.weedle_syntax.specs.declared.dialect.Dialect.TheVariants.{Weedle2, Today}

-- the part is unread, and its places are those of the text in their order: its definition begins no further on than the part
pub record IsUnread (raw : List ℕ) (part : Part) : Type 0 where
  pub unread : part.is_read ≡ false
  pub front : part.definition ≤ part.start
  pub order : part.start ≤ part.end
  pub of_definition : IsCharBoundary raw part.definition
  pub of_start : IsCharBoundary raw part.start
  pub of_end : IsCharBoundary raw part.end

-- the shortest front of a definition of the dialect whose body has members of rule r
abbrev pub front_of : Dialect → ℕ → Option (List ℕ)
front_of Weedle2 r =
    if r == INTERFACE_MEMBER then Some (codes "interface A{")
    else (if r == DICTIONARY_MEMBER then Some (codes "dictionary A{")
    else (if r == MIXIN_MEMBER then Some (codes "interface mixin A{")
    else (if r == NAMESPACE_MEMBER then Some (codes "namespace A{") else None)))
front_of Today r =
    if r == TODAY_INTERFACE_MEMBER then Some (codes "interface A{")
    else (if r == TODAY_DICTIONARY_MEMBER then Some (codes "dictionary A{")
    else (if r == TODAY_MIXIN_MEMBER then Some (codes "interface mixin A{")
    else (if r == TODAY_NAMESPACE_MEMBER then Some (codes "namespace A{") else None)))

-- the sign of rule r, if it is one that a body or a definition may lack
abbrev pub sign_of : ℕ → Option (List ℕ)
sign_of r =
    if r == SEMI_COLON then Some (codes ";")
    else (if r == OPEN_BRACE then Some (codes "{")
    else (if r == CLOSE_BRACE then Some (codes "}") else None))

-- the sign that is missing at a part, which has no byte then
abbrev pub missing_sign : Part → Option (List ℕ)
missing_sign part = if part.start == part.end then sign_of part.rule else None

-- this place of the whole text is that place of what was read
abbrev pub IsAt : Shift → ℕ → ℕ → Type 0
IsAt shift place moved = moved + shift.front ≡ shift.start + place

-- the hint at its place in the whole text
abbrev pub IsMovedHint : Shift → Hint → Hint → Type 0
IsMovedHint shift (hint.Keyword at taken keyword) h = (q : ℕ) × IsAt shift at q × (h ≡ hint.Keyword q taken keyword)
IsMovedHint shift (hint.Missing at sign) h = (q : ℕ) × IsAt shift at q × (h ≡ hint.Missing q sign)
IsMovedHint shift (hint.Extra at sign) h = (q : ℕ) × IsAt shift at q × (h ≡ hint.Extra q sign)
IsMovedHint shift (hint.WrongSign at found sign) h = (q : ℕ) × IsAt shift at q × (h ≡ hint.WrongSign q found sign)
IsMovedHint shift (hint.WordOrder at taken next next_taken) h = (q r : ℕ) × IsAt shift at q × IsAt shift next r × (h ≡ hint.WordOrder q taken r next_taken)
IsMovedHint shift (hint.Docstring at taken) h = (q : ℕ) × IsAt shift at q × (h ≡ hint.Docstring q taken)
IsMovedHint shift (hint.OpenString at) h = (q : ℕ) × IsAt shift at q × (h ≡ hint.OpenString q)
IsMovedHint shift (hint.SplitString at) h = (q : ℕ) × IsAt shift at q × (h ≡ hint.SplitString q)
IsMovedHint shift (hint.ByteOrderMark at) h = (q : ℕ) × IsAt shift at q × (h ≡ hint.ByteOrderMark q)
IsMovedHint shift hint.NoDefinitions h = ⊥

-- what was said of a stretch behind another text, at its places in the whole text; a place behind its end is that end
pub record IsMoved (shift : Shift) (said refusal : Refusal) : Type 0 where
  pub start : refusal.start ≡ shift.start
  pub place : refusal.place ≡ shift.start + min (said.place - shift.front) shift.count
  pub expected : refusal.expected ≡ said.expected
  pub hint : IfSome refusal.hint (λ h. (g : Hint) × (said.hint ≡ Some g) × IsMovedHint shift g h)

-- where the stretch of a part follows a front of its own
abbrev pub shift_of : Part → List ℕ → Shift
shift_of part front = record { front = length front; start = part.start; count = part.end - part.start }

-- of a member, what is said where it is read as the only one of a definition that begins so
pub record IsSaidInBody (dialect : Dialect) (raw : List ℕ) (part : Part) (front : List ℕ) (refusal : Refusal) : Type 0 where
  pub said : Refusal
  pub is_said : IsSaidFromIn dialect (front ++ (slice_range raw part.start part.end ++ codes "};")) 0 said
  pub moved : IsMoved (shift_of part front) said refusal

-- a sign alone is expected at a place; a hint of what was said stays, if that is said of the place
pub record IsOfSign (said : Refusal) (place : ℕ) (sign : List ℕ) (refusal : Refusal) : Type 0 where
  pub start : refusal.start ≡ place
  pub at : refusal.place ≡ place
  pub expected : map word_view refusal.expected.items ≡ this_text sign ∷ []
  pub hint : IfSome refusal.hint (λ h. (said.place ≡ place) × (said.hint ≡ Some h))

-- the same is said, of what begins here
pub record IsSaidOf (said : Refusal) (start : ℕ) (refusal : Refusal) : Type 0 where
  pub begins : refusal.start ≡ start
  pub place : refusal.place ≡ said.place
  pub expected : refusal.expected ≡ said.expected
  pub hint : refusal.hint ≡ said.hint

-- by the sign that is missing, if one is
abbrev pub IsSaidBy : Option (List ℕ) → Refusal → ℕ → Refusal → Type 0
IsSaidBy (Some sign) said start refusal = IsOfSign said start sign refusal
IsSaidBy None said start refusal = IsSaidOf said start refusal

-- of anything except for a member, what is said where its definition is read up to the end of the
-- part
pub record IsSaidInDefinition (dialect : Dialect) (raw : List ℕ) (part : Part) (refusal : Refusal) : Type 0 where
  pub said : Refusal
  pub is_said : IsSaidFromIn dialect (slice_range raw 0 part.end) part.definition said
  pub by : IsSaidBy (missing_sign part) said part.start refusal

-- by the front of the definition that a member is read in, if it is a member
abbrev pub IsSaidBehind : Dialect → Option (List ℕ) → List ℕ → Part → Refusal → Type 0
IsSaidBehind dialect (Some front) raw part refusal = IsSaidInBody dialect raw part front refusal
IsSaidBehind dialect None raw part refusal = IsSaidInDefinition dialect raw part refusal

-- why a part is unread by the dialect's rules
pub record IsPartRefusalIn (dialect : Dialect) (raw : List ℕ) (part : Part) (refusal : Refusal) : Type 0 where
  pub unread : IsUnread raw part
  pub said : IsSaidBehind dialect (front_of dialect part.rule) raw part refusal

-- by weedle2's
abbrev pub IsPartRefusal : List ℕ → Part → Refusal → Type 0
IsPartRefusal = IsPartRefusalIn Weedle2
