-- Synchronisation points: where an unread part ends.
use Rattle.std.specs.Prelude.{◌≡◌, ◌<◌, ◌⊎◌, ◌==◌, ◌&&◌, ◌||◌, ℕ, Bool, true, false, List, [], ◌∷◌, length, take, slice_index}
use Rattle.weedle_rules.specs.Outcomes.{EndsAt}
use Rattle.weedle_recovery.specs.Dialects.{parts_of, beginnings_of}
use Rattle.weedle_recovery.specs.Tokens.{IsFirstToken, IsNextToken}
use Rattle.weedle_recovery.specs.declared.stops.Goal.{Goal}
use Rattle.weedle_recovery.specs.declared.stops.Goal.TheVariants as goal
use Rattle.weedle_recovery.specs.declared.token.Token.{Token}
use Rattle.weedle_syntax.specs.declared.dialect.Dialect.{Dialect}

-- rules are read one after another from p to e
abbrev pub AreRead : List ℕ → List ℕ → ℕ → ℕ → Type 0
AreRead text [] p e = e ≡ p
AreRead text (r ∷ rs) p e = (q : ℕ) × EndsAt text r p q × AreRead text rs q e

-- rule r is read at p
abbrev pub IsReadAt : List ℕ → ℕ → ℕ → Type 0
IsReadAt text r p = (e : ℕ) × EndsAt text r p e

-- so many parts at the front of a definition are read at p
abbrev pub FrontReads : Dialect → List ℕ → ℕ → ℕ → ℕ → Type 0
FrontReads dialect text definition many p = (e : ℕ) × AreRead text (take many (parts_of dialect definition)) p e

-- the front of one of these is read at p
abbrev pub OneReads : Dialect → List ℕ → List (ℕ × ℕ) → ℕ → Type 0
OneReads dialect text [] p = ⊥
OneReads dialect text (d ∷ ds) p = FrontReads dialect text d.0 d.1 p ⊎ OneReads dialect text ds p

-- a definition of the dialect begins at p: its keywords and its name are read there
pub record Begins (dialect : Dialect) (text : List ℕ) (p : ℕ) : Type 0 where
  pub one : OneReads dialect text (beginnings_of dialect) p

-- what is looked for begins at p
abbrev pub Starts : Dialect → List ℕ → Goal → ℕ → Type 0
Starts dialect text goal.Definition p = Begins dialect text p
Starts dialect text goal.Body p = Begins dialect text p
Starts dialect text (goal.Member rule) p = IsReadAt text rule p ⊎ Begins dialect text p

-- the reading may go on at the token: it is the first of its line, or follows a `;` or a `}`
abbrev pub is_stop : Token → Bool
is_stop token = token.is_first || token.before == 59 || token.before == 125

-- the token reaches the goal whatever is read there: the `{` of a body, or what shows that there is
-- none; of the members of a body the `}` that closes it, and what follows the `;` of one of them
abbrev pub is_closing : Goal → Token → ℕ → Bool
is_closing goal.Definition token byte = false
is_closing goal.Body token byte = byte == 123 || byte == 59 || byte == 125
is_closing (goal.Member rule) token byte = token.depth == 0 && (byte == 125 || token.before == 59)

-- the goal is reached at the token
abbrev pub IsReached : Dialect → List ℕ → Goal → Token → Type 0
IsReached dialect text goal token = (is_closing goal token (slice_index text token.at) ≡ true) ⊎ ((is_stop token ≡ true) × Starts dialect text goal token.at)

-- an unread part that ends at the token ends at the lines of comments before it, if what is looked for begins there
abbrev pub EndsBefore : Dialect → List ℕ → Goal → Token → ℕ → Type 0
EndsBefore dialect text goal token e = (Starts dialect text goal token.line × (e ≡ token.line)) ⊎ (¬ Starts dialect text goal token.line × (e ≡ token.at))

-- an unread part that comes to this token ends at e: at the first token from here on at which the goal is reached, or with the text
pub data StopsAt (dialect : Dialect) (text : List ℕ) (goal : Goal) : Token → ℕ → Type 0 where
  with_text : {token : Token} {e : ℕ} → token.at ≡ length text → e ≡ token.at → StopsAt dialect text goal token e
  at_goal : {token : Token} {e : ℕ} → token.at < length text → IsReached dialect text goal token → EndsBefore dialect text goal token e → StopsAt dialect text goal token e
  behind : {token next : Token} {e : ℕ} → token.at < length text → ¬ IsReached dialect text goal token → IsNextToken text token next → StopsAt dialect text goal next e
      → StopsAt dialect text goal token e

-- an unread part that begins at p ends at e: its first token belongs to it
abbrev pub PassesTo : Dialect → List ℕ → Goal → ℕ → ℕ → Type 0
PassesTo dialect text goal p e =
    (first : Token) × IsFirstToken text p first
    × (((first.at ≡ length text) × (e ≡ first.at)) ⊎ ((first.at < length text) × ((second : Token) × IsNextToken text first second × StopsAt dialect text goal second e)))
