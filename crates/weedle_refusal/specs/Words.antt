-- The words for the rules that are unmet at a place: that for each rule in turn, each word once.
use Rattle.std.specs.Prelude.{◌≡◌, ◌≢◌, ◌==◌, ◌&&◌, ◌||◌, not, if◌then◌else◌, ℕ, Bool, true, false, List, [], ◌∷◌, ◌++◌, map, All, Any, Option, Some, None}
use Rattle.std.specs.List.{AllPairs, Contains, filter_map, list_any, list_all}
use Rattle.std.specs.Option.{option_or}
use Rattle.weedle_refusal.specs.declared.expected.Expected.{Expected}
use Rattle.weedle_refusal.specs.declared.expected.Expected.TheVariants as word
use Rattle.weedle_refusal.specs.declared.starts.TheConstants.{NAMES, TYPES, TYPES_BUT_ANY, CONST_TYPES, DEFAULT_VALUES, CONST_VALUES}
use Rattle.weedle_refusal.specs.declared.today_starts.TheConstants.{TODAY_TYPES, TODAY_TYPES_BUT_ANY, TODAY_CONST_TYPES, TODAY_DEFAULT_VALUES}
use Rattle.weedle_grammar.specs.Rows.{Row, Bytes, OneOf, NotNext, Past}
use Rattle.weedle_grammar.specs.declared.class.Class.{Class}
use Rattle.weedle_grammar.specs.written.Table.{row_of}
use Rattle.weedle_grammar.specs.written.Table.Keywords.{NOT_NEXT_NAME}
use Rattle.weedle_grammar.specs.written.Table.Leaves.{PAST_LF}
use Rattle.weedle_grammar.specs.written.Table.Trivia.{BYTES_LF, BYTES_SLASH_SLASH, BYTES_SLASH_STAR, NOT_NEXT_ANY, NOT_NEXT_SLASH, ONE_OF_BLANK, PAST_STAR_SLASH}
use Rattle.weedle_syntax.specs.declared.dialect.Dialect.{Dialect}
use Rattle.weedle_syntax.specs.declared.dialect.Dialect.TheVariants.{Weedle2, Today}

-- what is said of a rule
pub data Word : Type 0 where
  a_type : Word
  a_value : Word
  a_name : Word
  this_text : List ℕ → Word
  one_of : Class → Word
  end_of_word : Word
  no_docstring : Word
  end_of_comment : Word
  end_of_line : Word
  end_of_text : Word

-- the program's word; a text is its bytes, wherever they are kept
abbrev pub word_view : Expected → Word
word_view word.Type = a_type
word_view word.Value = a_value
word_view word.Name = a_name
word_view (word.Text text) = this_text text.now
word_view (word.OneOf class) = one_of class
word_view word.EndOfWord = end_of_word
word_view word.NoDocstring = no_docstring
word_view word.EndOfComment = end_of_comment
word_view word.EndOfLine = end_of_line
word_view word.EndOfText = end_of_text

-- the rule is among the rules
abbrev pub has : List ℕ → ℕ → Bool
has rules r = list_any (λ x. x == r) rules

-- the rule is one of these starts, and all of them are among the rules
abbrev pub is_start : List ℕ → List ℕ → ℕ → Bool
is_start rules starts r = has starts r && list_all (has rules) starts

-- the rule begins a type of the dialect, and every start of one is among the rules: of any, of one that is neither `any` nor a union, or of a
-- constant's
abbrev pub is_type_start : Dialect → List ℕ → ℕ → Bool
is_type_start Weedle2 rules r = is_start rules TYPES.now r || (is_start rules TYPES_BUT_ANY.now r || is_start rules CONST_TYPES.now r)
is_type_start Today rules r = is_start rules TODAY_TYPES.now r || (is_start rules TODAY_TYPES_BUT_ANY.now r || is_start rules TODAY_CONST_TYPES.now r)

-- the same of the value of a default or of a constant
abbrev pub is_value_start : Dialect → List ℕ → ℕ → Bool
is_value_start Weedle2 rules r = is_start rules DEFAULT_VALUES.now r || is_start rules CONST_VALUES.now r
is_value_start Today rules r = is_start rules TODAY_DEFAULT_VALUES.now r || is_start rules CONST_VALUES.now r

-- what begins whitespace or a comment, and the LF of a line comment: they may be nearly everywhere,
-- and aren't said
abbrev pub is_left_out : ℕ → Bool
is_left_out r = r == BYTES_LF || (r == BYTES_SLASH_SLASH || (r == ONE_OF_BLANK || r == BYTES_SLASH_STAR))

-- the word for what must not follow, and for what ends
abbrev pub named_word : ℕ → Option Word
named_word r =
    if r == NOT_NEXT_NAME then Some end_of_word
    else (if r == NOT_NEXT_SLASH then Some no_docstring
    else (if r == NOT_NEXT_ANY then Some end_of_text
    else (if r == PAST_STAR_SLASH then Some end_of_comment
    else (if r == PAST_LF then Some end_of_line else None))))

-- the word for a text or a class
abbrev pub row_word : Row → Option Word
row_word (Bytes bytes) = Some (this_text bytes)
row_word (OneOf class) = Some (one_of class)
row_word _ = None

-- the word for a rule by itself
abbrev pub own_word : ℕ → Option Word
own_word r = if is_left_out r then None else option_or (named_word r) (row_word (row_of r))

-- the word for rule r where these rules of a dialect are unmet: that of its kind where every start of the kind is unmet, and else its own
abbrev pub word_for : Dialect → List ℕ → ℕ → Option Word
word_for dialect rules r =
    if is_type_start dialect rules r then Some a_type
    else (if is_value_start dialect rules r then Some a_value
    else (if is_start rules NAMES.now r then Some a_name else own_word r))

-- the second list has what is in the first, each once, in the order in which it first is there
pub data IsEachOnce {X : Type 0} : List X → List X → Type 0 where
  none : IsEachOnce [] []
  again : {xs ys : List X} {x : X} → IsEachOnce xs ys → Contains ys x → IsEachOnce (xs ++ x ∷ []) ys
  anew : {xs ys : List X} {x : X} → IsEachOnce xs ys → ¬ Contains ys x → IsEachOnce (xs ++ x ∷ []) (ys ++ x ∷ [])

-- the row looks at the text itself, and fails at some texts
abbrev pub may_fail : Row → Bool
may_fail (Bytes bytes) = true
may_fail (OneOf class) = true
may_fail (NotNext class) = true
may_fail (Past bytes) = true
may_fail _ = false

-- the rule is said where it is unmet
abbrev pub has_word : ℕ → Bool
has_word r = not (is_left_out r) && may_fail (row_of r)

-- the word is that for rule r, where these rules of a dialect are unmet
abbrev pub IsWordFor : Dialect → List ℕ → ℕ → Expected → Type 0
IsWordFor dialect rules r w = word_for dialect rules r ≡ Some (word_view w)

-- some word is that for rule r
abbrev pub IsSaid : Dialect → List ℕ → List Expected → ℕ → Type 0
IsSaid dialect rules words r = Any (IsWordFor dialect rules r) words

-- each word is that for one of the rules, and for none that is left out
abbrev pub AreSound : Dialect → List ℕ → List Expected → Type 0
AreSound dialect rules words = All (λ w. (r : ℕ) × Contains rules r × (has_word r ≡ true) × IsWordFor dialect rules r w) words

-- the words for these rules of a dialect
pub record AreWordsIn (dialect : Dialect) (rules : List ℕ) (words : List Expected) : Type 0 where
  -- that for each rule in turn, each once: so in the order of the rules, and none that a rule has by itself where its kind is said of it
  pub are : IsEachOnce (filter_map (word_for dialect rules) rules) (map word_view words)
  -- no word occurs twice
  pub once : AllPairs (λ v w. word_view v ≢ word_view w) words
  pub sound : AreSound dialect rules words
  pub complete : (r : ℕ) → Contains rules r → has_word r ≡ true → IsSaid dialect rules words r

-- for these rules of weedle2's
abbrev pub AreWords : List ℕ → List Expected → Type 0
AreWords rules words = AreWordsIn Weedle2 rules words
