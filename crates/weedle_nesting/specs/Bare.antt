-- A text without its strings and comments.
use Rattle.std.specs.Prelude.{ℕ, List, [], ◌∷◌, Bool, true, false, ◌==◌, ◌&&◌, if◌then◌else◌}

-- what a byte of a text is in
pub data Inside : Type 0 where
  -- words, signs and whitespace
  Words : Inside
  -- words, signs and whitespace, right behind a slash
  Slash : Inside
  -- a comment or a line of a docstring, up to the line feed
  Line : Inside
  -- a comment, up to an asterisk and a slash
  Block : Inside
  -- a comment, up to an asterisk and a slash, right behind an asterisk
  Asterisk : Inside
  -- a string, up to the second quote
  Quotes : Inside

-- what the next byte is in, where this one is among words: 34 is the quote, 47 the slash
abbrev pub behind_words : ℕ → Inside
behind_words b = if b == 34 then Quotes else if b == 47 then Slash else Words

-- what the next byte is in: 42 is the asterisk, 10 the line feed
abbrev pub behind : Inside → ℕ → Inside
behind Words b = behind_words b
behind Slash b = if b == 47 then Line else if b == 42 then Block else behind_words b
behind Line b = if b == 10 then Words else Line
behind Block b = if b == 42 then Asterisk else Block
behind Asterisk b = if b == 47 then Words else if b == 42 then Asterisk else Block
behind Quotes b = if b == 34 then Words else Quotes

-- neither a string nor a comment
abbrev pub is_among_words : Inside → Bool
is_among_words Words = true
is_among_words Slash = true
is_among_words Line = false
is_among_words Block = false
is_among_words Asterisk = false
is_among_words Quotes = false

-- the bytes of a text that belong to no string and no comment, where the first is in this
abbrev pub bare_from : Inside → List ℕ → List ℕ
bare_from inside [] = []
bare_from inside (b ∷ text) =
    let next = behind inside b in
    let rest = bare_from next text in
    if is_among_words inside && is_among_words next then b ∷ rest else rest

-- a text without its strings and comments; of a comment the first slash stays
abbrev pub bare : List ℕ → List ℕ
bare text = bare_from Words text
