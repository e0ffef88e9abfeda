-- The rows of a grammar, and what the rows without parts take.
use Rattle.std.specs.Prelude.{ℕ, suc, Bool, true, false, ◌&&◌, ◌||◌, not, if◌then◌else◌, nat_le, ◌==◌, List, [], ◌∷◌, length, Option, Some, None, option_map}
use Rattle.weedle_grammar.specs.declared.class.Class.{Class}
use Rattle.weedle_grammar.specs.declared.class.Class.TheVariants.{Blank, Digit, OneToNine, Octal, Hex, Alnum, Name, Slash, XLetter, ELetter, Sign, NotQuote, Letter, NotLineFeed, Any}

-- the byte lies between the two, both included
abbrev pub is_from_to : ℕ → ℕ → ℕ → Bool
is_from_to lo hi byte = nat_le lo byte && nat_le byte hi

-- a space, a tab, a CR or an LF
abbrev pub is_blank : ℕ → Bool
is_blank byte = byte == 32 || byte == 9 || byte == 13 || byte == 10

-- an ASCII letter or digit
abbrev pub is_alnum : ℕ → Bool
is_alnum byte = is_from_to 48 57 byte || is_from_to 65 90 byte || is_from_to 97 122 byte

-- the byte is in the class
abbrev pub is_in : Class → ℕ → Bool
is_in Blank byte = is_blank byte
is_in Digit byte = is_from_to 48 57 byte
is_in OneToNine byte = is_from_to 49 57 byte
is_in Octal byte = is_from_to 48 55 byte
is_in Hex byte = is_from_to 48 57 byte || is_from_to 97 102 byte || is_from_to 65 70 byte
is_in Alnum byte = is_alnum byte
is_in Name byte = is_alnum byte || byte == 95 || byte == 45
is_in Slash byte = byte == 47
is_in XLetter byte = byte == 120 || byte == 88
is_in ELetter byte = byte == 101 || byte == 69
is_in Sign byte = byte == 43 || byte == 45
is_in NotQuote byte = not (byte == 34)
is_in Letter byte = is_from_to 65 90 byte || is_from_to 97 122 byte
is_in NotLineFeed byte = not (byte == 10)
is_in Any byte = true

-- what a rule reads, where rules are numbers
pub data Row : Type 0 where
  -- these bytes
  Bytes : List ℕ → Row
  -- one byte of the class
  OneOf : Class → Row
  -- nothing, where no byte of the class is next
  NotNext : Class → Row
  -- all bytes of the class from here on
  Run : Class → Row
  -- everything up to these bytes, and these
  Past : List ℕ → Row
  -- the rules one after another
  Seq : List ℕ → Row
  -- the first rule that fits
  First : List ℕ → Row
  -- the rule, or nothing
  Opt : ℕ → Row
  -- the rule from end to end until it fails
  Many : ℕ → Row
  -- an item and the items after it, or nothing
  ListOf : ℕ → ℕ → Row
  -- an item and the items after it
  List1 : ℕ → ℕ → Row
  -- items, each behind a separator
  Tail : ℕ → ℕ → Row
  -- the rules one after another, then the last where the part of this number gave something
  If : List ℕ → ℕ → ℕ → Row

-- the text begins with the bytes
abbrev pub begins : List ℕ → List ℕ → Bool
begins [] text = true
begins (b ∷ bytes) [] = false
begins (b ∷ bytes) (t ∷ text) = b == t && begins bytes text

-- how many bytes a row without parts takes at the front of the text, or None where it fails: these bytes
abbrev pub take_bytes : List ℕ → List ℕ → Option ℕ
take_bytes bytes text = if begins bytes text then Some (length bytes) else None

-- one byte of the class
abbrev pub take_one : Class → List ℕ → Option ℕ
take_one class [] = None
take_one class (b ∷ text) = if is_in class b then Some 1 else None

-- none, where no byte of the class is next
abbrev pub take_not_next : Class → List ℕ → Option ℕ
take_not_next class [] = Some 0
take_not_next class (b ∷ text) = if is_in class b then None else Some 0

-- how many bytes at the front are in the class
abbrev pub run_length : Class → List ℕ → ℕ
run_length class [] = 0
run_length class (b ∷ text) = if is_in class b then suc (run_length class text) else 0

-- all up to the first place of these bytes, and these
abbrev pub take_past : List ℕ → List ℕ → Option ℕ
take_past bytes [] = take_bytes bytes []
take_past bytes (t ∷ text) = if begins bytes (t ∷ text) then Some (length bytes) else option_map suc (take_past bytes text)
