-- Where two words would be read as one.
use Rattle.std.specs.Prelude.{◌≡◌, ℕ, ◌-◌, Bool, false, List, length, Option, None, Some}
use Rattle.std.specs.List.{slice_get}
use Rattle.weedle_grammar.specs.Rows.{is_in}
use Rattle.weedle_grammar.specs.declared.class.Class.TheVariants.{Blank, Name}
use Rattle.weedle_spell.specs.Forms.{Form, ◌then◌, exactly, any, some}

-- there is a byte, and it is a letter, a digit, `_` or `-`, of which names, keywords and numbers are
abbrev pub is_of_name : Option ℕ → Bool
is_of_name None = false
is_of_name (Some byte) = is_in Name byte

-- the text begins with such a byte
abbrev pub begins_as_name : List ℕ → Bool
begins_as_name text = is_of_name (slice_get text 0)

-- the text ends with one: what begins with one, and is right behind it, would go on with its last
-- word
abbrev pub ends_as_name : List ℕ → Bool
ends_as_name text = is_of_name (slice_get text (length text - 1))

-- so many spaces or line ends
abbrev pub so_many : ℕ → Form
so_many n s = any Blank s × (length s ≡ n)

-- the text, behind a space or a line end, or more
abbrev pub apart : List ℕ → Form
apart text = some Blank then exactly text
