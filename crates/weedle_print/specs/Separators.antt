-- What is in front of the items of a list.
use Rattle.std.specs.Prelude.{Bool, true, false}
use Rattle.weedle_spell.specs.Forms.{Form, empty}

-- nothing in front of the first item, a separator in front of another
abbrev pub in_front_of : Bool → Form → Form
in_front_of true separator = empty
in_front_of false separator = separator
