-- What a byte of a definition is in, by the bytes before it.
use Rattle.std.specs.Prelude.{◌≡◌, ℕ, Bool, true, false, ◌==◌, if◌then◌else◌, List, [], ◌∷◌, slice_range}
use Rattle.weedle_refusal.specs.declared.hint.inside.Inside.{Inside}
use Rattle.weedle_refusal.specs.declared.hint.inside.Inside.TheVariants.{Code, Slash, Line, Block, Star, Text}

-- behind a byte in neither a string nor a comment, where a `/` brings this
abbrev pub in_code : ℕ → Inside → Inside
in_code byte slash = if byte == 34 then Text else (if byte == 47 then slash else Code)

-- behind a byte of a block comment, where a `/` brings this
abbrev pub in_block : ℕ → Inside → Inside
in_block byte slash = if byte == 42 then Star else (if byte == 47 then slash else Block)

-- behind one more byte
abbrev pub step : Inside → ℕ → Inside
step Code byte = in_code byte Slash
-- `//` begins a line comment or a docstring's line, and `/*` a block comment
step Slash byte = if byte == 47 then Line else (if byte == 42 then Block else in_code byte Code)
step Line byte = if byte == 10 then Code else Line
step Block byte = in_block byte Block
step Star byte = in_block byte Code
step Text byte = if byte == 34 then Code else Text

-- behind these bytes
abbrev pub behind : Inside → List ℕ → Inside
behind inside [] = inside
behind inside (byte ∷ bytes) = behind (step inside byte) bytes

-- neither a string nor a comment
abbrev pub is_outside : Inside → Bool
is_outside Code = true
is_outside Slash = true
is_outside Line = false
is_outside Block = false
is_outside Star = false
is_outside Text = false

-- what is there is in neither a string nor a comment of what begins at `start`
abbrev pub IsOutside : List ℕ → ℕ → ℕ → Type 0
IsOutside raw start at = is_outside (behind Code (slice_range raw start at)) ≡ true
