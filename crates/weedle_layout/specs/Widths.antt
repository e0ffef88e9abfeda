-- Characters and lines of texts.
use Rattle.std.specs.Prelude.{ℕ, Bool, ◌==◌, not, ◌||◌, nat_lt, nat_le, List, reverse, take_while}

-- a character begins with the byte: it is none of those that continue one
abbrev pub begins_character : ℕ → Bool
begins_character byte = nat_lt byte 128 || nat_le 192 byte

-- the bytes behind the last LF, from the last to the first
abbrev pub last_line : List ℕ → List ℕ
last_line bytes = take_while (λ byte. not (byte == 10)) (reverse bytes)
