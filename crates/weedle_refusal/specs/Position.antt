-- Lines and columns of places.
use Rattle.std.specs.Prelude.{◌≡◌, ℕ, ◌+◌, Bool, ◌==◌, not, ◌||◌, nat_lt, nat_le, List, take, reverse, count_by, take_while}
use Rattle.weedle_refusal.specs.declared.position.Position.{Position}

-- a character begins with the byte: it is none of those that continue one
abbrev pub begins_character : ℕ → Bool
begins_character byte = nat_lt byte 128 || nat_le 192 byte

-- the bytes behind the last LF, from the last to the first
abbrev pub last_line : List ℕ → List ℕ
last_line before = take_while (λ byte. not (byte == 10)) (reverse before)

-- the line is one more than the LFs before the place; the column is one more than the characters that begin behind the last of them and before the place
pub record IsPositionOf (text : List ℕ) (place : ℕ) (position : Position) : Type 0 where
  pub line : position.line ≡ 1 + count_by (λ byte. byte == 10) (take place text)
  pub column : position.column ≡ 1 + count_by begins_character (last_line (take place text))
