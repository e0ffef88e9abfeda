-- Where the lines of a text begin.
use Rattle.std.specs.Prelude.{◌≡◌, ◌<◌, ◌+◌, ◌-◌, ℕ, ◌==◌, List, take, length, count_by, slice_index}

-- how many LFs come before a place
abbrev pub feeds_before : List ℕ → ℕ → ℕ
feeds_before text place = count_by (λ byte. byte == 10) (take place text)

-- the place right behind an LF, before which there are so many others
pub record IsLineStart (text : List ℕ) (others start : ℕ) : Type 0 where
  pub behind : 0 < start
  pub before : feeds_before text (start - 1) ≡ others
  pub after : feeds_before text start ≡ others + 1

-- these are the places behind all LFs of the text, in their order
pub record AreLineStarts (text starts : List ℕ) : Type 0 where
  pub many : length starts ≡ feeds_before text (length text)
  pub are : (i : ℕ) → i < length starts → IsLineStart text i (slice_index starts i)
