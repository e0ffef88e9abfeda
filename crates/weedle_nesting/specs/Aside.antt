-- What a string, a comment or a mark weighs: for the contracts of the functions that pass over them.
use Rattle.std.specs.Prelude.{◌≡◌, ℕ, zero, suc, ◌+◌, ◌^◌, List, length}
use Rattle.weedle_nesting.specs.Bare.{Inside, Words, behind_words}
use Rattle.weedle_nesting.specs.Weights.{attributes_read, weights_from}

-- so many times a number
abbrev pub times : ℕ → ℕ → ℕ
times zero w = 0
times (suc k) w = w + times k w

-- from bytes in this, all of one weight, up to a remaining text among words
pub record IsAside (inside : Inside) (depth : ℕ) (text rest : List ℕ) : Type 0 where
  pub count : ℕ
  pub bytes : length text ≡ count + length rest
  pub weigh : weights_from inside depth text ≡ times count (3 ^ depth) + weights_from Words depth rest

-- what is left behind a mark, with a string or a comment that it begins
pub record IsBehind (mark depth : ℕ) (after rest : List ℕ) : Type 0 where
  pub count : ℕ
  pub bytes : length after ≡ count + length rest
  pub weigh : weights_from (behind_words mark) (attributes_read depth mark) after ≡ times count (3 ^ depth) + weights_from Words (attributes_read depth mark) rest
