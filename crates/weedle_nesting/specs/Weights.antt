-- What recursive descent reads again since extended attributes nest: what is in the arguments of
-- one is read up to three times.
use Rattle.std.specs.Prelude.{ℕ, ◌+◌, ◌*◌, ◌^◌, ◌<◌, ◌≤◌, List, [], ◌∷◌, length, ◌==◌, ◌&&◌, if◌then◌else◌}
use Rattle.weedle_nesting.specs.Bare.{Inside, Words, bare, behind, is_among_words}
use Rattle.weedle_nesting.specs.Nesting.{attributes_behind, most_brackets}

-- how many `[` are open behind a byte, so that descent may read what is in them: a semicolon, which
-- is 59, is in no bracket of the grammar, so behind one none is open
abbrev pub attributes_read : ℕ → ℕ → ℕ
attributes_read depth b = if b == 59 then 0 else attributes_behind depth b

-- how many `[` are open behind a byte; one in a string or a comment opens and closes none
abbrev pub open_after : Inside → Inside → ℕ → ℕ → ℕ
open_after inside next depth b = if is_among_words inside && is_among_words next then attributes_read depth b else depth

-- the sum over all bytes of 3 to the power of the `[` that are open in front of each, where so many
-- are open in front of the first, which is in this
abbrev pub weights_from : Inside → ℕ → List ℕ → ℕ
weights_from inside depth [] = 0
weights_from inside depth (b ∷ text) =
    let next = behind inside b in
    3 ^ depth + weights_from next (open_after inside next depth b) text

-- the sum over all bytes of a whole text of 3 to the power of the `[` that are open in front of each
abbrev pub weights : List ℕ → ℕ
weights text = weights_from Words 0 text

-- the weights are less than four for each byte and one more, and at most 1,000 of `(` and `<` are open at once. That is
-- no bound on what descent reads: of some texts that suit it a byte was read 8 to 21 times
abbrev pub SuitsDescent : List ℕ → Type 0
SuitsDescent text = (weights text < 4 * (length text + 1)) × (most_brackets (bare text) ≤ 1000)
