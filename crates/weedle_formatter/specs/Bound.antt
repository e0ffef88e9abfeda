-- How long a text may become.
use Rattle.std.specs.Prelude.{ℕ, ◌+◌, ◌*◌}

-- how many bytes a text of n has at most once it is formatted
abbrev pub most_laid_out : ℕ → ℕ
most_laid_out n = 8 * n + 1024
