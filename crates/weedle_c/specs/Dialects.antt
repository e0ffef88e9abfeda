-- Dialects by the numbers that C has for them.
use Rattle.std.specs.Prelude.{◌==◌, if◌then◌else◌, ℕ}
use Rattle.weedle_syntax.specs.declared.dialect.Dialect.{Dialect}
use Rattle.weedle_syntax.specs.declared.dialect.Dialect.TheVariants.{Weedle2, Today}

-- the dialect of a number: 0 is weedle2's, and 1 today's; no call takes another
abbrev pub dialect_of : ℕ → Dialect
dialect_of number = if number == 0 then Weedle2 else Today
