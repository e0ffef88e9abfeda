-- Definitions that may be right below one another.
use Rattle.std.specs.Prelude.{◌≡◌, ◌≢◌, ◌⊎◌}
use Rattle.weedle_layout.specs.declared.statement.Statement.{Statement}
use Rattle.weedle_layout.specs.declared.statement.Statement.TheVariants.{Includes, Implements, Other}

-- it uses a mixin, or both are statements
abbrev pub MayFollow : Statement → Statement → Type 0
MayFollow kind before = (kind ≡ Includes) ⊎ (kind ≡ Implements) ⊎ ((kind ≢ Other) × (before ≢ Other))
