-- A value of one of two types.
use Rattle.std.proofs.Common.{inl, inr}
use Rattle.std.specs.Prelude.{◌⊎◌}
use Rattle.weedle_base.specs.declared.choice.Choice.{Choice}
use Rattle.weedle_base.specs.declared.choice.Choice.TheVariants.{First, Second}

-- of which type it is
abbrev pub choice_view : {V W : Type 0} → Choice V W → V ⊎ W
choice_view (First v) = inl v
choice_view (Second w) = inr w
