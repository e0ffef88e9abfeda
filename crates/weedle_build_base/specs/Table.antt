-- What is known of a text, as contracts see it.
use Rattle.std.specs.Prelude.{ℕ, List}
use Rattle.weedle_build_base.specs.declared.table.Known.{Known}
use Rattle.weedle_build_base.specs.declared.table.Known.TheVariants.{Filled, OnDemand}

-- the text that it is known of
abbrev pub text_of : Known → List ℕ
text_of (Filled ends) = ends.now.text
text_of (OnDemand memo) = memo.now.text
