-- The reading of a type that has a rule of the grammar.
use Rattle.std.specs.Prelude.{◌≡◌, ℕ, List, [], ◌∷◌}
use Rattle.weedle_base.specs.Places.{IsSuffix}
use Rattle.weedle_base.specs.Reading.{Reading}
use Rattle.weedle_base.specs.declared.fault.ErrorKind.{ErrorKind}
use Rattle.weedle_base.specs.declared.fault.ErrorKind.TheVariants.{Memory}
use Rattle.weedle_grammar.specs.written.Table.{Reads}
use Rattle.weedle_grammar.specs.Trees.{Tree, Fails, Gives}

-- a call stops because memory runs out, at a suffix of the text, if the type asks for memory at all
abbrev pub stops_for_memory : Type 0 → List ℕ → List ℕ → ErrorKind → Type 0
stops_for_memory grows s x code = grows × (code ≡ Memory) × IsSuffix s x

-- the reading of a type with a rule: it gives what the rule gives at the front of the text, refuses
-- where the rule fails, and stops because memory runs out alone
unfoldable pub own : {V : Type 0} → ℕ → (V → Tree) → Type 0 → Reading V
own r tree grows = record {
  gives = λ s v k. Reads s r 0 (Gives (tree v ∷ []) k);
  refuses = λ s. Reads s r 0 Fails;
  stops = stops_for_memory grows;
  grows = grows;
  alike = λ v w. tree v ≡ tree w;
}
