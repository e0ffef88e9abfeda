-- Lists of definitions.
use Rattle.std.proofs.Common.{arith, refl}
use Rattle.std.specs.Global.{Vec}
use Rattle.std.specs.Prelude.{drop}
use Rattle.weedle_base.proofs.RuleFacts.{own_rule}
use Rattle.weedle_base.proofs.RunRules.{run_rule}
use Rattle.weedle_base.proofs.TakesFacts.{own_takes}
use Rattle.weedle_base.specs.Own.{own}
use Rattle.weedle_base.specs.Reading.{Reading}
use Rattle.weedle_base.specs.Rules.{IsRule}
use Rattle.weedle_base.specs.Runs.{run_reading, vec_step}
use Rattle.weedle_idl.specs.written.DefinitionTrees.{definition_tree, definitions_tree}
use Rattle.weedle_idl.specs.Laws.{NeverRefuses}
use Rattle.weedle_idl.specs.declared.definition.Definition.{Definition}
use Rattle.weedle_grammar.specs.written.Table.Definitions.{DEFINITION, DEFINITIONS}

-- what a list of definitions reads
abbrev pub definitions_reading : Reading (Vec Definition)
definitions_reading = run_reading (λ v. v.items) (vec_step (own DEFINITION definition_tree (Unit {0})))

pub definitions_rule : IsRule definitions_reading DEFINITIONS (λ v. definitions_tree v.items) (Unit {0})
definitions_rule = run_rule (own_rule DEFINITION definition_tree (Unit {0})) (λ v. v.items) DEFINITIONS refl refl tt

-- a definition takes a byte or more
pub definitions_never_refuse : NeverRefuses definitions_reading
definitions_never_refuse s h =
    let m = h.3 in
    omega (arith, (own_takes DEFINITION definition_tree (Unit {0}) refl).takes (drop h.1 s) m.0 0 m.1)
