-- What is read of a text where the fields of a struct are given side by side.
use Rattle.std.specs.Borrow.{Bor}
use Rattle.std.specs.Prelude.{ℕ, List, Option, Result, Ok, Err}
use Rattle.weedle_base.specs.Generic.{option_reading, pair_reading}
use Rattle.weedle_base.specs.Own.{own}
use Rattle.weedle_base.specs.Reading.{Reading, Got, Faults}
use Rattle.weedle_base.specs.declared.fault.Err.{Err as Fault}
use Rattle.weedle_base.specs.declared.fault.Error.{Error}
use Rattle.weedle_grammar.specs.written.Table.Leaves.{DOCSTRING}
use Rattle.weedle_grammar.specs.written.Table.Types.{OPT_EXTENDED_ATTRIBUTE_LIST}
use Rattle.weedle_parts.specs.ValueTrees.{docstring_tree}
use Rattle.weedle_parts.specs.declared.common.docstring.Docstring.{Docstring}
use Rattle.weedle_types.specs.PartTrees.{Attributes}
use Rattle.weedle_types.specs.Trees.{attributes_tree}

-- extended attributes where present, and then what R reads
abbrev pub attributes_then : {V : Type 0} → Reading V → Reading (Attributes × V)
attributes_then R = pair_reading (own OPT_EXTENDED_ATTRIBUTE_LIST attributes_tree (Unit {0})) R

-- a docstring where present, and then what R reads
abbrev pub docstring_then : {V : Type 0} → Reading V → Reading (Option Docstring × V)
docstring_then R = pair_reading (option_reading (own DOCSTRING docstring_tree (Unit {0}))) R

-- what a call may answer on s whose value, put into pairs, is one that R reads
module _ {V W : Type 0} (R : Reading W) (pairs : V → W) (s : List ℕ) where
  abbrev pub AnswersInPairs : Result (Bor (List ℕ) × V) (Fault (Error (Bor (List ℕ)))) → Type 0
  AnswersInPairs (Ok x) = Got R s (pairs x.1) x.0.now
  AnswersInPairs (Err e) = Faults R s e
