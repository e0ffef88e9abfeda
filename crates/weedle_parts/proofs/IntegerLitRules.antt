-- The rule of whole numbers.
use Rattle.std.specs.Prelude.{ℕ, List, ◌⊎◌}
use Rattle.std.specs.Borrow.{Bor}
use Rattle.std.proofs.Common.{refl, inl, inr}
use Rattle.weedle_grammar.specs.Trees.{Alt}
use Rattle.weedle_grammar.specs.written.Table.Leaves.{DEC_LIT, HEX_LIT, OCT_LIT}
use Rattle.weedle_grammar.specs.written.Table.Literals.{INTEGER_LIT}
use Rattle.weedle_base.specs.declared.fault.Err.{Err as Fault}
use Rattle.weedle_base.specs.declared.fault.Error.{Error}
use Rattle.weedle_base.specs.Own.{own}
use Rattle.weedle_base.specs.Reading.{Reading, Got, Faults}
use Rattle.weedle_base.specs.Rules.{IsRule}
use Rattle.weedle_base.proofs.ChoiceFacts.{choice_tree, first_last, first_more, first_rule, choice_steps}
use Rattle.weedle_base.specs.Generic.{choice_reading}
use Rattle.weedle_base.proofs.RuleFacts.{own_rule, got_rule, fault_rule}
use Rattle.weedle_parts.specs.declared.literal.integer.DecLit.{DecLit}
use Rattle.weedle_parts.specs.declared.literal.integer.HexLit.{HexLit}
use Rattle.weedle_parts.specs.declared.literal.integer.OctLit.{OctLit}
use Rattle.weedle_parts.specs.declared.literal.integer.IntegerLit.{IntegerLit}
use Rattle.weedle_parts.specs.declared.literal.integer.IntegerLit.TheVariants.{Dec, Hex, Oct}
use Rattle.weedle_parts.specs.LiteralTrees.{dec_tree, hex_tree, oct_tree, integer_tree}

abbrev pub integer_parts : Reading (DecLit ⊎ (HexLit ⊎ OctLit))
integer_parts = choice_reading (own DEC_LIT dec_tree ⊥) (choice_reading (own HEX_LIT hex_tree ⊥) (own OCT_LIT oct_tree ⊥))

integer_rule : IsRule integer_parts INTEGER_LIT
    (choice_tree (λ v. Alt 0 (dec_tree v))
    (choice_tree (λ v. Alt 1 (hex_tree v)) (λ v. Alt 2 (oct_tree v)))) ⊥
integer_rule =
    first_rule
    (first_more 0 (own_rule DEC_LIT dec_tree ⊥)
    (first_more 1 (own_rule HEX_LIT hex_tree ⊥)
    (first_last 2 (own_rule OCT_LIT oct_tree ⊥))))
    INTEGER_LIT refl refl

-- which of the alternatives a value is
abbrev integer_view : IntegerLit → DecLit ⊎ (HexLit ⊎ OctLit)
integer_view (Dec v) = inl v
integer_view (Hex v) = inr (inl v)
integer_view (Oct v) = inr (inr v)

-- the parts give what the rule gives
pub integer_got : {s rest : List ℕ} (x : IntegerLit) → Got integer_parts s (integer_view x) rest → Got (own INTEGER_LIT integer_tree ⊥) s x rest
integer_got (Dec v) h = got_rule integer_rule integer_tree _ h refl
integer_got (Hex v) h = got_rule integer_rule integer_tree _ h refl
integer_got (Oct v) h = got_rule integer_rule integer_tree _ h refl

-- a fault of the parts is one of the rule
pub integer_fault : {s : List ℕ} {e : Fault (Error (Bor (List ℕ)))} → Faults integer_parts s e → Faults (own INTEGER_LIT integer_tree ⊥) s e
integer_fault h = fault_rule integer_rule integer_tree h

-- what the search for the proof of its `parse` uses
pub ruleset integer_steps = (choice_steps, integer_got, integer_fault)
