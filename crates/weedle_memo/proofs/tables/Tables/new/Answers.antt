use Rattle.std.proofs.Common.{ℕ, subst, ap, arith, refl, ◌∙◌}
use Rattle.std.proofs.lemmas.List.{length-replicate}
use Rattle.weedle_grammar.specs.written.Bound.{rule_count}
use Rattle.weedle_grammar.specs.written.Table.{row_of}
use Rattle.weedle_grammar.specs.declared.row.Parts.{Parts}
use Rattle.weedle_memo.specs.declared.tables.Word.{Word}
use Rattle.weedle_memo.specs.declared.tables.Way.{Way}
use Rattle.weedle_memo.specs.declared.tables.Way.TheVariants as way
use Rattle.weedle_grammar.specs.declared.class.Class.TheVariants.{Any}
use Rattle.weedle_memo.specs.Tables.{IsWay, IsWord}
use Rattle.weedle_memo.proofs.TableFacts.{none_laid, one_laid}
use Rattle.weedle_memo.proofs.tables.Tables.new.Goals as goal

pub loop-number-init : goal.loop-number-init
loop-number-init c = none_laid _ _ (length-replicate {A = Way Word Parts} rule_count (way.NotNext Any)) (length-replicate {A = ℕ} rule_count 0)

pub loop-number-preserved : goal.loop-number-preserved
loop-number-preserved c = one_laid c.loop-number.ways c.loop-number.words c.loop-number.number c.way_of.result c.word_of.result c.loop-number.invariant c.loop-number-test.true
    (subst (λ k. IsWay c.way_of.result (row_of k)) c.rule_of-rule.ensures c.way_of.ensures) (subst (λ k. IsWord c.word_of.result k) c.rule_of-rule.ensures c.word_of.ensures)

pub invariant_of-result : goal.invariant_of-result
invariant_of-result c = λ r l. c.loop-number.invariant.laid r (omega arith)
