use Rattle.std.proofs.Common.{◌∙◌}
use Rattle.weedle_refusal.proofs.BitFacts.{clear_words}
use Rattle.weedle_refusal.proofs.diagnose.marking.marks_of_tried.Goals as goal

pub mark_all-requires-clause-clear : goal.mark_all-requires-clause-clear
mark_all-requires-clause-clear c = clear_words _ c.deref_mut.result.now (c.deref_mut.ensures.value ∙ c.in_ok-marks.ensures.items_if_clones_equal (λ y h. h))
