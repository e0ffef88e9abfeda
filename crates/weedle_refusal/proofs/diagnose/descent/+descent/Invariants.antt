use Rattle.std.proofs.Common.{◌+◌, ◌-◌, ◌*◌, length, drop}
use Rattle.weedle_grammar.specs.Rows.{Many, Tail}
use Rattle.weedle_starts.specs.View.{numbers_of}
use Rattle.weedle_grammar.specs.written.Table.{row_of}
use Rattle.weedle_rules.specs.Cells.{turn_number}
use Rattle.weedle_rules.proofs.ConditionEnds.{note_at}
use Rattle.weedle_syntax.specs.Steps.{RowSteps, TurnSteps, ChoiceSteps}
use Rattle.weedle_syntax.proofs.CountFacts.{Counting}
use Rattle.weedle_refusal.proofs.LeadFacts.{Turning, Choosing, Repeating, Following}
use Rattle.weedle_refusal.proofs.TestFacts.{Testing}
use Rattle.weedle_refusal.proofs.diagnose.descent.+descent.Given as goal

abbrev pub decreases-read : goal.decreases-read
decreases-read l = 2 * turn_number (length l.text.now) l.rule l.place + 1

abbrev pub decreases-read_parts : goal.decreases-read_parts
decreases-read_parts l = 2 * turn_number (length l.text.now) l.rule l.place + 0

abbrev pub decreases-read_choice : goal.decreases-read_choice
decreases-read_choice l = 2 * turn_number (length l.text.now) l.rule l.place + 0

abbrev pub decreases-read_optional : goal.decreases-read_optional
decreases-read_optional l = 2 * turn_number (length l.text.now) l.rule l.place + 0

abbrev pub decreases-read_items : goal.decreases-read_items
decreases-read_items l = 2 * turn_number (length l.text.now) l.rule l.place + 0

abbrev pub decreases-read_list : goal.decreases-read_list
decreases-read_list l = 2 * turn_number (length l.text.now) l.rule l.place + 0

abbrev pub decreases-read_list1 : goal.decreases-read_list1
decreases-read_list1 l = 2 * turn_number (length l.text.now) l.rule l.place + 0

abbrev pub decreases-read_tail : goal.decreases-read_tail
decreases-read_tail l = 2 * turn_number (length l.text.now) l.rule l.place + 0

abbrev pub decreases-read_conditional : goal.decreases-read_conditional
decreases-read_conditional l = 2 * turn_number (length l.text.now) l.rule l.place + 0

abbrev pub invariant-read_parts-loop-i : goal.invariant-read_parts-loop-i
invariant-read_parts-loop-i l = Turning l.text l.fn.rule l.fn.place (numbers_of l.fn.parts) l.fn.furthest (drop l.i (numbers_of l.fn.parts)) l.at l.furthest
    × Counting (TurnSteps l.text (drop l.i (numbers_of l.fn.parts)) l.at) (RowSteps l.text (row_of l.fn.rule) l.fn.place) l.fn.left l.left

abbrev pub invariant-read_choice-loop-i : goal.invariant-read_choice-loop-i
invariant-read_choice-loop-i l = Choosing l.text l.fn.rule l.fn.place (numbers_of l.fn.choices) l.fn.furthest (drop l.i (numbers_of l.fn.choices)) l.furthest
    × Counting (ChoiceSteps l.text (drop l.i (numbers_of l.fn.choices)) l.fn.place) (RowSteps l.text (row_of l.fn.rule) l.fn.place) l.fn.left l.left

abbrev pub invariant-read_items-loop-found : goal.invariant-read_items-loop-found
invariant-read_items-loop-found l = Repeating l.text l.fn.rule l.fn.item l.fn.place l.fn.furthest l.at l.furthest
    × Counting (RowSteps l.text (Many l.fn.item) l.at) (RowSteps l.text (row_of l.fn.rule) l.fn.place) l.fn.left l.left

abbrev pub decreases-read_items-loop-found : goal.decreases-read_items-loop-found
decreases-read_items-loop-found l = length l.text - l.at

abbrev pub invariant-read_tail-loop-found : goal.invariant-read_tail-loop-found
invariant-read_tail-loop-found l = Following l.text l.fn.rule l.fn.item l.fn.separator l.fn.place l.fn.furthest l.at l.furthest
    × Counting (RowSteps l.text (Tail l.fn.item l.fn.separator) l.at) (RowSteps l.text (row_of l.fn.rule) l.fn.place) l.fn.left l.left

abbrev pub decreases-read_tail-loop-found : goal.decreases-read_tail-loop-found
decreases-read_tail-loop-found l = length l.text - l.at

abbrev pub invariant-read_conditional-loop-i : goal.invariant-read_conditional-loop-i
invariant-read_conditional-loop-i l = Testing l.text l.fn.rule l.fn.k l.fn.y l.fn.place (numbers_of l.fn.parts) l.fn.furthest (drop l.i (numbers_of l.fn.parts)) (note_at l.fn.k l.i l.present) l.at l.furthest
    × Counting (TurnSteps l.text (drop l.i (numbers_of l.fn.parts)) l.at) (TurnSteps l.text (numbers_of l.fn.parts) l.fn.place) l.fn.left l.left
