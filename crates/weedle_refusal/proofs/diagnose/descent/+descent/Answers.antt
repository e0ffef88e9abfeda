use Rattle.std.proofs.Common.{arith, refl, sym, subst, ap, ◌∙◌, ◌≡◌, ◌-◌, Some, get_or, false}
use Rattle.std.proofs.lemmas.Result.{on_ok_weaker}
use Rattle.weedle_grammar.specs.written.Table.{webidl}
use Rattle.weedle_grammar.specs.Trees.{Gives}
use Rattle.weedle_grammar.specs.Meaning.{is_present, ReadsBy}
use Rattle.weedle_starts.specs.View.{numbers_of}
use Rattle.weedle_grammar.proofs.Takes.{takes}
use Rattle.weedle_grammar.proofs.Checked.{ranked}
use Rattle.weedle_rules.proofs.ConditionEnds.{if_step, present, note_more, note_high, note_low, chosen_here, chosen_other}
use Rattle.weedle_rules.proofs.FewReads.{if_switch}
use Rattle.weedle_rules.proofs.ListFrom.{next_part, no_part}
use Rattle.weedle_rules.proofs.RowEnds.{rule_ends, bytes_ends, one_ends, not_next_ends, run_ends, past_ends}
use Rattle.weedle_refusal.proofs.LeadFacts.{has_now, refused_noted, leaf_noted, turning, part_on, part_fails, failed_noted, parts_end, parts_noted, choosing, choice_goes_on, chosen_end, chosen_noted, none_chosen, none_noted, opt_before, opt_there, opt_none, opt_noted, list_before, list_next, list_more, list_none, list_noted, list_none_noted, list1_before, list1_next, list1_more, list1_none, list1_noted, list1_none_noted, repeating, item_before, items_end, items_ended, items_stuck, items_broken, items_on, items_further, following, separator_before, item_after, tail_end, tail_ended, tail_stuck, tail_broken, tail_back, tail_gave_back, tail_on, tail_further}
use Rattle.weedle_refusal.proofs.TestFacts.{testing_start, testing_fails, fails_noted, testing_step, absent_end, absent_noted, present_before, present_end, present_noted}
use Rattle.weedle_syntax.proofs.CountFacts.{count_passed, count_tried, count_leaf, count_parts, count_part, count_part_fails, count_parts_end, count_choices, count_choice, count_choice_fits, count_choices_end, count_optional, count_no_list, count_list, count_no_list1, count_list1, count_items, count_item, count_items_end, count_items_stuck, count_tail, count_tail_end, count_tail_stuck, count_tail_back, count_tail_on, count_conditional}
use Rattle.weedle_refusal.proofs.StepFacts.{count_no_condition, count_absent, count_present}
use Rattle.weedle_refusal.proofs.diagnose.descent.+descent.Goals as goal

-- what can't begin with the byte there
pub read-returns-then-is_refused-clause-end : goal.read-returns-then-is_refused-clause-end
read-returns-then-is_refused-clause-end t c = c.is_refused.ensures.end c.if-is_refused.true

pub read-returns-then-is_refused-clause-notes : goal.read-returns-then-is_refused-clause-notes
read-returns-then-is_refused-clause-notes t c =
    refused_noted c.args.text.now c.args.rule c.args.place c.requires.within c.requires.low (c.is_refused.ensures.end c.if-is_refused.true) (c.is_refused.ensures.here c.if-is_refused.true) (c.is_refused.ensures.leaves c.if-is_refused.true) c.note.ensures

-- rows without parts
pub read-returns-in-Bytes-clause-end : goal.read-returns-in-Bytes-clause-end
read-returns-in-Bytes-clause-end t c = rule_ends (sym c.in-Bytes.ensures) (bytes_ends webidl c.args.text.now _ c.args.place _ (c.unless.ensures.same ∙ c.end_of_bytes.ensures))

pub read-returns-in-Bytes-clause-notes : goal.read-returns-in-Bytes-clause-notes
read-returns-in-Bytes-clause-notes t c =
    leaf_noted c.args.text.now c.args.rule c.args.place (sym c.in-Bytes.ensures) refl (λ x q h. h) c.end_of_bytes.result c.requires.within c.requires.low
    (rule_ends (sym c.in-Bytes.ensures) (bytes_ends webidl c.args.text.now _ c.args.place _ c.end_of_bytes.ensures)) c.unless.ensures.notes

pub read-returns-in-OneOf-clause-end : goal.read-returns-in-OneOf-clause-end
read-returns-in-OneOf-clause-end t c = rule_ends (sym c.in-OneOf.ensures) (one_ends webidl c.args.text.now _ c.args.place _ (c.unless-in-OneOf.ensures.same ∙ c.end_of_one.ensures))

pub read-returns-in-OneOf-clause-notes : goal.read-returns-in-OneOf-clause-notes
read-returns-in-OneOf-clause-notes t c =
    leaf_noted c.args.text.now c.args.rule c.args.place (sym c.in-OneOf.ensures) refl (λ x q h. h) c.end_of_one.result c.requires.within c.requires.low
    (rule_ends (sym c.in-OneOf.ensures) (one_ends webidl c.args.text.now _ c.args.place _ c.end_of_one.ensures)) c.unless-in-OneOf.ensures.notes

pub read-returns-in-NotNext-clause-end : goal.read-returns-in-NotNext-clause-end
read-returns-in-NotNext-clause-end t c = rule_ends (sym c.in-NotNext.ensures) (not_next_ends webidl c.args.text.now _ c.args.place _ (c.unless-in-NotNext.ensures.same ∙ c.end_of_not_next.ensures))

pub read-returns-in-NotNext-clause-notes : goal.read-returns-in-NotNext-clause-notes
read-returns-in-NotNext-clause-notes t c =
    leaf_noted c.args.text.now c.args.rule c.args.place (sym c.in-NotNext.ensures) refl (λ x q h. h) c.end_of_not_next.result c.requires.within c.requires.low
    (rule_ends (sym c.in-NotNext.ensures) (not_next_ends webidl c.args.text.now _ c.args.place _ c.end_of_not_next.ensures)) c.unless-in-NotNext.ensures.notes

pub read-returns-in-Past-clause-end : goal.read-returns-in-Past-clause-end
read-returns-in-Past-clause-end t c = rule_ends (sym c.in-Past.ensures) (past_ends webidl c.args.text.now _ c.args.place _ (c.unless-in-Past.ensures.same ∙ c.end_past.ensures))

pub read-returns-in-Past-clause-notes : goal.read-returns-in-Past-clause-notes
read-returns-in-Past-clause-notes t c =
    leaf_noted c.args.text.now c.args.rule c.args.place (sym c.in-Past.ensures) refl (λ x q h. h) c.end_past.result c.requires.within c.requires.low
    (rule_ends (sym c.in-Past.ensures) (past_ends webidl c.args.text.now _ c.args.place _ c.end_past.ensures)) c.unless-in-Past.ensures.notes

pub read-returns-in-Run-clause-end : goal.read-returns-in-Run-clause-end
read-returns-in-Run-clause-end t c = rule_ends (sym c.in-Run.ensures) (run_ends webidl c.args.text.now _ c.args.place _ (ap Some c.end_of_run.ensures))

pub read-returns-in-Run-clause-notes : goal.read-returns-in-Run-clause-notes
read-returns-in-Run-clause-notes t c =
    leaf_noted c.args.text.now c.args.rule c.args.place (sym c.in-Run.ensures) refl (λ x q h. h) (Some c.end_of_run.result) c.requires.within c.requires.low
    (rule_ends (sym c.in-Run.ensures) (run_ends webidl c.args.text.now _ c.args.place _ (ap Some c.end_of_run.ensures))) refl

-- sequences
pub read_parts-loop-i-init : goal.read_parts-loop-i-init
read_parts-loop-i-init t c = (
  turning c.args.text.now c.args.rule c.args.place (numbers_of c.args.parts) c.requires.row c.requires.within,
  count_parts c.args.text.now c.args.rule c.args.left.now c.requires.row,
)

pub read_parts-returns-in-None-clause-end : goal.read_parts-returns-in-None-clause-end
read_parts-returns-in-None-clause-end t c =
    let g = rw (next_part (numbers_of c.args.parts) c.len-i-end.ensures c.loop-i-test.true c.rule.ensures.value) at c.loop-i.invariant.0 in
    part_fails c.args.text.now c.args.rule c.args.place (numbers_of c.args.parts) c.requires.row g (has_now c.in-None.is c.in_ok-end.ensures.end)

pub read_parts-returns-in-None-clause-notes : goal.read_parts-returns-in-None-clause-notes
read_parts-returns-in-None-clause-notes t c =
    let g = rw (next_part (numbers_of c.args.parts) c.len-i-end.ensures c.loop-i-test.true c.rule.ensures.value) at c.loop-i.invariant.0 in
    failed_noted c.args.text.now c.args.rule c.args.place (numbers_of c.args.parts) c.requires.row g c.in_ok-end.ensures.notes (has_now c.in-None.is c.in_ok-end.ensures.end)

pub read_parts-loop-i-preserved : goal.read_parts-loop-i-preserved
read_parts-loop-i-preserved t c =
    let g = rw (next_part (numbers_of c.args.parts) c.len-i-end.ensures c.loop-i-test.true c.rule.ensures.value) at c.loop-i.invariant.0 in
    let n = rw (next_part (numbers_of c.args.parts) c.len-i-end.ensures c.loop-i-test.true c.rule.ensures.value) at c.loop-i.invariant.1 in (
      part_on c.args.text.now c.args.rule c.args.place (numbers_of c.args.parts) c.requires.row g c.in_ok-end.ensures.notes (has_now c.in-Some.is c.in_ok-end.ensures.end),
      count_part c.args.text.now n c.in_ok-end.ensures.steps (has_now c.in-Some.is c.in_ok-end.ensures.end),
    )

pub read_parts-returns-clause-end : goal.read_parts-returns-clause-end
read_parts-returns-clause-end t c =
    let g = rw (no_part (numbers_of c.args.parts) c.len-i-end.ensures c.loop-i-test.false) at c.loop-i.invariant.0 in
    parts_end c.args.text.now c.args.rule c.args.place (numbers_of c.args.parts) c.requires.row g

pub read_parts-returns-clause-notes : goal.read_parts-returns-clause-notes
read_parts-returns-clause-notes t c =
    let g = rw (no_part (numbers_of c.args.parts) c.len-i-end.ensures c.loop-i-test.false) at c.loop-i.invariant.0 in
    parts_noted c.args.text.now c.args.rule c.args.place (numbers_of c.args.parts) c.requires.row g

-- choices
pub read_choice-loop-i-init : goal.read_choice-loop-i-init
read_choice-loop-i-init t c = (
  choosing c.args.text.now c.args.rule c.args.place (numbers_of c.args.choices) c.requires.row,
  count_choices c.args.text.now c.args.rule c.args.left.now c.requires.row,
)

pub read_choice-returns-in-Some-clause-end : goal.read_choice-returns-in-Some-clause-end
read_choice-returns-in-Some-clause-end t c =
    let g = rw (next_part (numbers_of c.args.choices) c.len-i-end.ensures c.loop-i-test.true c.rule.ensures.value) at c.loop-i.invariant.0 in
    chosen_end c.args.text.now c.args.rule c.args.place (numbers_of c.args.choices) c.requires.row g (has_now c.in-Some.is c.in_ok-end.ensures.end)

pub read_choice-returns-in-Some-clause-notes : goal.read_choice-returns-in-Some-clause-notes
read_choice-returns-in-Some-clause-notes t c =
    let g = rw (next_part (numbers_of c.args.choices) c.len-i-end.ensures c.loop-i-test.true c.rule.ensures.value) at c.loop-i.invariant.0 in
    chosen_noted c.args.text.now c.args.rule c.args.place (numbers_of c.args.choices) c.requires.row g c.in_ok-end.ensures.notes (has_now c.in-Some.is c.in_ok-end.ensures.end)

pub read_choice-loop-i-preserved : goal.read_choice-loop-i-preserved
read_choice-loop-i-preserved t c =
    let g = rw (next_part (numbers_of c.args.choices) c.len-i-end.ensures c.loop-i-test.true c.rule.ensures.value) at c.loop-i.invariant.0 in
    let n = rw (next_part (numbers_of c.args.choices) c.len-i-end.ensures c.loop-i-test.true c.rule.ensures.value) at c.loop-i.invariant.1 in (
      choice_goes_on c.args.text.now c.args.rule c.args.place (numbers_of c.args.choices) c.requires.row g c.in_ok-end.ensures.notes (has_now c.in-None.is c.in_ok-end.ensures.end),
      count_choice c.args.text.now n c.in_ok-end.ensures.steps (has_now c.in-None.is c.in_ok-end.ensures.end),
    )

pub read_choice-returns-clause-end : goal.read_choice-returns-clause-end
read_choice-returns-clause-end t c =
    let g = rw (no_part (numbers_of c.args.choices) c.len-i-end.ensures c.loop-i-test.false) at c.loop-i.invariant.0 in
    none_chosen c.args.text.now c.args.rule c.args.place (numbers_of c.args.choices) c.requires.row g

pub read_choice-returns-clause-notes : goal.read_choice-returns-clause-notes
read_choice-returns-clause-notes t c =
    let g = rw (no_part (numbers_of c.args.choices) c.len-i-end.ensures c.loop-i-test.false) at c.loop-i.invariant.0 in
    none_noted c.args.text.now c.args.rule c.args.place (numbers_of c.args.choices) c.requires.row g

-- options
pub read_optional-read-requires : goal.read_optional-read-requires
read_optional-read-requires t c =
    let b = opt_before c.args.text.now c.requires.row c.requires.within c.requires.low in
    (omega (arith, b.2, c.decreases), (b.0, b.1))

pub read_optional-returns-in-Some-clause-end : goal.read_optional-returns-in-Some-clause-end
read_optional-returns-in-Some-clause-end t c = opt_there c.args.text.now c.args.rule c.args.place c.args.item c.in-Some.end c.requires.row (has_now c.in-Some.is c.in_ok-end.ensures.end)

pub read_optional-returns-in-Some-clause-notes : goal.read_optional-returns-in-Some-clause-notes
read_optional-returns-in-Some-clause-notes t c = opt_noted c.args.text.now c.args.rule c.args.place c.args.item c.requires.row c.in_ok-end.ensures.notes

pub read_optional-returns-in-None-clause-end : goal.read_optional-returns-in-None-clause-end
read_optional-returns-in-None-clause-end t c = opt_none c.args.text.now c.args.rule c.args.place c.args.item c.requires.row (has_now c.in-None.is c.in_ok-end.ensures.end)

pub read_optional-returns-in-None-clause-notes : goal.read_optional-returns-in-None-clause-notes
read_optional-returns-in-None-clause-notes t c = opt_noted c.args.text.now c.args.rule c.args.place c.args.item c.requires.row c.in_ok-end.ensures.notes

-- lists
pub read_list-read-requires : goal.read_list-read-requires
read_list-read-requires t c =
    let b = list_before c.args.text.now c.requires.row c.requires.within c.requires.low in
    (omega (arith, b.2, c.decreases), (b.0, b.1))

pub read_list-read-requires-in-Some : goal.read_list-read-requires-in-Some
read_list-read-requires-in-Some t c =
    let b = list_next c.args.text.now c.requires.row c.requires.within c.requires.low (has_now c.in-Some.is c.in_ok-at.ensures.end) in
    (omega (arith, b.2, c.decreases), (b.0, b.1))

pub read_list-returns-in_ok-end-in-Some-clause-end : goal.read_list-returns-in_ok-end-in-Some-clause-end
read_list-returns-in_ok-end-in-Some-clause-end t c = list_more c.args.text.now c.args.rule c.args.place c.args.item c.args.tail c.requires.row (has_now c.in-Some.is c.in_ok-at.ensures.end) c.in_ok-end-in-Some.ensures.end

pub read_list-returns-in_ok-end-in-Some-clause-notes : goal.read_list-returns-in_ok-end-in-Some-clause-notes
read_list-returns-in_ok-end-in-Some-clause-notes t c = list_noted c.args.text.now c.args.rule c.args.place c.args.item c.args.tail c.requires.row c.in_ok-at.ensures.notes (has_now c.in-Some.is c.in_ok-at.ensures.end) c.in_ok-end-in-Some.ensures.notes

pub read_list-returns-in-None-clause-end : goal.read_list-returns-in-None-clause-end
read_list-returns-in-None-clause-end t c = list_none c.args.text.now c.args.rule c.args.place c.args.item c.args.tail c.requires.row (has_now c.in-None.is c.in_ok-at.ensures.end)

pub read_list-returns-in-None-clause-notes : goal.read_list-returns-in-None-clause-notes
read_list-returns-in-None-clause-notes t c = list_none_noted c.args.text.now c.args.rule c.args.place c.args.item c.args.tail c.requires.row c.in_ok-at.ensures.notes (has_now c.in-None.is c.in_ok-at.ensures.end)

pub read_list1-read-requires : goal.read_list1-read-requires
read_list1-read-requires t c =
    let b = list1_before c.args.text.now c.requires.row c.requires.within c.requires.low in
    (omega (arith, b.2, c.decreases), (b.0, b.1))

pub read_list1-read-requires-in-Some : goal.read_list1-read-requires-in-Some
read_list1-read-requires-in-Some t c =
    let b = list1_next c.args.text.now c.requires.row c.requires.within c.requires.low (has_now c.in-Some.is c.in_ok-at.ensures.end) in
    (omega (arith, b.2, c.decreases), (b.0, b.1))

pub read_list1-returns-in_ok-end-in-Some-clause-end : goal.read_list1-returns-in_ok-end-in-Some-clause-end
read_list1-returns-in_ok-end-in-Some-clause-end t c = list1_more c.args.text.now c.args.rule c.args.place c.args.item c.args.tail c.requires.row (has_now c.in-Some.is c.in_ok-at.ensures.end) c.in_ok-end-in-Some.ensures.end

pub read_list1-returns-in_ok-end-in-Some-clause-notes : goal.read_list1-returns-in_ok-end-in-Some-clause-notes
read_list1-returns-in_ok-end-in-Some-clause-notes t c = list1_noted c.args.text.now c.args.rule c.args.place c.args.item c.args.tail c.requires.row c.in_ok-at.ensures.notes (has_now c.in-Some.is c.in_ok-at.ensures.end) c.in_ok-end-in-Some.ensures.notes

pub read_list1-returns-in-None-clause-end : goal.read_list1-returns-in-None-clause-end
read_list1-returns-in-None-clause-end t c = list1_none c.args.text.now c.args.rule c.args.place c.args.item c.args.tail c.requires.row (has_now c.in-None.is c.in_ok-at.ensures.end)

pub read_list1-returns-in-None-clause-notes : goal.read_list1-returns-in-None-clause-notes
read_list1-returns-in-None-clause-notes t c = list1_none_noted c.args.text.now c.args.rule c.args.place c.args.item c.args.tail c.requires.row c.in_ok-at.ensures.notes (has_now c.in-None.is c.in_ok-at.ensures.end)

-- repetitions
pub read_items-read-requires : goal.read_items-read-requires
read_items-read-requires t c =
    let b = item_before c.args.text.now c.args.rule c.args.item c.args.place c.requires.row c.loop-found.invariant.0 c.requires.low in
    (omega (arith, b.2, c.decreases), (b.0, b.1))

pub read_items-returns-in_default-clause-end : goal.read_items-returns-in_default-clause-end
read_items-returns-in_default-clause-end t c = items_ended c.args.text.now c.args.rule c.args.item c.args.place c.requires.row c.loop-found.invariant.0 (has_now c.in_default.is c.in_ok-found.ensures.end)

pub read_items-returns-in_default-clause-notes : goal.read_items-returns-in_default-clause-notes
read_items-returns-in_default-clause-notes t c = items_end c.args.text.now c.args.rule c.args.item c.args.place c.requires.row c.loop-found.invariant.0 c.in_ok-found.ensures.notes (has_now c.in_default.is c.in_ok-found.ensures.end)

pub read_items-returns-then-end-at-clause-end : goal.read_items-returns-then-end-at-clause-end
read_items-returns-then-end-at-clause-end t c = items_broken c.args.text.now c.args.rule c.args.item c.args.place c.requires.row c.loop-found.invariant.0 (has_now c.in-Some.is c.in_ok-found.ensures.end) c.if-end-at.true

pub read_items-returns-then-end-at-clause-notes : goal.read_items-returns-then-end-at-clause-notes
read_items-returns-then-end-at-clause-notes t c = items_stuck c.args.text.now c.args.rule c.args.item c.args.place c.requires.row c.loop-found.invariant.0 c.in_ok-found.ensures.notes (has_now c.in-Some.is c.in_ok-found.ensures.end) c.if-end-at.true

pub read_items-loop-found-smaller : goal.read_items-loop-found-smaller
read_items-loop-found-smaller t c =
    let b = items_further c.args.text.now c.args.rule c.args.item c.args.place c.requires.row c.loop-found.invariant.0 (has_now c.in-Some.is c.in_ok-found.ensures.end) c.if-end-at.false in
    omega (arith, b.0, b.1)

pub read_items-loop-found-preserved : goal.read_items-loop-found-preserved
read_items-loop-found-preserved t c = (
  items_on c.args.text.now c.args.rule c.args.item c.args.place c.requires.row c.loop-found.invariant.0 c.in_ok-found.ensures.notes (has_now c.in-Some.is c.in_ok-found.ensures.end) c.if-end-at.false,
  count_item c.args.text.now c.loop-found.invariant.1 c.in_ok-found.ensures.steps (has_now c.in-Some.is c.in_ok-found.ensures.end) c.if-end-at.false,
)

-- items behind separators
pub read_tail-read-requires : goal.read_tail-read-requires
read_tail-read-requires t c =
    let b = separator_before c.args.text.now c.args.rule c.args.item c.args.separator c.args.place c.requires.row c.loop-found.invariant.0 c.requires.low in
    (omega (arith, b.2, c.decreases), (b.0, b.1))

pub read_tail-returns-in_default-clause-end : goal.read_tail-returns-in_default-clause-end
read_tail-returns-in_default-clause-end t c = tail_ended c.args.text.now c.args.rule c.args.item c.args.separator c.args.place c.requires.row c.loop-found.invariant.0 (has_now c.in_default.is c.in_ok-found.ensures.end)

pub read_tail-returns-in_default-clause-notes : goal.read_tail-returns-in_default-clause-notes
read_tail-returns-in_default-clause-notes t c = tail_end c.args.text.now c.args.rule c.args.item c.args.separator c.args.place c.requires.row c.loop-found.invariant.0 c.in_ok-found.ensures.notes (has_now c.in_default.is c.in_ok-found.ensures.end)

pub read_tail-returns-then-behind-at-clause-end : goal.read_tail-returns-then-behind-at-clause-end
read_tail-returns-then-behind-at-clause-end t c = tail_broken c.args.text.now c.args.rule c.args.item c.args.separator c.args.place c.requires.row c.loop-found.invariant.0 (has_now c.in-Some.is c.in_ok-found.ensures.end) c.if-behind-at.true

pub read_tail-returns-then-behind-at-clause-notes : goal.read_tail-returns-then-behind-at-clause-notes
read_tail-returns-then-behind-at-clause-notes t c = tail_stuck c.args.text.now c.args.rule c.args.item c.args.separator c.args.place c.requires.row c.loop-found.invariant.0 c.in_ok-found.ensures.notes (has_now c.in-Some.is c.in_ok-found.ensures.end) c.if-behind-at.true

pub read_tail-read-requires-in-loop-found : goal.read_tail-read-requires-in-loop-found
read_tail-read-requires-in-loop-found t c =
    let b = item_after c.args.text.now c.args.rule c.args.item c.args.separator c.args.place c.requires.row c.loop-found.invariant.0 c.requires.low (has_now c.in-Some.is c.in_ok-found.ensures.end) c.if-behind-at.false in
    (omega (arith, b.2, c.decreases), (b.0, b.1))

pub read_tail-returns-in_default-next-clause-end : goal.read_tail-returns-in_default-next-clause-end
read_tail-returns-in_default-next-clause-end t c = tail_gave_back c.args.text.now c.args.rule c.args.item c.args.separator c.args.place c.requires.row c.loop-found.invariant.0 (has_now c.in-Some.is c.in_ok-found.ensures.end) c.if-behind-at.false (has_now c.in_default-next.is c.in_ok-next.ensures.end)

pub read_tail-returns-in_default-next-clause-notes : goal.read_tail-returns-in_default-next-clause-notes
read_tail-returns-in_default-next-clause-notes t c =
    tail_back c.args.text.now c.args.rule c.args.item c.args.separator c.args.place c.requires.row c.loop-found.invariant.0 c.in_ok-found.ensures.notes (has_now c.in-Some.is c.in_ok-found.ensures.end) c.if-behind-at.false c.in_ok-next.ensures.notes (has_now c.in_default-next.is c.in_ok-next.ensures.end)

pub read_tail-loop-found-smaller : goal.read_tail-loop-found-smaller
read_tail-loop-found-smaller t c =
    let b = tail_further c.args.text.now c.args.rule c.args.item c.args.separator c.args.place c.requires.row c.loop-found.invariant.0 (has_now c.in-Some.is c.in_ok-found.ensures.end) c.if-behind-at.false (has_now c.in-Some-next.is c.in_ok-next.ensures.end) in
    omega (arith, b.0, b.1)

pub read_tail-loop-found-preserved : goal.read_tail-loop-found-preserved
read_tail-loop-found-preserved t c = (
  tail_on c.args.text.now c.args.rule c.args.item c.args.separator c.args.place c.requires.row c.loop-found.invariant.0 c.in_ok-found.ensures.notes (has_now c.in-Some.is c.in_ok-found.ensures.end) c.if-behind-at.false c.in_ok-next.ensures.notes (has_now c.in-Some-next.is c.in_ok-next.ensures.end),
  count_tail_on c.args.text.now c.loop-found.invariant.1 c.in_ok-found.ensures.steps (has_now c.in-Some.is c.in_ok-found.ensures.end) c.if-behind-at.false c.in_ok-next.ensures.steps (has_now c.in-Some-next.is c.in_ok-next.ensures.end),
)

-- sequences with a condition
pub read_conditional-loop-i-init : goal.read_conditional-loop-i-init
read_conditional-loop-i-init t c =
    let z : c.args.k - 0 ≡ c.args.k = omega arith in (
      rw (note_high c.args.k 0 false (omega arith), z) (testing_start c.args.text.now c.args.rule c.args.k c.args.y c.args.place (numbers_of c.args.parts) c.requires.row c.requires.within),
      count_conditional c.args.text.now c.args.left.now,
    )

pub read_conditional-returns-in-None-clause-end : goal.read_conditional-returns-in-None-clause-end
read_conditional-returns-in-None-clause-end t c =
    let g = rw (next_part (numbers_of c.args.parts) c.len-i-end.ensures c.loop-i-test.true c.rule.ensures.value) at c.loop-i.invariant.0 in
    testing_fails c.args.text.now c.args.rule c.args.k c.args.y c.args.place (numbers_of c.args.parts) c.requires.row g (has_now c.in-None.is c.in_ok-end.ensures.end)

pub read_conditional-returns-in-None-clause-notes : goal.read_conditional-returns-in-None-clause-notes
read_conditional-returns-in-None-clause-notes t c =
    let g = rw (next_part (numbers_of c.args.parts) c.len-i-end.ensures c.loop-i-test.true c.rule.ensures.value) at c.loop-i.invariant.0 in
    fails_noted c.args.text.now c.args.rule c.args.k c.args.y c.args.place (numbers_of c.args.parts) c.requires.row g c.in_ok-end.ensures.notes (has_now c.in-None.is c.in_ok-end.ensures.end)

pub read_conditional-loop-i-preserved : goal.read_conditional-loop-i-preserved
read_conditional-loop-i-preserved t c =
    let text = c.args.text.now in
    let g = rw (next_part (numbers_of c.args.parts) c.len-i-end.ensures c.loop-i-test.true c.rule.ensures.value) at c.loop-i.invariant.0 in
    let sw = (if_switch c.requires.low c.requires.row).2 in
    let n = rw (next_part (numbers_of c.args.parts) c.len-i-end.ensures c.loop-i-test.true c.rule.ensures.value) at c.loop-i.invariant.1 in (
      testing_step text c.args.rule c.args.k c.args.y c.args.place (numbers_of c.args.parts) c.requires.row g (if_step webidl text takes ranked _ _ _ _ _ _ _ _ _ _ g.along (has_now c.in-Some.is c.in_ok-end.ensures.end) (λ ts d. note_more webidl text c.args.k c.loop-i.i c.loop-i.present (is_present ts) c.choose-present.result (λ e. let at : c.rule.result ≡ get_or (numbers_of c.args.parts) c.args.k 0 = c.rule.ensures.value ∙ ap (λ z. get_or (numbers_of c.args.parts) z 0) e in chosen_here c.loop-i.i c.args.k c.in-Some.end c.loop-i.at c.loop-i.present c.choose-present.result (is_present ts) e c.choose-present.ensures (present webidl text takes ranked _ sw.x _ _ ts sw.row_is sw.shape_is sw.mark_is sw.takes_it (subst (λ s. ReadsBy webidl text s c.loop-i.at (Gives ts c.in-Some.end)) at d))) (λ n. chosen_other c.loop-i.i c.args.k _ c.loop-i.present c.choose-present.result n c.choose-present.ensures))) (has_now c.in-Some.is c.in_ok-end.ensures.end) c.in_ok-end.ensures.notes,
      count_part c.args.text.now n c.in_ok-end.ensures.steps (has_now c.in-Some.is c.in_ok-end.ensures.end),
    )

pub read_conditional-read-requires-then-present : goal.read_conditional-read-requires-then-present
read_conditional-read-requires-then-present t c =
    let e = c.loop-i-test.false in
    let q = (if_switch c.requires.low c.requires.row).1 in
    let g = rw (no_part (numbers_of c.args.parts) c.len-i-end.ensures c.loop-i-test.false, note_low c.args.k c.loop-i.i c.loop-i.present (omega (arith, c.len-i-end.ensures)), c.if-present.true) at c.loop-i.invariant.0 in
    let b = present_before c.args.text.now c.args.rule c.args.k c.args.y c.args.place (numbers_of c.args.parts) c.requires.row g c.requires.within c.requires.low in
    (omega (arith, b.2, c.decreases), (b.0, b.1))

pub read_conditional-returns-then-present-clause-end : goal.read_conditional-returns-then-present-clause-end
read_conditional-returns-then-present-clause-end t c =
    let e = c.loop-i-test.false in
    let q = (if_switch c.requires.low c.requires.row).1 in
    let g = rw (no_part (numbers_of c.args.parts) c.len-i-end.ensures c.loop-i-test.false, note_low c.args.k c.loop-i.i c.loop-i.present (omega (arith, c.len-i-end.ensures)), c.if-present.true) at c.loop-i.invariant.0 in
    present_end c.args.text.now c.args.rule c.args.k c.args.y c.args.place (numbers_of c.args.parts) c.requires.row _ g c.in_ok-end-2.ensures.end

pub read_conditional-returns-then-present-clause-notes : goal.read_conditional-returns-then-present-clause-notes
read_conditional-returns-then-present-clause-notes t c =
    let e = c.loop-i-test.false in
    let q = (if_switch c.requires.low c.requires.row).1 in
    let g = rw (no_part (numbers_of c.args.parts) c.len-i-end.ensures c.loop-i-test.false, note_low c.args.k c.loop-i.i c.loop-i.present (omega (arith, c.len-i-end.ensures)), c.if-present.true) at c.loop-i.invariant.0 in
    present_noted c.args.text.now c.args.rule c.args.k c.args.y c.args.place (numbers_of c.args.parts) c.requires.row g c.in_ok-end-2.ensures.notes

pub read_conditional-returns-clause-end : goal.read_conditional-returns-clause-end
read_conditional-returns-clause-end t c =
    let e = c.loop-i-test.false in
    let q = (if_switch c.requires.low c.requires.row).1 in
    let g = rw (no_part (numbers_of c.args.parts) c.len-i-end.ensures c.loop-i-test.false, note_low c.args.k c.loop-i.i c.loop-i.present (omega (arith, c.len-i-end.ensures)), c.if-present.false) at c.loop-i.invariant.0 in
    absent_end c.args.text.now c.args.rule c.args.k c.args.y c.args.place (numbers_of c.args.parts) c.requires.row g

pub read_conditional-returns-clause-notes : goal.read_conditional-returns-clause-notes
read_conditional-returns-clause-notes t c =
    let e = c.loop-i-test.false in
    let q = (if_switch c.requires.low c.requires.row).1 in
    let g = rw (no_part (numbers_of c.args.parts) c.len-i-end.ensures c.loop-i-test.false, note_low c.args.k c.loop-i.i c.loop-i.present (omega (arith, c.len-i-end.ensures)), c.if-present.false) at c.loop-i.invariant.0 in
    absent_noted c.args.text.now c.args.rule c.args.k c.args.y c.args.place (numbers_of c.args.parts) c.requires.row g

-- loops begin
pub read_items-loop-found-init : goal.read_items-loop-found-init
read_items-loop-found-init t c = (
  repeating c.args.text.now c.args.rule c.args.item c.args.place c.requires.row c.requires.within,
  count_items c.args.text.now c.args.rule c.args.left.now c.requires.row,
)

pub read_tail-loop-found-init : goal.read_tail-loop-found-init
read_tail-loop-found-init t c = (
  following c.args.text.now c.args.rule c.args.item c.args.separator c.args.place c.requires.row c.requires.within,
  count_tail c.args.text.now c.args.rule c.args.left.now c.requires.row,
)

-- how many rules are tried

pub read-returns-then-is_refused-clause-steps : goal.read-returns-then-is_refused-clause-steps
read-returns-then-is_refused-clause-steps t c = count_passed c.args.text.now (c.is_refused.ensures.end c.if-is_refused.true) (c.is_refused.ensures.here c.if-is_refused.true)

pub read-returns-in-Bytes-clause-steps : goal.read-returns-in-Bytes-clause-steps
read-returns-in-Bytes-clause-steps t c = count_tried c.args.text.now c.in_ok-below.ensures (count_leaf c.args.text.now c.args.rule (sym c.in-Bytes.ensures) refl)

pub read-returns-in-OneOf-clause-steps : goal.read-returns-in-OneOf-clause-steps
read-returns-in-OneOf-clause-steps t c = count_tried c.args.text.now c.in_ok-below.ensures (count_leaf c.args.text.now c.args.rule (sym c.in-OneOf.ensures) refl)

pub read-returns-in-NotNext-clause-steps : goal.read-returns-in-NotNext-clause-steps
read-returns-in-NotNext-clause-steps t c = count_tried c.args.text.now c.in_ok-below.ensures (count_leaf c.args.text.now c.args.rule (sym c.in-NotNext.ensures) refl)

pub read-returns-in-Run-clause-steps : goal.read-returns-in-Run-clause-steps
read-returns-in-Run-clause-steps t c = count_tried c.args.text.now c.in_ok-below.ensures (count_leaf c.args.text.now c.args.rule (sym c.in-Run.ensures) refl)

pub read-returns-in-Past-clause-steps : goal.read-returns-in-Past-clause-steps
read-returns-in-Past-clause-steps t c = count_tried c.args.text.now c.in_ok-below.ensures (count_leaf c.args.text.now c.args.rule (sym c.in-Past.ensures) refl)

pub read-returns-in-Seq-clause-steps : goal.read-returns-in-Seq-clause-steps
read-returns-in-Seq-clause-steps t c = on_ok_weaker c.read_parts.result (count_tried c.args.text.now c.in_ok-below.ensures) c.read_parts.ensures.steps

pub read-returns-in-First-clause-steps : goal.read-returns-in-First-clause-steps
read-returns-in-First-clause-steps t c = on_ok_weaker c.read_choice.result (count_tried c.args.text.now c.in_ok-below.ensures) c.read_choice.ensures.steps

pub read-returns-in-Opt-clause-steps : goal.read-returns-in-Opt-clause-steps
read-returns-in-Opt-clause-steps t c = on_ok_weaker c.read_optional.result (count_tried c.args.text.now c.in_ok-below.ensures) c.read_optional.ensures.steps

pub read-returns-in-Many-clause-steps : goal.read-returns-in-Many-clause-steps
read-returns-in-Many-clause-steps t c = on_ok_weaker c.read_items.result (count_tried c.args.text.now c.in_ok-below.ensures) c.read_items.ensures.steps

pub read-returns-in-List-clause-steps : goal.read-returns-in-List-clause-steps
read-returns-in-List-clause-steps t c = on_ok_weaker c.read_list.result (count_tried c.args.text.now c.in_ok-below.ensures) c.read_list.ensures.steps

pub read-returns-in-List1-clause-steps : goal.read-returns-in-List1-clause-steps
read-returns-in-List1-clause-steps t c = on_ok_weaker c.read_list1.result (count_tried c.args.text.now c.in_ok-below.ensures) c.read_list1.ensures.steps

pub read-returns-in-Tail-clause-steps : goal.read-returns-in-Tail-clause-steps
read-returns-in-Tail-clause-steps t c = on_ok_weaker c.read_tail.result (count_tried c.args.text.now c.in_ok-below.ensures) c.read_tail.ensures.steps

pub read-returns-in-If-clause-steps : goal.read-returns-in-If-clause-steps
read-returns-in-If-clause-steps t c = on_ok_weaker c.read_conditional.result (count_tried c.args.text.now c.in_ok-below.ensures) c.read_conditional.ensures.steps

pub read_parts-returns-in-None-clause-steps : goal.read_parts-returns-in-None-clause-steps
read_parts-returns-in-None-clause-steps t c =
    let n = rw (next_part (numbers_of c.args.parts) c.len-i-end.ensures c.loop-i-test.true c.rule.ensures.value) at c.loop-i.invariant.1 in
    count_part_fails c.args.text.now n c.in_ok-end.ensures.steps (has_now c.in-None.is c.in_ok-end.ensures.end)

pub read_parts-returns-clause-steps : goal.read_parts-returns-clause-steps
read_parts-returns-clause-steps t c =
    let n = rw (no_part (numbers_of c.args.parts) c.len-i-end.ensures c.loop-i-test.false) at c.loop-i.invariant.1 in
    count_parts_end c.args.text.now n

pub read_choice-returns-in-Some-clause-steps : goal.read_choice-returns-in-Some-clause-steps
read_choice-returns-in-Some-clause-steps t c =
    let n = rw (next_part (numbers_of c.args.choices) c.len-i-end.ensures c.loop-i-test.true c.rule.ensures.value) at c.loop-i.invariant.1 in
    count_choice_fits c.args.text.now n c.in_ok-end.ensures.steps (has_now c.in-Some.is c.in_ok-end.ensures.end)

pub read_choice-returns-clause-steps : goal.read_choice-returns-clause-steps
read_choice-returns-clause-steps t c =
    let n = rw (no_part (numbers_of c.args.choices) c.len-i-end.ensures c.loop-i-test.false) at c.loop-i.invariant.1 in
    count_choices_end c.args.text.now n

pub read_optional-returns-in-Some-clause-steps : goal.read_optional-returns-in-Some-clause-steps
read_optional-returns-in-Some-clause-steps t c = count_optional c.args.text.now c.args.rule c.requires.row c.in_ok-end.ensures.steps

pub read_optional-returns-in-None-clause-steps : goal.read_optional-returns-in-None-clause-steps
read_optional-returns-in-None-clause-steps t c = count_optional c.args.text.now c.args.rule c.requires.row c.in_ok-end.ensures.steps

pub read_list-returns-in-None-clause-steps : goal.read_list-returns-in-None-clause-steps
read_list-returns-in-None-clause-steps t c = count_no_list c.args.text.now c.args.rule c.requires.row c.in_ok-at.ensures.steps (has_now c.in-None.is c.in_ok-at.ensures.end)

pub read_list-returns-in_ok-end-in-Some-clause-steps : goal.read_list-returns-in_ok-end-in-Some-clause-steps
read_list-returns-in_ok-end-in-Some-clause-steps t c = count_list c.args.text.now c.args.rule c.requires.row c.in_ok-at.ensures.steps (has_now c.in-Some.is c.in_ok-at.ensures.end) c.in_ok-end-in-Some.ensures.steps

pub read_list1-returns-in-None-clause-steps : goal.read_list1-returns-in-None-clause-steps
read_list1-returns-in-None-clause-steps t c = count_no_list1 c.args.text.now c.args.rule c.requires.row c.in_ok-at.ensures.steps (has_now c.in-None.is c.in_ok-at.ensures.end)

pub read_list1-returns-in_ok-end-in-Some-clause-steps : goal.read_list1-returns-in_ok-end-in-Some-clause-steps
read_list1-returns-in_ok-end-in-Some-clause-steps t c = count_list1 c.args.text.now c.args.rule c.requires.row c.in_ok-at.ensures.steps (has_now c.in-Some.is c.in_ok-at.ensures.end) c.in_ok-end-in-Some.ensures.steps

pub read_items-returns-in_default-clause-steps : goal.read_items-returns-in_default-clause-steps
read_items-returns-in_default-clause-steps t c = count_items_end c.args.text.now c.loop-found.invariant.1 c.in_ok-found.ensures.steps (has_now c.in_default.is c.in_ok-found.ensures.end)

pub read_items-returns-then-end-at-clause-steps : goal.read_items-returns-then-end-at-clause-steps
read_items-returns-then-end-at-clause-steps t c = count_items_stuck c.args.text.now c.loop-found.invariant.1 c.in_ok-found.ensures.steps (has_now c.in-Some.is c.in_ok-found.ensures.end) c.if-end-at.true

pub read_tail-returns-in_default-clause-steps : goal.read_tail-returns-in_default-clause-steps
read_tail-returns-in_default-clause-steps t c = count_tail_end c.args.text.now c.loop-found.invariant.1 c.in_ok-found.ensures.steps (has_now c.in_default.is c.in_ok-found.ensures.end)

pub read_tail-returns-then-behind-at-clause-steps : goal.read_tail-returns-then-behind-at-clause-steps
read_tail-returns-then-behind-at-clause-steps t c = count_tail_stuck c.args.text.now c.loop-found.invariant.1 c.in_ok-found.ensures.steps (has_now c.in-Some.is c.in_ok-found.ensures.end) c.if-behind-at.true

pub read_tail-returns-in_default-next-clause-steps : goal.read_tail-returns-in_default-next-clause-steps
read_tail-returns-in_default-next-clause-steps t c = count_tail_back c.args.text.now c.loop-found.invariant.1 c.in_ok-found.ensures.steps (has_now c.in-Some.is c.in_ok-found.ensures.end) c.if-behind-at.false c.in_ok-next.ensures.steps (has_now c.in_default-next.is c.in_ok-next.ensures.end)

pub read_conditional-returns-in-None-clause-steps : goal.read_conditional-returns-in-None-clause-steps
read_conditional-returns-in-None-clause-steps t c =
    let n = rw (next_part (numbers_of c.args.parts) c.len-i-end.ensures c.loop-i-test.true c.rule.ensures.value) at c.loop-i.invariant in
    count_no_condition c.args.text.now c.args.rule c.args.k c.args.y c.args.place (numbers_of c.args.parts) c.requires.row n.0 n.1 c.in_ok-end.ensures.steps (has_now c.in-None.is c.in_ok-end.ensures.end)

pub read_conditional-returns-clause-steps : goal.read_conditional-returns-clause-steps
read_conditional-returns-clause-steps t c =
    let e = c.loop-i-test.false in
    let q = (if_switch c.requires.low c.requires.row).1 in
    let n = rw (no_part (numbers_of c.args.parts) c.len-i-end.ensures c.loop-i-test.false, note_low c.args.k c.loop-i.i c.loop-i.present (omega (arith, c.len-i-end.ensures)), c.if-present.false) at c.loop-i.invariant in
    count_absent c.args.text.now c.args.rule c.args.k c.args.y c.args.place (numbers_of c.args.parts) c.requires.row n.0 n.1

pub read_conditional-returns-then-present-clause-steps : goal.read_conditional-returns-then-present-clause-steps
read_conditional-returns-then-present-clause-steps t c =
    let e = c.loop-i-test.false in
    let q = (if_switch c.requires.low c.requires.row).1 in
    let n = rw (no_part (numbers_of c.args.parts) c.len-i-end.ensures c.loop-i-test.false, note_low c.args.k c.loop-i.i c.loop-i.present (omega (arith, c.len-i-end.ensures)), c.if-present.true) at c.loop-i.invariant in
    count_present c.args.text.now c.args.rule c.args.k c.args.y c.args.place (numbers_of c.args.parts) c.requires.row n.0 n.1 c.in_ok-end-2.ensures.steps
