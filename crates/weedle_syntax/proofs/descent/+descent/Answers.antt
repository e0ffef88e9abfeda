use Rattle.std.proofs.Common.{arith, length, refl, sym, subst, ap, ◌∙◌, ◌≡◌, ◌+◌, ◌-◌, [], ◌∷◌, Some, take, set, get_or, append-nil, false}
use Rattle.weedle_grammar.specs.written.Table.{webidl}
use Rattle.weedle_grammar.specs.Trees.{Gives}
use Rattle.weedle_grammar.specs.Meaning.{is_present, ReadsBy}
use Rattle.weedle_grammar.proofs.Takes.{takes}
use Rattle.weedle_grammar.proofs.Checked.{ranked}
use Rattle.weedle_rules.proofs.ConditionEnds.{if_step, present, note_more, note_high, note_low, chosen_here, chosen_other}
use Rattle.weedle_rules.proofs.FewReads.{if_switch}
use Rattle.weedle_rules.proofs.RowEnds.{rule_ends, bytes_ends, one_ends, not_next_ends, run_ends, past_ends}
use Rattle.weedle_starts.specs.View.{numbers_of}
use Rattle.weedle_rules.proofs.ListFrom.{next_part, no_part}
use Rattle.weedle_syntax.specs.Laid.{node, LaysNode, LaysParts}
use Rattle.weedle_syntax.proofs.DescentFacts.{has_now, added_length, node_laid, leaf_laid, reading_start, reading_step, reading_fails, reading_end, reading_laid, picking_start, picking_step, picked_end, picked_laid, none_picked}
use Rattle.weedle_syntax.proofs.RepeatFacts.{opt_there, opt_none, opt_not_laid, opt_before, list_more, list_none, list_laid, list_not_laid, list_before, list_next, list1_more, list1_none, list1_laid, list1_before, list1_next, again_start, again_before, again_step, again_on, again_stuck, again_end, again_laid, behind_start, behind_before, behind_item, behind_step, behind_on, behind_stuck, behind_end, behind_laid, behind_back, back_laid}
use Rattle.weedle_starts.specs.Ways.{IsAhead}
use Rattle.weedle_syntax.proofs.EmptyFacts.{failing}
use Rattle.weedle_syntax.proofs.ConditionFacts.{testing_start, testing_fails, testing_step, testing_next, testing_length, absent_end, absent_laid, present_end, present_laid}
use Rattle.weedle_syntax.proofs.CountFacts.{count_passed, count_tried, count_leaf, count_parts, count_part, count_part_fails, count_parts_end, count_choices, count_choice, count_choice_fits, count_choices_end, count_optional, count_no_list, count_list, count_no_list1, count_list1, count_items, count_item, count_items_end, count_items_stuck, count_tail, count_tail_end, count_tail_stuck, count_tail_back, count_tail_on, count_conditional, count_no_condition, count_absent, count_present}
use Rattle.weedle_syntax.proofs.descent.+descent.Goals as goal

pub read_parts-loop-i-init : goal.read_parts-loop-i-init
read_parts-loop-i-init t c = (
  reading_start c.args.text.now c.args.rule c.args.place c.args.depth (numbers_of c.args.parts)
      c.args.nodes.now.items c.requires.row c.requires.within,
  count_parts c.args.text.now c.args.rule c.args.limits.now.steps c.requires.row,
)

pub read_parts-returns-in-None-clause-end : goal.read_parts-returns-in-None-clause-end
read_parts-returns-in-None-clause-end t c =
    let g = rw (next_part (numbers_of c.args.parts) c.len-i-end.ensures c.loop-i-test.true c.rule.ensures.value) at
    c.loop-i.invariant.0 in
    reading_fails c.args.text.now c.args.rule c.args.place c.args.depth (numbers_of c.args.parts)
    c.args.nodes.now.items c.rule.result _ c.loop-i.at c.loop-i.nodes.items c.requires.row g
    (has_now c.in-None.is c.in_ok-end.ensures.end)

pub read_parts-loop-i-preserved : goal.read_parts-loop-i-preserved
read_parts-loop-i-preserved t c =
    let g = rw (next_part (numbers_of c.args.parts) c.len-i-end.ensures c.loop-i-test.true c.rule.ensures.value) at
    c.loop-i.invariant.0 in
    let n = rw (next_part (numbers_of c.args.parts) c.len-i-end.ensures c.loop-i-test.true c.rule.ensures.value) at c.loop-i.invariant.1 in (
      reading_step c.args.text.now c.args.rule c.args.place c.args.depth (numbers_of c.args.parts)
          c.args.nodes.now.items c.rule.result _ c.loop-i.at c.in-Some.end c.loop-i.nodes.items c.read.new.nodes.items g
          (has_now c.in-Some.is c.in_ok-end.ensures.end)
          (subst
          (LaysNode c.args.text.now c.rule.result c.loop-i.at c.args.depth c.loop-i.nodes.items
          c.read.new.nodes.items) c.in-Some.is c.in_ok-end.ensures.lays),
      count_part c.args.text.now n c.in_ok-end.ensures.steps (has_now c.in-Some.is c.in_ok-end.ensures.end),
    )

pub read_parts-returns-clause-end : goal.read_parts-returns-clause-end
read_parts-returns-clause-end t c =
    let g = rw (no_part (numbers_of c.args.parts) c.len-i-end.ensures c.loop-i-test.false) at c.loop-i.invariant.0 in
    reading_end c.args.text.now c.args.rule c.args.place c.args.depth (numbers_of c.args.parts) c.args.nodes.now.items
    c.loop-i.at c.loop-i.nodes.items c.requires.row g

pub read_parts-returns-clause-lays : goal.read_parts-returns-clause-lays
read_parts-returns-clause-lays t c =
    let g = rw (no_part (numbers_of c.args.parts) c.len-i-end.ensures c.loop-i-test.false) at c.loop-i.invariant.0 in
    reading_laid c.args.text.now c.args.rule c.args.place c.args.depth (numbers_of c.args.parts)
    c.args.nodes.now.items c.loop-i.at c.loop-i.nodes.items c.requires.row g

pub read_choice-loop-i-init : goal.read_choice-loop-i-init
read_choice-loop-i-init t c = (
  picking_start c.args.text.now c.args.rule c.args.place c.args.depth (numbers_of c.args.choices)
      c.args.nodes.now.items c.requires.row,
  count_choices c.args.text.now c.args.rule c.args.limits.now.steps c.requires.row,
)

pub read_choice-returns-in-Some-clause-end : goal.read_choice-returns-in-Some-clause-end
read_choice-returns-in-Some-clause-end t c =
    let g = rw (next_part (numbers_of c.args.choices) c.len-i-end.ensures c.loop-i-test.true c.rule.ensures.value) at
    c.loop-i.invariant.0 in
    picked_end c.args.text.now c.args.rule c.args.place c.args.depth (numbers_of c.args.choices)
    c.args.nodes.now.items c.rule.result c.in-Some.end _ c.loop-i.nodes.items c.requires.row g
    (has_now c.in-Some.is c.in_ok-end.ensures.end)

pub read_choice-returns-in-Some-clause-lays : goal.read_choice-returns-in-Some-clause-lays
read_choice-returns-in-Some-clause-lays t c =
    let g = rw (next_part (numbers_of c.args.choices) c.len-i-end.ensures c.loop-i-test.true c.rule.ensures.value) at
    c.loop-i.invariant.0 in
    picked_laid c.args.text.now c.args.rule c.args.place c.args.depth (numbers_of c.args.choices)
    c.args.nodes.now.items c.rule.result c.in-Some.end _ c.loop-i.nodes.items c.read.new.nodes.items
    c.requires.row g (has_now c.in-Some.is c.in_ok-end.ensures.end)
    (subst
    (LaysNode c.args.text.now c.rule.result c.args.place c.args.depth c.loop-i.nodes.items
    c.read.new.nodes.items) c.in-Some.is c.in_ok-end.ensures.lays)

pub read_choice-loop-i-preserved : goal.read_choice-loop-i-preserved
read_choice-loop-i-preserved t c =
    let g = rw (next_part (numbers_of c.args.choices) c.len-i-end.ensures c.loop-i-test.true c.rule.ensures.value) at
    c.loop-i.invariant.0 in
    let n = rw (next_part (numbers_of c.args.choices) c.len-i-end.ensures c.loop-i-test.true c.rule.ensures.value) at c.loop-i.invariant.1 in (
      picking_step c.args.text.now c.args.rule c.args.place c.args.depth (numbers_of c.args.choices)
          c.args.nodes.now.items c.rule.result _ c.loop-i.nodes.items c.read.new.nodes.items g
          (has_now c.in-None.is c.in_ok-end.ensures.end)
          (subst
          (LaysNode c.args.text.now c.rule.result c.args.place c.args.depth c.loop-i.nodes.items
          c.read.new.nodes.items) c.in-None.is c.in_ok-end.ensures.lays),
      count_choice c.args.text.now n c.in_ok-end.ensures.steps (has_now c.in-None.is c.in_ok-end.ensures.end),
    )

pub read_choice-returns-clause-end : goal.read_choice-returns-clause-end
read_choice-returns-clause-end t c =
    let g = rw (no_part (numbers_of c.args.choices) c.len-i-end.ensures c.loop-i-test.false) at c.loop-i.invariant.0 in
    none_picked c.args.text.now c.args.rule c.args.place c.args.depth (numbers_of c.args.choices)
    c.args.nodes.now.items c.loop-i.nodes.items c.requires.row g

pub read_optional-returns-in-Some-clause-end : goal.read_optional-returns-in-Some-clause-end
read_optional-returns-in-Some-clause-end t c =
    opt_there c.args.text.now c.args.rule c.args.place c.args.depth c.args.nodes.now.items c.args.item c.requires.row
    c.in-Some.end (has_now c.in-Some.is c.in_ok-end.ensures.end)

pub read_optional-returns-in-None-clause-end : goal.read_optional-returns-in-None-clause-end
read_optional-returns-in-None-clause-end t c =
    opt_none c.args.text.now c.args.rule c.args.place c.args.depth c.args.nodes.now.items c.args.item c.requires.row
    (has_now c.in-None.is c.in_ok-end.ensures.end)

pub read_optional-returns-in-None-clause-lays : goal.read_optional-returns-in-None-clause-lays
read_optional-returns-in-None-clause-lays t c =
    opt_not_laid c.args.text.now c.args.rule c.args.place c.args.depth c.args.nodes.now.items c.args.item
    c.requires.row c.read.new.nodes.items (has_now c.in-None.is c.in_ok-end.ensures.end)
    (subst
    (LaysNode c.args.text.now c.args.item c.args.place c.args.depth c.args.nodes.now.items
    c.read.new.nodes.items) c.in-None.is c.in_ok-end.ensures.lays)

pub items::read_list-returns-in_ok-end-in-Some-clause-end : goal.items::read_list-returns-in_ok-end-in-Some-clause-end
items::read_list-returns-in_ok-end-in-Some-clause-end t c =
    list_more c.args.text.now c.args.rule c.args.place c.args.depth c.args.nodes.now.items c.args.item c.args.tail
    c.requires.row c.in-Some.at _ (has_now c.in-Some.is c.in_ok-at.ensures.end) c.in_ok-end-in-Some.ensures.end

pub items::read_list-returns-in_ok-end-in-Some-clause-lays : goal.items::read_list-returns-in_ok-end-in-Some-clause-lays
items::read_list-returns-in_ok-end-in-Some-clause-lays t c =
    list_laid c.args.text.now c.args.rule c.args.place c.args.depth c.args.nodes.now.items c.args.item c.args.tail
    c.requires.row c.in-Some.at c.read.new.nodes.items c.read-in-Some.new.nodes.items _
    (has_now c.in-Some.is c.in_ok-at.ensures.end) c.in_ok-end-in-Some.ensures.end
    (subst
    (LaysNode c.args.text.now c.args.item c.args.place c.args.depth c.args.nodes.now.items
    c.read.new.nodes.items) c.in-Some.is c.in_ok-at.ensures.lays) c.in_ok-end-in-Some.ensures.lays

pub items::read_list-returns-in-None-clause-end : goal.items::read_list-returns-in-None-clause-end
items::read_list-returns-in-None-clause-end t c =
    list_none c.args.text.now c.args.rule c.args.place c.args.depth c.args.nodes.now.items c.args.item c.args.tail
    c.requires.row (has_now c.in-None.is c.in_ok-at.ensures.end)

pub items::read_list1-returns-in_ok-end-in-Some-clause-end : goal.items::read_list1-returns-in_ok-end-in-Some-clause-end
items::read_list1-returns-in_ok-end-in-Some-clause-end t c =
    list1_more c.args.text.now c.args.rule c.args.place c.args.depth c.args.nodes.now.items c.args.item c.args.tail
    c.requires.row c.in-Some.at _ (has_now c.in-Some.is c.in_ok-at.ensures.end) c.in_ok-end-in-Some.ensures.end

pub items::read_list1-returns-in_ok-end-in-Some-clause-lays : goal.items::read_list1-returns-in_ok-end-in-Some-clause-lays
items::read_list1-returns-in_ok-end-in-Some-clause-lays t c =
    list1_laid c.args.text.now c.args.rule c.args.place c.args.depth c.args.nodes.now.items c.args.item c.args.tail
    c.requires.row c.in-Some.at c.read.new.nodes.items c.read-in-Some.new.nodes.items _
    (has_now c.in-Some.is c.in_ok-at.ensures.end) c.in_ok-end-in-Some.ensures.end
    (subst
    (LaysNode c.args.text.now c.args.item c.args.place c.args.depth c.args.nodes.now.items
    c.read.new.nodes.items) c.in-Some.is c.in_ok-at.ensures.lays) c.in_ok-end-in-Some.ensures.lays

pub items::read_list1-returns-in-None-clause-end : goal.items::read_list1-returns-in-None-clause-end
items::read_list1-returns-in-None-clause-end t c =
    list1_none c.args.text.now c.args.rule c.args.place c.args.depth c.args.nodes.now.items c.args.item c.args.tail
    c.requires.row (has_now c.in-None.is c.in_ok-at.ensures.end)

pub items::read_list-returns-in-None-clause-lays : goal.items::read_list-returns-in-None-clause-lays
items::read_list-returns-in-None-clause-lays t c =
    list_not_laid c.args.text.now c.args.rule c.args.place c.args.depth c.args.nodes.now.items c.args.item c.args.tail
    c.requires.row c.read.new.nodes.items (has_now c.in-None.is c.in_ok-at.ensures.end)
    (subst
    (LaysNode c.args.text.now c.args.item c.args.place c.args.depth c.args.nodes.now.items
    c.read.new.nodes.items) c.in-None.is c.in_ok-at.ensures.lays)

pub items::read_list1-returns-in-None-clause-lays : goal.items::read_list1-returns-in-None-clause-lays
items::read_list1-returns-in-None-clause-lays t c = (
  [],
  (subst
      (LaysNode c.args.text.now c.args.item c.args.place c.args.depth c.args.nodes.now.items
      c.read.new.nodes.items) c.in-None.is c.in_ok-at.ensures.lays) ∙ sym
      (append-nil c.args.nodes.now.items),
)

pub items::read_items-loop-found-init : goal.items::read_items-loop-found-init
items::read_items-loop-found-init t c = (
  again_start c.args.text.now c.args.rule c.args.item c.args.place c.args.depth c.args.nodes.now.items
      c.requires.row c.requires.within,
  count_items c.args.text.now c.args.rule c.args.limits.now.steps c.requires.row,
)

pub items::read_items-returns-in_default-clause-end : goal.items::read_items-returns-in_default-clause-end
items::read_items-returns-in_default-clause-end t c =
    again_end c.args.text.now c.args.rule c.args.item c.args.place c.args.depth c.args.nodes.now.items c.requires.row
    c.loop-found.at c.loop-found.nodes.items c.loop-found.invariant.0
    (has_now c.in_default.is c.in_ok-found.ensures.end)

pub items::read_items-returns-in_default-clause-lays : goal.items::read_items-returns-in_default-clause-lays
items::read_items-returns-in_default-clause-lays t c =
    again_laid c.args.text.now c.args.rule c.args.item c.args.place c.args.depth c.args.nodes.now.items c.requires.row
    c.loop-found.at c.loop-found.nodes.items c.read.new.nodes.items c.loop-found.invariant.0
    (has_now c.in_default.is c.in_ok-found.ensures.end)
    (subst
    (LaysNode c.args.text.now c.args.item c.loop-found.at c.args.depth c.loop-found.nodes.items
    c.read.new.nodes.items) c.in_default.is c.in_ok-found.ensures.lays)

pub items::read_items-returns-then-end-at-clause-end : goal.items::read_items-returns-then-end-at-clause-end
items::read_items-returns-then-end-at-clause-end t c =
    again_stuck c.args.text.now c.args.rule c.args.item c.args.place c.args.depth c.args.nodes.now.items
    c.requires.row c.loop-found.at c.in-Some.end c.loop-found.nodes.items c.loop-found.invariant.0
    (has_now c.in-Some.is c.in_ok-found.ensures.end) c.if-end-at.true

pub items::read_items-loop-found-smaller : goal.items::read_items-loop-found-smaller
items::read_items-loop-found-smaller t c =
    let on = again_on c.args.text.now c.args.rule c.args.item c.args.place c.args.depth c.args.nodes.now.items
    c.requires.row c.loop-found.at c.in-Some.end c.loop-found.nodes.items c.loop-found.invariant.0
    (has_now c.in-Some.is c.in_ok-found.ensures.end) c.if-end-at.false in
    omega (arith, on.0, on.1)

pub items::read_items-loop-found-preserved : goal.items::read_items-loop-found-preserved
items::read_items-loop-found-preserved t c = (
  again_step c.args.text.now c.args.rule c.args.item c.args.place c.args.depth c.args.nodes.now.items c.requires.row
      c.loop-found.at c.in-Some.end c.loop-found.nodes.items c.read.new.nodes.items c.loop-found.invariant.0
      (has_now c.in-Some.is c.in_ok-found.ensures.end) c.if-end-at.false
      (subst
      (LaysNode c.args.text.now c.args.item c.loop-found.at c.args.depth c.loop-found.nodes.items
      c.read.new.nodes.items) c.in-Some.is c.in_ok-found.ensures.lays),
  count_item c.args.text.now c.loop-found.invariant.1 c.in_ok-found.ensures.steps (has_now c.in-Some.is c.in_ok-found.ensures.end) c.if-end-at.false,
)

pub items::read_tail-loop-found-init : goal.items::read_tail-loop-found-init
items::read_tail-loop-found-init t c = (
  behind_start c.args.text.now c.args.rule c.args.item c.args.separator c.args.place c.args.depth
      c.args.nodes.now.items c.requires.row c.requires.within,
  count_tail c.args.text.now c.args.rule c.args.limits.now.steps c.requires.row,
)

pub items::read_tail-returns-in_default-clause-end : goal.items::read_tail-returns-in_default-clause-end
items::read_tail-returns-in_default-clause-end t c =
    behind_end c.args.text.now c.args.rule c.args.item c.args.separator c.args.place c.args.depth
    c.args.nodes.now.items c.requires.row c.loop-found.at c.loop-found.nodes.items c.loop-found.invariant.0
    (has_now c.in_default.is c.in_ok-found.ensures.end)

pub items::read_tail-returns-in_default-clause-lays : goal.items::read_tail-returns-in_default-clause-lays
items::read_tail-returns-in_default-clause-lays t c =
    behind_laid c.args.text.now c.args.rule c.args.item c.args.separator c.args.place c.args.depth
    c.args.nodes.now.items c.requires.row c.loop-found.at c.loop-found.nodes.items c.read.new.nodes.items
    c.loop-found.invariant.0 (has_now c.in_default.is c.in_ok-found.ensures.end)
    (subst
    (LaysNode c.args.text.now c.args.separator c.loop-found.at c.args.depth c.loop-found.nodes.items
    c.read.new.nodes.items) c.in_default.is c.in_ok-found.ensures.lays)

pub items::read_tail-returns-then-behind-at-clause-end : goal.items::read_tail-returns-then-behind-at-clause-end
items::read_tail-returns-then-behind-at-clause-end t c =
    behind_stuck c.args.text.now c.args.rule c.args.item c.args.separator c.args.place c.args.depth
    c.args.nodes.now.items c.requires.row c.loop-found.at c.in-Some.behind c.loop-found.nodes.items
    c.loop-found.invariant.0 (has_now c.in-Some.is c.in_ok-found.ensures.end) c.if-behind-at.true

pub items::read_tail-returns-in_default-next-clause-end : goal.items::read_tail-returns-in_default-next-clause-end
items::read_tail-returns-in_default-next-clause-end t c =
    behind_back c.args.text.now c.args.rule c.args.item c.args.separator c.args.place c.args.depth
    c.args.nodes.now.items c.requires.row c.loop-found.at c.in-Some.behind c.loop-found.nodes.items
    c.loop-found.invariant.0 (has_now c.in-Some.is c.in_ok-found.ensures.end) c.if-behind-at.false
    (has_now c.in_default-next.is c.in_ok-next.ensures.end)

pub items::read_tail-returns-in_default-next-clause-lays : goal.items::read_tail-returns-in_default-next-clause-lays
items::read_tail-returns-in_default-next-clause-lays t c =
    back_laid c.args.text.now c.args.rule c.args.item c.args.separator c.args.place c.args.depth
    c.args.nodes.now.items c.requires.row c.loop-found.at c.in-Some.behind c.loop-found.nodes.items
    c.read.new.nodes.items c.read-in-loop-found.new.nodes.items c.truncate.new.self.items c.loop-found.invariant.0
    (has_now c.in-Some.is c.in_ok-found.ensures.end)
    (subst
    (LaysNode c.args.text.now c.args.separator c.loop-found.at c.args.depth c.loop-found.nodes.items
    c.read.new.nodes.items) c.in-Some.is c.in_ok-found.ensures.lays)
    (has_now c.in_default-next.is c.in_ok-next.ensures.end)
    (subst
    (LaysNode c.args.text.now c.args.item c.in-Some.behind c.args.depth c.read.new.nodes.items
    c.read-in-loop-found.new.nodes.items) c.in_default-next.is c.in_ok-next.ensures.lays)
    (c.truncate.ensures.items ∙ ap (λ z. take z c.read-in-loop-found.new.nodes.items)
    (c.len-kept.ensures ∙ c.loop-found.nodes.ok.0))

pub items::read_tail-loop-found-smaller : goal.items::read_tail-loop-found-smaller
items::read_tail-loop-found-smaller t c =
    let on = behind_on c.args.text.now c.args.rule c.args.item c.args.separator c.args.place c.args.depth
    c.args.nodes.now.items c.requires.row c.loop-found.at c.in-Some.behind c.in-Some-next.end
    c.loop-found.nodes.items c.loop-found.invariant.0 (has_now c.in-Some.is c.in_ok-found.ensures.end)
    c.if-behind-at.false (has_now c.in-Some-next.is c.in_ok-next.ensures.end) in
    omega (arith, on.0, on.1)

pub items::read_tail-loop-found-preserved : goal.items::read_tail-loop-found-preserved
items::read_tail-loop-found-preserved t c = (
  behind_step c.args.text.now c.args.rule c.args.item c.args.separator c.args.place c.args.depth
      c.args.nodes.now.items c.requires.row c.loop-found.at c.in-Some.behind c.in-Some-next.end
      c.loop-found.nodes.items c.read.new.nodes.items c.read-in-loop-found.new.nodes.items c.loop-found.invariant.0
      (has_now c.in-Some.is c.in_ok-found.ensures.end) c.if-behind-at.false
      (subst
      (LaysNode c.args.text.now c.args.separator c.loop-found.at c.args.depth c.loop-found.nodes.items
      c.read.new.nodes.items) c.in-Some.is c.in_ok-found.ensures.lays)
      (has_now c.in-Some-next.is c.in_ok-next.ensures.end)
      (subst
      (LaysNode c.args.text.now c.args.item c.in-Some.behind c.args.depth c.read.new.nodes.items
      c.read-in-loop-found.new.nodes.items) c.in-Some-next.is c.in_ok-next.ensures.lays),
  count_tail_on c.args.text.now c.loop-found.invariant.1 c.in_ok-found.ensures.steps (has_now c.in-Some.is c.in_ok-found.ensures.end) c.if-behind-at.false c.in_ok-next.ensures.steps (has_now c.in-Some-next.is c.in_ok-next.ensures.end),
)

pub items::read_items-read-requires : goal.items::read_items-read-requires
items::read_items-read-requires t c =
    let b = again_before c.args.text.now c.args.rule c.args.item c.args.place c.args.depth c.args.nodes.now.items
    c.requires.row c.loop-found.at c.loop-found.nodes.items c.requires.low c.loop-found.invariant.0 in (
      omega (arith, b.1, c.decreases),
      (
        c.loop-found.invariant.0.within,
        (
          omega (
            arith,
            c.requires.shallow,
            added_length c.args.text.now c.loop-found.invariant.0.inner
                c.args.nodes.now.items c.loop-found.nodes.items c.loop-found.invariant.0.adds,
          ),
          b.0,
        ),
      ),
    )

pub read_optional-read-requires : goal.read_optional-read-requires
read_optional-read-requires t c =
    let b = opt_before c.args.text.now c.args.rule c.args.place c.args.depth c.args.nodes.now.items c.args.item
    c.requires.row in
    (omega (arith, b, c.decreases), (c.requires.within, (c.requires.shallow, omega (arith, b, c.requires.low))))

pub items::read_list-read-requires : goal.items::read_list-read-requires
items::read_list-read-requires t c =
    let b = list_before c.args.text.now c.args.rule c.args.place c.args.depth c.args.nodes.now.items c.args.item
    c.args.tail c.requires.row in
    (omega (arith, b, c.decreases), (c.requires.within, (c.requires.shallow, omega (arith, b, c.requires.low))))

pub items::read_list-read-requires-in-Some : goal.items::read_list-read-requires-in-Some
items::read_list-read-requires-in-Some t c =
    let b = list_next c.args.text.now c.args.rule c.args.place c.args.depth c.args.nodes.now.items c.args.item
    c.args.tail c.requires.row c.in-Some.at (has_now c.in-Some.is c.in_ok-at.ensures.end) c.requires.within in (
      omega (arith, b.2, c.decreases),
      (
        b.0,
        (
          omega (
            arith,
            c.requires.shallow,
            added_length c.args.text.now
                (node c.args.item c.args.place c.in-Some.at c.args.depth ∷ []) c.args.nodes.now.items
                c.read.new.nodes.items
                (subst
                (LaysNode c.args.text.now c.args.item c.args.place c.args.depth
                c.args.nodes.now.items c.read.new.nodes.items) c.in-Some.is
                c.in_ok-at.ensures.lays),
          ),
          b.1,
        ),
      ),
    )

pub items::read_list1-read-requires : goal.items::read_list1-read-requires
items::read_list1-read-requires t c =
    let b = list1_before c.args.text.now c.args.rule c.args.place c.args.depth c.args.nodes.now.items c.args.item
    c.args.tail c.requires.row in
    (omega (arith, b, c.decreases), (c.requires.within, (c.requires.shallow, omega (arith, b, c.requires.low))))

pub items::read_list1-read-requires-in-Some : goal.items::read_list1-read-requires-in-Some
items::read_list1-read-requires-in-Some t c =
    let b = list1_next c.args.text.now c.args.rule c.args.place c.args.depth c.args.nodes.now.items c.args.item
    c.args.tail c.requires.row c.in-Some.at (has_now c.in-Some.is c.in_ok-at.ensures.end) c.requires.within in (
      omega (arith, b.2, c.decreases),
      (
        b.0,
        (
          omega (
            arith,
            c.requires.shallow,
            added_length c.args.text.now
                (node c.args.item c.args.place c.in-Some.at c.args.depth ∷ []) c.args.nodes.now.items
                c.read.new.nodes.items
                (subst
                (LaysNode c.args.text.now c.args.item c.args.place c.args.depth
                c.args.nodes.now.items c.read.new.nodes.items) c.in-Some.is
                c.in_ok-at.ensures.lays),
          ),
          b.1,
        ),
      ),
    )

pub items::read_tail-read-requires : goal.items::read_tail-read-requires
items::read_tail-read-requires t c =
    let b = behind_before c.args.text.now c.args.rule c.args.item c.args.separator c.args.place c.args.depth
    c.args.nodes.now.items c.requires.row c.loop-found.at c.loop-found.nodes.items c.requires.low
    c.loop-found.invariant.0 in (
      omega (arith, b.1, c.decreases),
      (
        c.loop-found.invariant.0.within,
        (
          omega (
            arith,
            c.requires.shallow,
            added_length c.args.text.now c.loop-found.invariant.0.inner
                c.args.nodes.now.items c.loop-found.nodes.items c.loop-found.invariant.0.adds,
          ),
          b.0,
        ),
      ),
    )

pub items::read_tail-read-requires-in-loop-found : goal.items::read_tail-read-requires-in-loop-found
items::read_tail-read-requires-in-loop-found t c =
    let b = behind_item c.args.text.now c.args.rule c.args.item c.args.separator c.args.place c.args.depth
    c.args.nodes.now.items c.requires.row c.loop-found.at c.in-Some.behind c.loop-found.nodes.items
    c.loop-found.invariant.0 (has_now c.in-Some.is c.in_ok-found.ensures.end) c.if-behind-at.false in (
      omega (arith, b.2, c.decreases),
      (
        b.0,
        (
          omega (
            arith,
            c.requires.shallow,
            added_length c.args.text.now c.loop-found.invariant.0.inner
                c.args.nodes.now.items c.loop-found.nodes.items c.loop-found.invariant.0.adds,
            added_length
                c.args.text.now (node c.args.separator c.loop-found.at c.in-Some.behind c.args.depth ∷ [])
                c.loop-found.nodes.items c.read.new.nodes.items
                (subst
                (LaysNode c.args.text.now c.args.separator c.loop-found.at c.args.depth
                c.loop-found.nodes.items c.read.new.nodes.items) c.in-Some.is
                c.in_ok-found.ensures.lays),
          ),
          b.1,
        ),
      ),
    )

pub try_rule-returns-in_ok-node-in-Some-clause-lays : goal.try_rule-returns-in_ok-node-in-Some-clause-lays
try_rule-returns-in_ok-node-in-Some-clause-lays t c =
    node_laid c.args.text.now c.args.rule c.args.place c.args.depth c.args.nodes.now.items c.lay.new.nodes.items
    c.read_row.new.nodes.items (node c.args.rule c.args.place c.args.place c.args.depth)
    c.in_ok-lay.ensures.items c.in-Some.end _
    (subst
    (LaysParts c.args.text.now c.args.rule c.args.place (c.args.depth + 1) c.lay.new.nodes.items
    c.read_row.new.nodes.items) c.in-Some.is c.in_ok-end.ensures.lays)
    (ap (λ z. set c.read_row.new.nodes.items z c.in_ok-node-in-Some.node) (c.len-at.ensures ∙ c.args.nodes.now.ok.0)
    ∙ ap (set c.read_row.new.nodes.items (length c.args.nodes.now.items)) c.in_ok-node-in-Some.ensures)

pub read_row-returns-in-Bytes-clause-end : goal.read_row-returns-in-Bytes-clause-end
read_row-returns-in-Bytes-clause-end t c =
    rule_ends (sym c.in-Bytes.ensures) (bytes_ends webidl c.args.text.now _ c.args.place _ c.end_of_bytes.ensures)

pub read_row-returns-in-OneOf-clause-end : goal.read_row-returns-in-OneOf-clause-end
read_row-returns-in-OneOf-clause-end t c =
    rule_ends (sym c.in-OneOf.ensures) (one_ends webidl c.args.text.now _ c.args.place _ c.end_of_one.ensures)

pub read_row-returns-in-NotNext-clause-end : goal.read_row-returns-in-NotNext-clause-end
read_row-returns-in-NotNext-clause-end t c =
    rule_ends (sym c.in-NotNext.ensures)
    (not_next_ends webidl c.args.text.now _ c.args.place _ c.end_of_not_next.ensures)

pub read_row-returns-in-Past-clause-end : goal.read_row-returns-in-Past-clause-end
read_row-returns-in-Past-clause-end t c =
    rule_ends (sym c.in-Past.ensures) (past_ends webidl c.args.text.now _ c.args.place _ c.end_past.ensures)

pub read_row-returns-in-Run-clause-end : goal.read_row-returns-in-Run-clause-end
read_row-returns-in-Run-clause-end t c =
    rule_ends (sym c.in-Run.ensures) (run_ends webidl c.args.text.now _ c.args.place _ (ap Some c.end_of_run.ensures))

pub read_row-returns-in-Bytes-clause-lays : goal.read_row-returns-in-Bytes-clause-lays
read_row-returns-in-Bytes-clause-lays t c =
    leaf_laid c.args.text.now c.args.rule c.args.place c.args.depth c.args.nodes.now.items _ (sym c.in-Bytes.ensures)
    (λ e. refl)

pub read_row-returns-in-OneOf-clause-lays : goal.read_row-returns-in-OneOf-clause-lays
read_row-returns-in-OneOf-clause-lays t c =
    leaf_laid c.args.text.now c.args.rule c.args.place c.args.depth c.args.nodes.now.items _ (sym c.in-OneOf.ensures)
    (λ e. refl)

pub read_row-returns-in-NotNext-clause-lays : goal.read_row-returns-in-NotNext-clause-lays
read_row-returns-in-NotNext-clause-lays t c =
    leaf_laid c.args.text.now c.args.rule c.args.place c.args.depth c.args.nodes.now.items _
    (sym c.in-NotNext.ensures) (λ e. refl)

pub read_row-returns-in-Past-clause-lays : goal.read_row-returns-in-Past-clause-lays
read_row-returns-in-Past-clause-lays t c =
    leaf_laid c.args.text.now c.args.rule c.args.place c.args.depth c.args.nodes.now.items _ (sym c.in-Past.ensures)
    (λ e. refl)

pub read_row-returns-in-Run-clause-lays : goal.read_row-returns-in-Run-clause-lays
read_row-returns-in-Run-clause-lays t c =
    leaf_laid c.args.text.now c.args.rule c.args.place c.args.depth c.args.nodes.now.items (Some c.end_of_run.result)
    (sym c.in-Run.ensures) (λ e. refl)

pub read_conditional-loop-i-init : goal.read_conditional-loop-i-init
read_conditional-loop-i-init t c =
    let z : c.args.k - 0 ≡ c.args.k = omega arith in (
      rw (note_high c.args.k 0 false (omega arith), z)
          (testing_start c.args.text.now c.args.rule c.args.k c.args.y c.args.place c.args.depth
          (numbers_of c.args.parts) c.args.nodes.now.items c.requires.row c.requires.within),
      count_conditional c.args.text.now c.args.limits.now.steps,
    )

pub read_conditional-returns-in-None-clause-end : goal.read_conditional-returns-in-None-clause-end
read_conditional-returns-in-None-clause-end t c =
    let g = rw (next_part (numbers_of c.args.parts) c.len-i-end.ensures c.loop-i-test.true c.rule.ensures.value) at
    c.loop-i.invariant.0 in
    testing_fails c.args.text.now c.args.rule c.args.k c.args.y c.args.place c.args.depth (numbers_of c.args.parts)
    c.args.nodes.now.items c.requires.row c.rule.result _ _ c.loop-i.at c.loop-i.nodes.items g
    (has_now c.in-None.is c.in_ok-end.ensures.end)

pub read_conditional-loop-i-preserved : goal.read_conditional-loop-i-preserved
read_conditional-loop-i-preserved t c =
    let g = rw (next_part (numbers_of c.args.parts) c.len-i-end.ensures c.loop-i-test.true c.rule.ensures.value) at
    c.loop-i.invariant.0 in
    let sw = (if_switch c.requires.low c.requires.row).2 in
    let n = rw (next_part (numbers_of c.args.parts) c.len-i-end.ensures c.loop-i-test.true c.rule.ensures.value) at c.loop-i.invariant.1 in (
      testing_step c.args.text.now c.args.rule c.args.k c.args.y c.args.place c.args.depth (numbers_of c.args.parts)
          c.args.nodes.now.items c.requires.row c.rule.result _ _ _ c.loop-i.at c.in-Some.end c.loop-i.nodes.items
          c.read.new.nodes.items g
          (if_step webidl c.args.text.now takes ranked _ _ _ _ _ _ _ _ _ _ g.along (has_now c.in-Some.is c.in_ok-end.ensures.end) (λ ts d. note_more webidl c.args.text.now c.args.k c.loop-i.i c.loop-i.present (is_present ts) c.choose-present.result
          (λ e.
          let at : c.rule.result ≡ get_or (numbers_of c.args.parts) c.args.k 0 = c.rule.ensures.value ∙ ap
          (λ z. get_or (numbers_of c.args.parts) z 0) e in
          chosen_here c.loop-i.i c.args.k c.in-Some.end c.loop-i.at c.loop-i.present c.choose-present.result (is_present ts)
          e c.choose-present.ensures
          (present webidl c.args.text.now takes ranked _ sw.x _ _ ts sw.row_is sw.shape_is sw.mark_is sw.takes_it
          (subst (λ s. ReadsBy webidl c.args.text.now s c.loop-i.at (Gives ts c.in-Some.end)) at d)))
          (λ n. chosen_other c.loop-i.i c.args.k _ c.loop-i.present c.choose-present.result n c.choose-present.ensures))) (has_now c.in-Some.is c.in_ok-end.ensures.end) (subst (LaysNode
          c.args.text.now c.rule.result c.loop-i.at c.args.depth c.loop-i.nodes.items
          c.read.new.nodes.items) c.in-Some.is c.in_ok-end.ensures.lays),
      count_part c.args.text.now n c.in_ok-end.ensures.steps (has_now c.in-Some.is c.in_ok-end.ensures.end),
    )

pub read_conditional-read-requires-then-present : goal.read_conditional-read-requires-then-present
read_conditional-read-requires-then-present t c =
    let e = c.loop-i-test.false in
    let q = (if_switch c.requires.low c.requires.row).1 in
    let g = rw (
      no_part (numbers_of c.args.parts) c.len-i-end.ensures c.loop-i-test.false,
      note_low c.args.k c.loop-i.i
          c.loop-i.present (omega (arith, c.len-i-end.ensures)),
      c.if-present.true,
    ) at c.loop-i.invariant.0 in
    let b = testing_next c.args.text.now c.args.rule c.args.k c.args.y c.args.place c.args.depth
    (numbers_of c.args.parts) c.args.nodes.now.items c.requires.row c.loop-i.at c.loop-i.nodes.items g in (
      omega (arith, b.2, c.decreases),
      (
        b.0,
        (
          omega (
            arith,
            c.requires.shallow,
            testing_length c.args.text.now c.args.rule c.args.k c.args.y
                c.args.place c.args.depth (numbers_of c.args.parts) c.args.nodes.now.items c.requires.row
                c.loop-i.at c.loop-i.nodes.items _ g,
          ),
          b.1,
        ),
      ),
    )

pub read_conditional-returns-then-present-clause-end : goal.read_conditional-returns-then-present-clause-end
read_conditional-returns-then-present-clause-end t c =
    let e = c.loop-i-test.false in
    let q = (if_switch c.requires.low c.requires.row).1 in
    let g = rw (
      no_part (numbers_of c.args.parts) c.len-i-end.ensures c.loop-i-test.false,
      note_low c.args.k c.loop-i.i
          c.loop-i.present (omega (arith, c.len-i-end.ensures)),
      c.if-present.true,
    ) at c.loop-i.invariant.0 in
    present_end c.args.text.now c.args.rule c.args.k c.args.y c.args.place c.args.depth (numbers_of c.args.parts)
    c.args.nodes.now.items c.requires.row c.loop-i.at c.loop-i.nodes.items _ g c.in_ok-end-2.ensures.end

pub read_conditional-returns-then-present-clause-lays : goal.read_conditional-returns-then-present-clause-lays
read_conditional-returns-then-present-clause-lays t c =
    let e = c.loop-i-test.false in
    let q = (if_switch c.requires.low c.requires.row).1 in
    let g = rw (
      no_part (numbers_of c.args.parts) c.len-i-end.ensures c.loop-i-test.false,
      note_low c.args.k c.loop-i.i
          c.loop-i.present (omega (arith, c.len-i-end.ensures)),
      c.if-present.true,
    ) at c.loop-i.invariant.0 in
    present_laid c.args.text.now c.args.rule c.args.k c.args.y c.args.place c.args.depth (numbers_of c.args.parts)
    c.args.nodes.now.items c.requires.row c.loop-i.at c.loop-i.nodes.items c.read-then-present.new.nodes.items _ g
    c.in_ok-end-2.ensures.end c.in_ok-end-2.ensures.lays

pub read_conditional-returns-clause-end : goal.read_conditional-returns-clause-end
read_conditional-returns-clause-end t c =
    let e = c.loop-i-test.false in
    let q = (if_switch c.requires.low c.requires.row).1 in
    let g = rw (
      no_part (numbers_of c.args.parts) c.len-i-end.ensures c.loop-i-test.false,
      note_low c.args.k c.loop-i.i
          c.loop-i.present (omega (arith, c.len-i-end.ensures)),
      c.if-present.false,
    ) at c.loop-i.invariant.0 in
    absent_end c.args.text.now c.args.rule c.args.k c.args.y c.args.place c.args.depth (numbers_of c.args.parts)
    c.args.nodes.now.items c.requires.row c.loop-i.at c.loop-i.nodes.items g

pub read_conditional-returns-clause-lays : goal.read_conditional-returns-clause-lays
read_conditional-returns-clause-lays t c =
    let e = c.loop-i-test.false in
    let q = (if_switch c.requires.low c.requires.row).1 in
    let g = rw (
      no_part (numbers_of c.args.parts) c.len-i-end.ensures c.loop-i-test.false,
      note_low c.args.k c.loop-i.i
          c.loop-i.present (omega (arith, c.len-i-end.ensures)),
      c.if-present.false,
    ) at c.loop-i.invariant.0 in
    absent_laid c.args.text.now c.args.rule c.args.k c.args.y c.args.place c.args.depth (numbers_of c.args.parts)
    c.args.nodes.now.items c.requires.row c.loop-i.at c.loop-i.nodes.items g

pub read_parts-returns-in-None-clause-steps : goal.read_parts-returns-in-None-clause-steps
read_parts-returns-in-None-clause-steps t c =
    let n = rw (next_part (numbers_of c.args.parts) c.len-i-end.ensures c.loop-i-test.true c.rule.ensures.value) at c.loop-i.invariant.1 in
    count_part_fails c.args.text.now n c.in_ok-end.ensures.steps (has_now c.in-None.is c.in_ok-end.ensures.end)

pub read_parts-returns-clause-steps : goal.read_parts-returns-clause-steps
read_parts-returns-clause-steps t c =
    let n = rw (no_part (numbers_of c.args.parts) c.len-i-end.ensures c.loop-i-test.false) at c.loop-i.invariant.1 in
    count_parts_end c.args.text.now n

pub read_choice-returns-in-Some-clause-steps : goal.read_choice-returns-in-Some-clause-steps
read_choice-returns-in-Some-clause-steps t c =
    let n = rw (next_part (numbers_of c.args.choices) c.len-i-end.ensures c.loop-i-test.true c.rule.ensures.value) at c.loop-i.invariant.1 in
    count_choice_fits c.args.text.now n c.in_ok-end.ensures.steps (has_now c.in-Some.is c.in_ok-end.ensures.end)

pub read_choice-returns-clause-steps : goal.read_choice-returns-clause-steps
read_choice-returns-clause-steps t c =
    let n = rw (no_part (numbers_of c.args.choices) c.len-i-end.ensures c.loop-i-test.false) at c.loop-i.invariant.1 in
    count_choices_end c.args.text.now n

pub read_optional-returns-in-Some-clause-steps : goal.read_optional-returns-in-Some-clause-steps
read_optional-returns-in-Some-clause-steps t c =
    count_optional c.args.text.now c.args.rule c.requires.row c.in_ok-end.ensures.steps

pub read_optional-returns-in-None-clause-steps : goal.read_optional-returns-in-None-clause-steps
read_optional-returns-in-None-clause-steps t c =
    count_optional c.args.text.now c.args.rule c.requires.row c.in_ok-end.ensures.steps

pub items::read_list-returns-in-None-clause-steps : goal.items::read_list-returns-in-None-clause-steps
items::read_list-returns-in-None-clause-steps t c =
    count_no_list c.args.text.now c.args.rule c.requires.row c.in_ok-at.ensures.steps (has_now c.in-None.is c.in_ok-at.ensures.end)

pub items::read_list-returns-in_ok-end-in-Some-clause-steps : goal.items::read_list-returns-in_ok-end-in-Some-clause-steps
items::read_list-returns-in_ok-end-in-Some-clause-steps t c =
    count_list c.args.text.now c.args.rule c.requires.row c.in_ok-at.ensures.steps (has_now c.in-Some.is c.in_ok-at.ensures.end) c.in_ok-end-in-Some.ensures.steps

pub items::read_list1-returns-in-None-clause-steps : goal.items::read_list1-returns-in-None-clause-steps
items::read_list1-returns-in-None-clause-steps t c =
    count_no_list1 c.args.text.now c.args.rule c.requires.row c.in_ok-at.ensures.steps (has_now c.in-None.is c.in_ok-at.ensures.end)

pub items::read_list1-returns-in_ok-end-in-Some-clause-steps : goal.items::read_list1-returns-in_ok-end-in-Some-clause-steps
items::read_list1-returns-in_ok-end-in-Some-clause-steps t c =
    count_list1 c.args.text.now c.args.rule c.requires.row c.in_ok-at.ensures.steps (has_now c.in-Some.is c.in_ok-at.ensures.end) c.in_ok-end-in-Some.ensures.steps

pub items::read_items-returns-in_default-clause-steps : goal.items::read_items-returns-in_default-clause-steps
items::read_items-returns-in_default-clause-steps t c =
    count_items_end c.args.text.now c.loop-found.invariant.1 c.in_ok-found.ensures.steps (has_now c.in_default.is c.in_ok-found.ensures.end)

pub items::read_items-returns-then-end-at-clause-steps : goal.items::read_items-returns-then-end-at-clause-steps
items::read_items-returns-then-end-at-clause-steps t c =
    count_items_stuck c.args.text.now c.loop-found.invariant.1 c.in_ok-found.ensures.steps (has_now c.in-Some.is c.in_ok-found.ensures.end) c.if-end-at.true

pub items::read_tail-returns-in_default-clause-steps : goal.items::read_tail-returns-in_default-clause-steps
items::read_tail-returns-in_default-clause-steps t c =
    count_tail_end c.args.text.now c.loop-found.invariant.1 c.in_ok-found.ensures.steps (has_now c.in_default.is c.in_ok-found.ensures.end)

pub items::read_tail-returns-then-behind-at-clause-steps : goal.items::read_tail-returns-then-behind-at-clause-steps
items::read_tail-returns-then-behind-at-clause-steps t c =
    count_tail_stuck c.args.text.now c.loop-found.invariant.1 c.in_ok-found.ensures.steps (has_now c.in-Some.is c.in_ok-found.ensures.end) c.if-behind-at.true

pub items::read_tail-returns-in_default-next-clause-steps : goal.items::read_tail-returns-in_default-next-clause-steps
items::read_tail-returns-in_default-next-clause-steps t c =
    count_tail_back c.args.text.now c.loop-found.invariant.1 c.in_ok-found.ensures.steps (has_now c.in-Some.is c.in_ok-found.ensures.end) c.if-behind-at.false c.in_ok-next.ensures.steps (has_now c.in_default-next.is c.in_ok-next.ensures.end)

pub read_conditional-returns-in-None-clause-steps : goal.read_conditional-returns-in-None-clause-steps
read_conditional-returns-in-None-clause-steps t c =
    let g = rw (next_part (numbers_of c.args.parts) c.len-i-end.ensures c.loop-i-test.true c.rule.ensures.value) at c.loop-i.invariant in
    count_no_condition c.args.text.now c.args.rule c.args.k c.args.y c.args.place c.args.depth (numbers_of c.args.parts) c.args.nodes.now.items c.requires.row c.rule.result _ c.loop-i.at c.loop-i.nodes.items g.0 g.1 c.in_ok-end.ensures.steps (has_now c.in-None.is c.in_ok-end.ensures.end)

pub read_conditional-returns-clause-steps : goal.read_conditional-returns-clause-steps
read_conditional-returns-clause-steps t c =
    let e = c.loop-i-test.false in
    let q = (if_switch c.requires.low c.requires.row).1 in
    let g = rw (
      no_part (numbers_of c.args.parts) c.len-i-end.ensures c.loop-i-test.false,
      note_low c.args.k c.loop-i.i
          c.loop-i.present (omega (arith, c.len-i-end.ensures)),
      c.if-present.false,
    ) at c.loop-i.invariant in
    count_absent c.args.text.now c.args.rule c.args.k c.args.y c.args.place c.args.depth (numbers_of c.args.parts) c.args.nodes.now.items c.requires.row c.loop-i.at c.loop-i.nodes.items g.0 g.1

pub read_conditional-returns-then-present-clause-steps : goal.read_conditional-returns-then-present-clause-steps
read_conditional-returns-then-present-clause-steps t c =
    let e = c.loop-i-test.false in
    let q = (if_switch c.requires.low c.requires.row).1 in
    let g = rw (
      no_part (numbers_of c.args.parts) c.len-i-end.ensures c.loop-i-test.false,
      note_low c.args.k c.loop-i.i
          c.loop-i.present (omega (arith, c.len-i-end.ensures)),
      c.if-present.true,
    ) at c.loop-i.invariant in
    count_present c.args.text.now c.args.rule c.args.k c.args.y c.args.place c.args.depth (numbers_of c.args.parts) c.args.nodes.now.items c.requires.row c.loop-i.at c.loop-i.nodes.items g.0 g.1 c.in_ok-end-2.ensures.steps

pub read_row-returns-in-Bytes-clause-steps : goal.read_row-returns-in-Bytes-clause-steps
read_row-returns-in-Bytes-clause-steps t c =
    count_leaf c.args.text.now c.args.rule (sym c.in-Bytes.ensures) refl

pub read_row-returns-in-OneOf-clause-steps : goal.read_row-returns-in-OneOf-clause-steps
read_row-returns-in-OneOf-clause-steps t c =
    count_leaf c.args.text.now c.args.rule (sym c.in-OneOf.ensures) refl

pub read_row-returns-in-NotNext-clause-steps : goal.read_row-returns-in-NotNext-clause-steps
read_row-returns-in-NotNext-clause-steps t c =
    count_leaf c.args.text.now c.args.rule (sym c.in-NotNext.ensures) refl

pub read_row-returns-in-Past-clause-steps : goal.read_row-returns-in-Past-clause-steps
read_row-returns-in-Past-clause-steps t c =
    count_leaf c.args.text.now c.args.rule (sym c.in-Past.ensures) refl

pub read_row-returns-in-Run-clause-steps : goal.read_row-returns-in-Run-clause-steps
read_row-returns-in-Run-clause-steps t c =
    count_leaf c.args.text.now c.args.rule (sym c.in-Run.ensures) refl

pub read-returns-in-Fails-clause-end : goal.read-returns-in-Fails-clause-end
read-returns-in-Fails-clause-end t c =
    let fails = subst (IsAhead c.args.text.now c.args.rule c.args.place) c.in-Fails.is c.ahead.ensures in
    failing c.args.text.now c.args.rule c.args.place fails.0

pub read-returns-in-Fails-clause-steps : goal.read-returns-in-Fails-clause-steps
read-returns-in-Fails-clause-steps t c =
    let fails = subst (IsAhead c.args.text.now c.args.rule c.args.place) c.in-Fails.is c.ahead.ensures in
    count_passed c.args.text.now (failing c.args.text.now c.args.rule c.args.place fails.0) fails.1

pub try_rule-returns-in_ok-node-in-Some-clause-steps : goal.try_rule-returns-in_ok-node-in-Some-clause-steps
try_rule-returns-in_ok-node-in-Some-clause-steps t c =
    let some = c.if-limits-eq0.false in
    count_tried c.args.text.now (omega (arith, some)) c.in_ok-end.ensures.steps

pub try_rule-returns-in-None-clause-steps : goal.try_rule-returns-in-None-clause-steps
try_rule-returns-in-None-clause-steps t c =
    let some = c.if-limits-eq0.false in
    count_tried c.args.text.now (omega (arith, some)) c.in_ok-end.ensures.steps
