use Rattle.std.proofs.Common.{sym}
use Rattle.weedle_nesting.specs.Nesting.{opens_attributes, closes_attributes, opens_bracket, closes_bracket}
use Rattle.weedle_nesting.proofs.NestingFacts.{seen_past, seen_end, attributes_of_brackets, brackets_of_brackets}
use Rattle.weedle_nesting.proofs.look.look_over.Goals as goal

-- a mark more is seen
pub marks-preserved : goal.marks-preserved
marks-preserved c =
    let mark = c.in-Some.mark in
    let found = sym c.in-Some.ensures.first in
    let behind = c.past_mark-rest.ensures in
    let counted = c.count.ensures in (
      seen_past opens_attributes closes_attributes attributes_of_brackets _ _ _ mark _ _ _ _
          c.marks.invariant.0 found c.in-Some.ensures.shorter behind.bare behind.shorter counted.attributes counted.most_attributes,
      seen_past opens_bracket closes_bracket brackets_of_brackets _ _ _ mark _ _ _ _
          c.marks.invariant.1 found c.in-Some.ensures.shorter behind.bare behind.shorter counted.brackets counted.most_brackets,
    )

-- no mark is left
pub returns-clause-attributes : goal.returns-clause-attributes
returns-clause-attributes c =
    seen_end opens_attributes closes_attributes attributes_of_brackets _ _ _ _ c.marks.invariant.0 (sym c.in_default.ensures.first)

pub returns-clause-brackets : goal.returns-clause-brackets
returns-clause-brackets c =
    seen_end opens_bracket closes_bracket brackets_of_brackets _ _ _ _ c.marks.invariant.1 (sym c.in_default.ensures.first)
