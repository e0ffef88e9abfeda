use Rattle.std.proofs.Common.{◌≡◌, ◌+◌, ◌≤◌, ◌∙◌, length, sym, arith, None}
use Rattle.std.specs.List.{slice_get}
use Rattle.weedle_grammar.specs.written.Table.{row_of}
use Rattle.weedle_recovery.specs.Dialects.{in_front, parts_in}
use Rattle.weedle_recovery.proofs.StopFacts.{get_front, get_behind, get_none}
use Rattle.weedle_recovery.proofs.dialects.part_in.Goals as goal

pub returns-in-Some : goal.returns-in-Some
returns-in-Some c =
    sym (get_front (in_front c.args.dialect) (parts_in (row_of c.args.definition)) c.args.number c.in-Some.rule (sym c.front_part.ensures ∙ c.in-Some.is))

pub returns-in-None : goal.returns-in-None
returns-in-None c =
    let front = in_front c.args.dialect in
    let none : slice_get front c.args.number ≡ None = sym c.front_part.ensures ∙ c.in-None.is in
    let past : length front ≤ c.args.number = get_none front c.args.number none in
    let number : c.args.number ≡ length front + c.saturating_sub.result = omega (arith, c.saturating_sub.ensures, c.count_in_front.ensures, past) in
    c.part_of.ensures ∙ sym (get_behind front (parts_in (row_of c.args.definition)) c.args.number c.saturating_sub.result none number)
