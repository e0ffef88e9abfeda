use Rattle.std.proofs.Common.{sym, rules, ap, ◌∙◌, ◌<◌}
use Rattle.weedle_grammar.specs.written.Bound.{rule_count}
use Rattle.weedle_starts.specs.View.{row_view}
use Rattle.weedle_memo.specs.Tables.{option_of}
use Rattle.weedle_memo.proofs.TableFacts.{it_has, it_lacks, passed_opt, passed_many, passed_list, passed_tail, passed_none, none_of_row}
use Rattle.weedle_memo.proofs.memo_table.MemoTable.passed.Goals as goal

pub returns-then-self-number-eq1 : goal.returns-then-self-number-eq1
returns-then-self-number-eq1 c =
    let low : c.args.rule < rule_count = (search rules) in
    let same = c.number.ensures.0 in
    rw (← c.self.view_is) (it_has c.self.inside.text.now c.self.inside.words.now c.args.rule c.args.place low c.if-place-self.false c.number.result same c.if-byte-ge128.false c.if-self-number-eq1.true)

pub returns-in-Opt : goal.returns-in-Opt
returns-in-Opt c =
    let low : c.args.rule < rule_count = (search rules) in
    let same = c.number.ensures.0 in
    rw (← c.self.view_is) (passed_opt c.self.inside.text.now c.self.inside.words.now c.args.rule c.args.place low (c.self.invariant.covered c.args.rule low) (it_lacks c.self.inside.text.now c.self.inside.words.now c.args.rule c.args.place low c.if-place-self.false c.number.result same c.if-byte-ge128.false c.if-self-number-eq1.false) (search rules) (sym c.row_of.ensures ∙ ap row_view c.in-Opt.is))

pub returns-in-Many : goal.returns-in-Many
returns-in-Many c =
    let low : c.args.rule < rule_count = (search rules) in
    let same = c.number.ensures.0 in
    rw (← c.self.view_is) (passed_many c.self.inside.text.now c.self.inside.words.now c.args.rule c.args.place low (c.self.invariant.covered c.args.rule low) (it_lacks c.self.inside.text.now c.self.inside.words.now c.args.rule c.args.place low c.if-place-self.false c.number.result same c.if-byte-ge128.false c.if-self-number-eq1.false) (search rules) (sym c.row_of.ensures ∙ ap row_view c.in-Many.is))

pub returns-in-List : goal.returns-in-List
returns-in-List c =
    let low : c.args.rule < rule_count = (search rules) in
    let same = c.number.ensures.0 in
    rw (← c.self.view_is) (passed_list c.self.inside.text.now c.self.inside.words.now c.args.rule c.args.place low (c.self.invariant.covered c.args.rule low) (it_lacks c.self.inside.text.now c.self.inside.words.now c.args.rule c.args.place low c.if-place-self.false c.number.result same c.if-byte-ge128.false c.if-self-number-eq1.false) (search rules) (sym c.row_of.ensures ∙ ap row_view c.in-List.is))

pub returns-in-Tail : goal.returns-in-Tail
returns-in-Tail c =
    let low : c.args.rule < rule_count = (search rules) in
    let same = c.number.ensures.0 in
    rw (← c.self.view_is) (passed_tail c.self.inside.text.now c.self.inside.words.now c.args.rule c.args.place low (c.self.invariant.covered c.args.rule low) (it_lacks c.self.inside.text.now c.self.inside.words.now c.args.rule c.args.place low c.if-place-self.false c.number.result same c.if-byte-ge128.false c.if-self-number-eq1.false) (search rules) (sym c.row_of.ensures ∙ ap row_view c.in-Tail.is))

pub returns-in_default : goal.returns-in_default
returns-in_default c =
    let low : c.args.rule < rule_count = (search rules) in
    let same = c.number.ensures.0 in
    rw (← c.self.view_is) (passed_none c.self.inside.text.now c.self.inside.words.now c.args.rule c.args.place low (c.self.invariant.covered c.args.rule low) (it_lacks c.self.inside.text.now c.self.inside.words.now c.args.rule c.args.place low c.if-place-self.false c.number.result same c.if-byte-ge128.false c.if-self-number-eq1.false) (ap option_of (sym c.row_of.ensures) ∙ none_of_row c.row_of.result c.in_default.not-Opt c.in_default.not-Many c.in_default.not-List c.in_default.not-Tail))
