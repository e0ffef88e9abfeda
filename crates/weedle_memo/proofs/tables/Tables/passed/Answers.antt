use Rattle.std.proofs.Common.{subst, sym, rules, ◌<◌}
use Rattle.weedle_grammar.specs.written.Table.{row_of}
use Rattle.weedle_grammar.specs.written.Bound.{rule_count}
use Rattle.weedle_memo.specs.Tables.{IsWay}
use Rattle.weedle_memo.proofs.TableFacts.{it_has, it_lacks, passed_opt, passed_many, passed_list, passed_tail, passed_none, no_option}
use Rattle.weedle_memo.proofs.tables.Tables.passed.Goals as goal

pub returns-then-self-number-eq1 : goal.returns-then-self-number-eq1
returns-then-self-number-eq1 c =
    let low : c.args.rule < rule_count = (search rules) in
    let same = c.number.ensures.0 in
    rw (← c.self.view_is) (it_has c.args.text.now c.self.inside.words c.args.rule c.args.place low c.if-place-text.false c.number.result same c.if-byte-ge128.false c.if-self-number-eq1.true)

pub returns-in-Opt : goal.returns-in-Opt
returns-in-Opt c =
    let low : c.args.rule < rule_count = (search rules) in
    let same = c.number.ensures.0 in
    let w = subst (λ z. IsWay z (row_of c.args.rule)) c.in-Opt.is c.way.ensures in
    rw (← c.self.view_is) (passed_opt c.args.text.now c.self.inside.words c.args.rule c.args.place low (c.self.invariant c.args.rule low).1 (it_lacks c.args.text.now c.self.inside.words c.args.rule c.args.place low c.if-place-text.false c.number.result same c.if-byte-ge128.false c.if-self-number-eq1.false) w.0 w.1)

pub returns-in-Many : goal.returns-in-Many
returns-in-Many c =
    let low : c.args.rule < rule_count = (search rules) in
    let same = c.number.ensures.0 in
    let w = subst (λ z. IsWay z (row_of c.args.rule)) c.in-Many.is c.way.ensures in
    rw (← c.self.view_is) (passed_many c.args.text.now c.self.inside.words c.args.rule c.args.place low (c.self.invariant c.args.rule low).1 (it_lacks c.args.text.now c.self.inside.words c.args.rule c.args.place low c.if-place-text.false c.number.result same c.if-byte-ge128.false c.if-self-number-eq1.false) w.0 w.1)

pub returns-in-List : goal.returns-in-List
returns-in-List c =
    let low : c.args.rule < rule_count = (search rules) in
    let same = c.number.ensures.0 in
    let w = subst (λ z. IsWay z (row_of c.args.rule)) c.in-List.is c.way.ensures in
    rw (← c.self.view_is) (passed_list c.args.text.now c.self.inside.words c.args.rule c.args.place low (c.self.invariant c.args.rule low).1 (it_lacks c.args.text.now c.self.inside.words c.args.rule c.args.place low c.if-place-text.false c.number.result same c.if-byte-ge128.false c.if-self-number-eq1.false) w.0 w.2)

pub returns-in-Tail : goal.returns-in-Tail
returns-in-Tail c =
    let low : c.args.rule < rule_count = (search rules) in
    let same = c.number.ensures.0 in
    let w = subst (λ z. IsWay z (row_of c.args.rule)) c.in-Tail.is c.way.ensures in
    rw (← c.self.view_is) (passed_tail c.args.text.now c.self.inside.words c.args.rule c.args.place low (c.self.invariant c.args.rule low).1 (it_lacks c.args.text.now c.self.inside.words c.args.rule c.args.place low c.if-place-text.false c.number.result same c.if-byte-ge128.false c.if-self-number-eq1.false) w.1 w.2)

pub returns-in_default : goal.returns-in_default
returns-in_default c =
    let low : c.args.rule < rule_count = (search rules) in
    let same = c.number.ensures.0 in
    (passed_none c.args.text.now c.self.inside.words c.args.rule c.args.place low (c.self.invariant c.args.rule low).1 (it_lacks c.args.text.now c.self.inside.words c.args.rule c.args.place low c.if-place-text.false c.number.result same c.if-byte-ge128.false c.if-self-number-eq1.false) (no_option c.way.result (row_of c.args.rule) c.way.ensures c.in_default.not-Opt c.in_default.not-Many c.in_default.not-List c.in_default.not-Tail))
