use Rattle.std.proofs.Common.{ap, sym, ◌∙◌}
use Rattle.weedle_starts.specs.View.{row_view}
use Rattle.weedle_starts.specs.Ways.{option_of}
use Rattle.weedle_starts.proofs.StartFacts.{goes_without, it_fails}
use Rattle.weedle_starts.proofs.WayFacts.{no_option}
use Rattle.weedle_starts.proofs.source.Source.ahead.Goals as goal

pub returns-in-Opt : goal.returns-in-Opt
returns-in-Opt c =
    rw (← c.self.view_is) (goes_without c.self.inside.text.now c.args.place c.if-place-self.false c.if-byte-ge128.false c.gate.result c.if-gate-byte-eq1.false c.args.rule c.gate.ensures
    (ap option_of (sym c.row_of.ensures ∙ ap row_view c.in-Opt.is)))

pub returns-in-Many : goal.returns-in-Many
returns-in-Many c =
    rw (← c.self.view_is) (goes_without c.self.inside.text.now c.args.place c.if-place-self.false c.if-byte-ge128.false c.gate.result c.if-gate-byte-eq1.false c.args.rule c.gate.ensures
    (ap option_of (sym c.row_of.ensures ∙ ap row_view c.in-Many.is)))

pub returns-in-List : goal.returns-in-List
returns-in-List c =
    rw (← c.self.view_is) (goes_without c.self.inside.text.now c.args.place c.if-place-self.false c.if-byte-ge128.false c.gate.result c.if-gate-byte-eq1.false c.args.rule c.gate.ensures
    (ap option_of (sym c.row_of.ensures ∙ ap row_view c.in-List.is)))

pub returns-in-Tail : goal.returns-in-Tail
returns-in-Tail c =
    rw (← c.self.view_is) (goes_without c.self.inside.text.now c.args.place c.if-place-self.false c.if-byte-ge128.false c.gate.result c.if-gate-byte-eq1.false c.args.rule c.gate.ensures
    (ap option_of (sym c.row_of.ensures ∙ ap row_view c.in-Tail.is)))

pub returns-in_default : goal.returns-in_default
returns-in_default c =
    rw (← c.self.view_is) (it_fails c.self.inside.text.now c.args.place c.if-place-self.false c.if-byte-ge128.false c.gate.result c.if-gate-byte-eq1.false c.args.rule c.gate.ensures
    (ap option_of (sym c.row_of.ensures) ∙ no_option c.row_of.result c.in_default.not-Opt c.in_default.not-Many c.in_default.not-List c.in_default.not-Tail))
