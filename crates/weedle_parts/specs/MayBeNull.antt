-- A type, and a mark that may follow it.
use Rattle.std.specs.Prelude.{Option}
use Rattle.weedle_base.specs.Generic.{pair_reading, option_reading, seen_reading}
use Rattle.weedle_base.specs.Own.{own}
use Rattle.weedle_base.specs.Reading.{Reading}
use Rattle.weedle_base.specs.declared.term.written.symbols.QMark.{QMark}
use Rattle.weedle_parts.specs.declared.types.may_be_null.MayBeNull.{MayBeNull}
use Rattle.weedle_grammar.specs.written.Table.Symbols.{Q_MARK}
use Rattle.weedle_grammar.specs.Trees.{Mark}

-- a question mark, or nothing
abbrev pub q_mark_reading : Reading (Option QMark)
q_mark_reading = option_reading (own Q_MARK (λ v. Mark) ⊥)

module _ {T : Type 0} (R : Reading T) where
  -- a type, then the mark
  abbrev pub may_be_null_reading : Reading (MayBeNull T)
  may_be_null_reading = seen_reading (λ m. (m.type_, m.q_mark)) (pair_reading R q_mark_reading)
