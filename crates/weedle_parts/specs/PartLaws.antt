-- A body between brackets, and a type that may be null, are lawful where the body and the type are: lemmas that their laws need.
use Rattle.std.specs.Prelude.{ℕ}
use Rattle.weedle_base.specs.Generic.{pair_reading}
use Rattle.weedle_base.specs.GenericLaws.{pair_lawful, option_lawful, seen_lawful}
use Rattle.weedle_base.specs.OwnLaws.{own_lawful}
use Rattle.weedle_base.specs.Reading.{Reading, IsLawful}
use Rattle.weedle_parts.specs.Brackets.{bracket_parts, bracket_reading}
use Rattle.weedle_parts.specs.MayBeNull.{q_mark_reading, may_be_null_reading}
use Rattle.weedle_grammar.specs.written.Table.Symbols.{Q_MARK}
use Rattle.weedle_grammar.specs.Trees.{Mark}

-- the law of the four bracketings
pub bracket_lawful : {O C T B : Type 0} (left right : ℕ) (view : B → O × (T × C)) (R : Reading T) → IsLawful R → IsLawful (bracket_reading left right view R)
bracket_lawful left right view R h =
    seen_lawful view (bracket_parts left right view R) (pair_lawful _ _ (own_lawful left (λ v. Mark) ⊥) (pair_lawful R _ h (own_lawful right (λ v. Mark) ⊥)))

-- the law of `MayBeNull`
pub may_be_null_lawful : {T : Type 0} (R : Reading T) → IsLawful R → IsLawful (may_be_null_reading R)
may_be_null_lawful R h =
    seen_lawful (λ m. (m.type_, m.q_mark)) (pair_reading R q_mark_reading) (pair_lawful R q_mark_reading h (option_lawful _ (own_lawful Q_MARK (λ v. Mark) ⊥)))
