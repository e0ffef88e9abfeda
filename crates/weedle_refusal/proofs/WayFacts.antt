-- Ways one after another.
use Rattle.std.proofs.Common.{◌≡◌, inl, inr, ℕ, ◌+◌, ◌<◌, List, length, get_or, set, sym, subst, arith, get_or-set_other, get_or-set_same}
use Rattle.std.proofs.lemmas.Bool.{cases_lt}
use Rattle.weedle_grammar.specs.written.Table.{row_of}
use Rattle.weedle_grammar.specs.declared.row.Parts.{Parts}
use Rattle.weedle_refusal.specs.declared.diagnose.ways.Way.{Way}
use Rattle.weedle_refusal.specs.Ways.{IsWay, AreWays}

-- a way that is put at the place of the next rule
pub one_way_more : (ways : List (Way Parts)) (n : ℕ) (way : Way Parts) → n < length ways → IsWay way (row_of n) → AreWays ways n → AreWays (set ways n way) (n + 1)
one_way_more ways n way within is were r other l = elim (cases_lt r n) [
  | inl k ↦ subst (λ w. IsWay w (row_of r)) (sym (get_or-set_other ways n r way other (omega arith))) (were r other k)
  | inr k ↦ (
      let same : n ≡ r = omega arith in
      subst (λ z. IsWay (get_or (set ways n way) z other) (row_of z)) same (subst (λ w. IsWay w (row_of n)) (sym (get_or-set_same ways n way other within)) is))
]
