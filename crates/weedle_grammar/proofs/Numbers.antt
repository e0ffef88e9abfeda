-- Numbers of rules.
use Rattle.std.proofs.Common.{◌≡◌, ℕ, zero, suc, ◌<◌, List, [], ◌∷◌, get_or, true, arith}
use Rattle.std.specs.Prelude.{nat_lt}
use borrow.Author.Tests.{ltb-true}
use Rattle.weedle_grammar.specs.Entry.{are_rules}
use Rattle.weedle_grammar.specs.written.Bound.{rule_count}
use Rattle.weedle_grammar.proofs.Leaves.{both}

-- each number of a list of rules is below the count of rules
pub low_at : (ns : List ℕ) (i : ℕ) → are_rules ns ≡ true → get_or ns i 0 < rule_count
low_at [] i h = omega arith
low_at (n ∷ ns) zero h = omega (arith, ltb-true, (both (nat_lt n rule_count) (are_rules ns) h).0)
low_at (n ∷ ns) (suc i) h = low_at ns i (both (nat_lt n rule_count) (are_rules ns) h).1
