-- The grammar's table passes the tests.
use Rattle.std.proofs.Common.{◌≡◌, ℕ, Bool, true, false, refl}
use Rattle.std.specs.Prelude.{◌&&◌, ◌||◌, not}
use Rattle.weedle_grammar.specs.Entry.{Entry, entry_at}
use Rattle.weedle_grammar.specs.written.Table.{table, webidl}
use Rattle.weedle_grammar.proofs.Takes.{takes}
use Rattle.weedle_grammar.proofs.Leaves.{both}
use Rattle.weedle_grammar.proofs.Ranked.{is_ranked}
use Rattle.weedle_grammar.proofs.Boundary.{is_safe}
use Rattle.weedle_grammar.proofs.Entries.{all_pass, passes}

-- a rule is read before a byte only by rules of greater numbers
abbrev pub rank : ℕ → ℕ
rank r = r

-- the entry of rule r passes both tests
abbrev pub is_good : ℕ → Entry → Bool
is_good r e = is_ranked rank takes r e.row && is_safe e.row

-- the table passes: the tests are computed here
pub all_good_here : all_pass is_good 0 table ≡ true
all_good_here = refl

or_true : (b : Bool) → not b || true ≡ true
or_true true = refl
or_true false = refl

good : (r : ℕ) → is_good r (entry_at table r) ≡ true
good = passes is_good (λ n r. rw or_true refl) all_good_here

-- each row reads first only rules of smaller numbers
pub ranked : (r : ℕ) → is_ranked rank takes r (webidl.row r) ≡ true
ranked r = (both _ _ (good r)).0

-- each row without parts ends at a boundary
pub safe : (r : ℕ) → is_safe (webidl.row r) ≡ true
safe r = (both _ _ (good r)).1
