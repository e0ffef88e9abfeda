-- What is counted and cut for a hint.
use Rattle.std.proofs.Common.{◌≡◌, ◌≤◌, ℕ, suc, List, [], ◌∷◌, Bool, true, false, length, take, drop, slice_range, if◌then◌else◌, ap, subst, arith}
use Rattle.std.proofs.lemmas.Grind.{common_steps}
use Rattle.std.proofs.lemmas.List.{length-drop}
use Rattle.weedle_grammar.proofs.Exists.{stays_inside}
use Rattle.weedle_grammar.specs.Rows.{is_in, run_length}
use Rattle.weedle_grammar.specs.Trees.{Gives}
use Rattle.weedle_grammar.specs.declared.class.Class.{Class}
use Rattle.weedle_grammar.specs.written.Table.{webidl, Reads}
use Rattle.weedle_grammar.specs.written.Table.Trivia.{TRIVIA}
use Rattle.weedle_refusal.specs.Hint.{EndsMember, Goes, MayBegin}
use Rattle.weedle_rules.specs.Outcomes.{EndsAt}

one_more : (t : Bool) (n m : ℕ) → n ≤ m → (if t then suc n else 0) ≤ suc m
one_more true n m h = omega arith
one_more false n m h = omega arith

-- a run is no longer than what it is in front of
pub run_within : (c : Class) (text : List ℕ) → run_length c text ≤ length text
run_within c [] = omega arith
run_within c (b ∷ text) = one_more (is_in c b) (run_length c text) (length text) (run_within c text)

-- what is cut from the front on
pub front_is : (text part : List ℕ) (n : ℕ) → part ≡ slice_range text 0 n → part ≡ take n text
front_is text part n is = grind (arith, common_steps)

-- trivia behind which nothing is left is all of the text
pub all_trivia : {text rest : List ℕ} {place : ℕ} → Reads text TRIVIA 0 (Gives [] place) → rest ≡ drop place text → length rest ≡ 0 → EndsAt text TRIVIA 0 (length text)
all_trivia {text} {rest} {place} reads is none =
    let within : place ≤ length text = stays_inside webidl text reads (omega arith) in
    let all : place ≡ length text = omega (arith, ap length is, length-drop place text) in
    ([], subst (λ e. Reads text TRIVIA 0 (Gives [] e)) all reads)

-- what follows the trivia of a text may begin a definition
pub goes_on : {text rest : List ℕ} {place : ℕ} → Reads text TRIVIA 0 (Gives [] place) → rest ≡ drop place text → MayBegin rest → Goes text
goes_on {text} {rest} {place} reads is may = record { next = place; trivia = ([], reads); begins = subst MayBegin is may }

-- what follows a place follows one before it
pub from_before : {raw : List ℕ} {at from end : ℕ} → at ≤ from → EndsMember raw from end → EndsMember raw at end
from_before {raw} {at} {from} {end} order ends = record { after = omega (arith, order, ends.after); ends = ends.ends }
