-- What rules try in the empty text, computed of the rows.
use Rattle.std.proofs.Common.{◌≡◌, inl, inr, ℕ, zero, suc, ◌<◌, ◌≤◌, List, [], ◌∷◌, Bool, true, false, cond, refl, sym, subst, arith}
use Rattle.std.specs.Prelude.{◌&&◌}
use Rattle.std.specs.List.{Contains, flat_map, list_all}
use Rattle.std.proofs.lemmas.List.Elements.{Contains-append_cases}
use Rattle.weedle_grammar.specs.Rows.{Row, Bytes, OneOf, NotNext, Run, Past, Seq, First, Opt, Many, ListOf, List1, Tail, If}
use Rattle.weedle_grammar.specs.Meaning.{Yields, ReadsRow, by_row, by_not_next, by_run, by_opt, many_end}
use Rattle.weedle_grammar.specs.Trees.{Tree, Outcome, Fails, Gives}
use Rattle.weedle_grammar.specs.written.Bound.{rule_count}
use Rattle.weedle_grammar.specs.written.Table.{Reads, webidl, row_of}
use Rattle.weedle_grammar.proofs.Checked.{rank, ranked}
use Rattle.weedle_grammar.proofs.Exists.{advances, has_outcome, stays_inside}
use Rattle.weedle_grammar.proofs.Leaves.{both}
use Rattle.weedle_grammar.proofs.Takes.{takes}
use Rattle.weedle_rules.specs.Outcomes.{EndsAt, FailsAt}
use Rattle.weedle_starts.specs.Tries.{RowTries, TriesByChoice, TriesInTurn}
use Rattle.weedle_refusal.proofs.OnceFacts.{behind, first, first_cases, nothing}
use Rattle.weedle_refusal.proofs.StartFacts.{all_among, among, each_passes, none_lacks}
use Rattle.weedle_refusal.specs.Starts.{AreStarts, TriesHere, itself, by}
use Rattle.weedle_refusal.specs.Words.{has, has_word}

outcome : (r : ℕ) → (o : Outcome) × Reads [] r 0 o
outcome r = has_outcome webidl [] rank takes ranked r 0 (omega arith)

fails_by : (r : ℕ) (o : Outcome) → Reads [] r 0 o → takes r ≡ true → FailsAt [] r 0
fails_by r Fails d h = d
fails_by r (Gives ts e) d h =
    absurd (let on : 0 < e = advances webidl [] rank takes ranked d h in let within : e ≤ 0 = stays_inside webidl [] d (omega arith) in omega arith)

-- what takes a byte fails
fails : (r : ℕ) → takes r ≡ true → FailsAt [] r 0
fails r h = fails_by r (outcome r).0 (outcome r).1 h

-- the row reads nothing, and doesn't fail
abbrev pub is_quiet : Row → Bool
is_quiet (Opt y) = true
is_quiet (Many y) = takes y
is_quiet (Run c) = true
is_quiet (NotNext c) = true
is_quiet _ = false

yielded : (r : ℕ) (row : Row) (ts : List Tree) → row_of r ≡ row → ReadsRow webidl [] row 0 (Yields ts [] 0) → EndsAt [] r 0 0
yielded r row ts is d = (_, by_row (subst (λ z. ReadsRow webidl [] z 0 (Yields ts [] 0)) (sym is) d) refl)

opted_ends : (r y : ℕ) (o : Outcome) → row_of r ≡ Opt y → Reads [] y 0 o → EndsAt [] r 0 0
opted_ends r y Fails is d = yielded r (Opt y) _ is (by_opt d refl)
opted_ends r y (Gives ts e) is d =
    let within : e ≤ 0 = stays_inside webidl [] d (omega arith) in
    let at : e ≡ 0 = omega arith in
    yielded r (Opt y) _ is (by_opt (subst (λ z. Reads [] y 0 (Gives ts z)) at d) refl)

-- it ends where it begins
quiet_ends : (r : ℕ) (row : Row) → row_of r ≡ row → is_quiet row ≡ true → EndsAt [] r 0 0
quiet_ends r (Opt y) is h = opted_ends r y (outcome y).0 is (outcome y).1
quiet_ends r (Many y) is h = yielded r (Many y) [] is (many_end (fails y h) refl)
quiet_ends r (Run c) is h = yielded r (Run c) [] is (by_run refl)
quiet_ends r (NotNext c) is h = yielded r (NotNext c) [] is (by_not_next refl)
quiet_ends r (Bytes b) is h = cc
quiet_ends r (OneOf c) is h = cc
quiet_ends r (Past b) is h = cc
quiet_ends r (Seq p) is h = cc
quiet_ends r (First p) is h = cc
quiet_ends r (ListOf y t) is h = cc
quiet_ends r (List1 y t) is h = cc
quiet_ends r (Tail y t) is h = cc
quiet_ends r (If p k y) is h = cc

-- of rules in turn, those up to the first that isn't quiet
abbrev pub turn : List ℕ → List ℕ
turn [] = []
turn (x ∷ xs) = x ∷ cond (is_quiet (row_of x)) (turn xs) []

-- of a choice, those up to the first that may take nothing
abbrev pub choice : List ℕ → List ℕ
choice [] = []
choice (x ∷ xs) = x ∷ cond (takes x) (choice xs) []

-- the rules that a row tries at the place 0
abbrev pub tried_by : Row → List ℕ
tried_by (Seq parts) = turn parts
tried_by (First parts) = choice parts
tried_by (Opt y) = y ∷ []
tried_by (Many y) = y ∷ []
tried_by (ListOf y t) = y ∷ []
tried_by (List1 y t) = y ∷ []
tried_by (Tail y s) = s ∷ []
tried_by (If parts k y) = turn parts
tried_by (Bytes b) = []
tried_by (OneOf c) = []
tried_by (NotNext c) = []
tried_by (Run c) = []
tried_by (Past b) = []

behind_quiet : (s : ℕ) (rs : List ℕ) (x : ℕ) (b : Bool) → is_quiet (row_of s) ≡ b → (Contains (turn rs) x → TriesInTurn [] rs 0 x 0) → Contains (cond b (turn rs) []) x
    → (e : ℕ) × EndsAt [] s 0 e × TriesInTurn [] rs e x 0
behind_quiet s rs x true h go c = (0, quiet_ends s (row_of s) refl h, go c)
behind_quiet s rs x false h go c = absurd (nothing x c)

in_turn : (rs : List ℕ) (x : ℕ) → Contains (turn rs) x → TriesInTurn [] rs 0 x 0
in_turn [] x c = absurd (nothing x c)
in_turn (s ∷ rs) x c = elim (first_cases s _ x c) [
  | inl e ↦ inl (sym e, refl)
  | inr d ↦ inr (behind_quiet s rs x (is_quiet (row_of s)) refl (in_turn rs x) d)
]

behind_failure : (s : ℕ) (rs : List ℕ) (x : ℕ) (b : Bool) → takes s ≡ b → (Contains (choice rs) x → TriesByChoice [] rs 0 x 0) → Contains (cond b (choice rs) []) x
    → FailsAt [] s 0 × TriesByChoice [] rs 0 x 0
behind_failure s rs x true h go c = (fails s h, go c)
behind_failure s rs x false h go c = absurd (nothing x c)

by_choice : (rs : List ℕ) (x : ℕ) → Contains (choice rs) x → TriesByChoice [] rs 0 x 0
by_choice [] x c = absurd (nothing x c)
by_choice (s ∷ rs) x c = elim (first_cases s _ x c) [
  | inl e ↦ inl (sym e, refl)
  | inr d ↦ inr (behind_failure s rs x (takes s) refl (by_choice rs x) d)
]

single : (y x : ℕ) → Contains (y ∷ []) x → x ≡ y
single y x c = elim (first_cases y [] x c) [ inl e ↦ sym e | inr d ↦ absurd (nothing x d) ]

-- the row tries them
by_row_tried : (row : Row) (r x : ℕ) → Contains (tried_by row) x → RowTries [] row r 0 x 0
by_row_tried (Seq parts) r x c = in_turn parts x c
by_row_tried (First parts) r x c = by_choice parts x c
by_row_tried (Opt y) r x c = (single y x c, refl)
by_row_tried (Many y) r x c = inl (single y x c, refl)
by_row_tried (ListOf y t) r x c = inl (single y x c, refl)
by_row_tried (List1 y t) r x c = inl (single y x c, refl)
by_row_tried (Tail y s) r x c = inl (single s x c, refl)
by_row_tried (If parts k y) r x c = inl (in_turn parts x c)
by_row_tried (Bytes b) r x c = nothing x c
by_row_tried (OneOf d) r x c = nothing x c
by_row_tried (NotNext d) r x c = nothing x c
by_row_tried (Run d) r x c = nothing x c
by_row_tried (Past b) r x c = nothing x c

-- the rules that rule r tries in the empty text, by so many steps
abbrev pub tried_in_all : ℕ → ℕ → List ℕ
tried_in_all zero r = []
tried_in_all (suc n) r = r ∷ flat_map (tried_in_all n) (tried_by (row_of r))

of_some : (f : ℕ → List ℕ) (ys : List ℕ) (x : ℕ) → Contains (flat_map f ys) x → (y : ℕ) × Contains ys y × Contains (f y) x
of_some f [] x c = absurd (nothing x c)
of_some f (y ∷ ys) x c = elim (Contains-append_cases (f y) (flat_map f ys) x c) [
  | inl a ↦ (y, first y ys y refl, a)
  | inr b ↦ (let it = of_some f ys x b in (it.0, behind y ys it.0 it.1, it.2))
]

tried : (n r x : ℕ) → Contains (tried_in_all n r) x → TriesHere [] 0 r x
tried zero r x c = absurd (nothing x c)
tried (suc n) r x c = elim (first_cases r _ x c) [
  | inl e ↦ itself (sym e)
  | inr d ↦ (let it = of_some (tried_in_all n) (tried_by (row_of r)) x d in by (by_row_tried (row_of r) r it.0 it.1) (tried n it.0 x it.2))
]

-- each of the starts has a word and is tried in the empty text
abbrev pub none_is_too_many : ℕ → List ℕ → Bool
none_is_too_many r starts = list_all has_word starts && list_all (has (tried_in_all rule_count r)) starts

-- from the two tests, what the law says
pub starts_are : (r : ℕ) (starts : List ℕ) → r < rule_count → none_lacks r starts ≡ true → none_is_too_many r starts ≡ true → AreStarts r starts
starts_are r starts l lacks many = record {
  all = all_among r starts l lacks;
  each = λ x c. (
    each_passes has_word starts x (both _ _ many).0 c,
    tried rule_count r x (among (tried_in_all rule_count r) x (each_passes (has (tried_in_all rule_count r)) starts x (both _ _ many).1 c)),
  );
}
