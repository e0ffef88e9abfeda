-- By which rules what a rule reads begins, computed of the rows.
use Rattle.std.proofs.Common.{◌≡◌, inl, inr, ℕ, zero, suc, ◌<◌, ◌≤◌, List, [], ◌∷◌, ◌++◌, Bool, true, false, cond, eqb, refl, sym, subst, arith, eqb-true}
use Rattle.std.specs.Prelude.{◌||◌, not, nat_lt}
use Rattle.std.specs.List.{Contains, flat_map, list_all}
use Rattle.std.proofs.lemmas.List.Elements.{Contains-append_left, Contains-append_right}
use Rattle.weedle_grammar.specs.Rows.{Row, Bytes, OneOf, NotNext, Run, Past, Seq, First, Opt, Many, ListOf, List1, Tail, If}
use Rattle.weedle_grammar.specs.Entry.{Entry}
use Rattle.weedle_grammar.specs.Meaning.{last_end}
use Rattle.weedle_grammar.specs.written.Table.{webidl, row_of, table}
use Rattle.weedle_grammar.proofs.Checked.{rank, ranked}
use Rattle.weedle_grammar.proofs.Entries.{all_pass, passes}
use Rattle.weedle_grammar.proofs.Exists.{grows, advances, seq_advances}
use Rattle.weedle_grammar.proofs.Leaves.{both, one_of}
use Rattle.weedle_grammar.proofs.Ranked.{some_takes}
use Rattle.weedle_grammar.proofs.Takes.{takes}
use Rattle.weedle_rules.specs.Outcomes.{EndsAt}
use Rattle.weedle_starts.specs.Tries.{EndsWith, RowTries, TriesByChoice, TriesInTurn}
use Rattle.weedle_refusal.proofs.OnceFacts.{behind, first, first_cases, nothing}
use Rattle.weedle_refusal.specs.Starts.{TriesHere, itself, by}
use Rattle.weedle_refusal.specs.Words.{has, has_word}
use Rattle.weedle_grammar.specs.written.Bound.{rule_count}
use borrow.Author.Tests.{ltb-true}

-- of rules in turn, those up to the first that takes a byte
abbrev pub leading : List ℕ → List ℕ
leading [] = []
leading (x ∷ xs) = x ∷ cond (takes x) [] (leading xs)

-- the rules that the row may try at its own place
abbrev pub parts_here : Row → List ℕ
parts_here (Seq parts) = leading parts
parts_here (First parts) = parts
parts_here (Opt y) = y ∷ []
parts_here (Many y) = y ∷ []
parts_here (ListOf y t) = y ∷ cond (takes y) [] (t ∷ [])
parts_here (List1 y t) = y ∷ cond (takes y) [] (t ∷ [])
parts_here (Tail y s) = s ∷ []
parts_here (If parts k y) = leading parts ++ cond (some_takes rank takes parts) [] (y ∷ [])
parts_here (Bytes b) = []
parts_here (OneOf c) = []
parts_here (NotNext c) = []
parts_here (Run c) = []
parts_here (Past b) = []

head : (x y : ℕ) (xs : List ℕ) → x ≡ y → Contains (y ∷ xs) x
head x y xs e = first y xs x (sym e)

module _ (text : List ℕ) where
  in_turn_le : (rs : List ℕ) (e x q : ℕ) → TriesInTurn text rs e x q → e ≤ q
  in_turn_le [] e x q t = absurd t
  in_turn_le (s ∷ rs) e x q (inl i) = let d : q ≡ e = i.1 in omega arith
  in_turn_le (s ∷ rs) e x q (inr t) =
      let on : e ≤ t.0 = grows webidl text t.1.1 in
      let more : t.0 ≤ q = in_turn_le rs t.0 x q t.2 in
      omega arith

  -- what is tried at the place itself follows no rule that takes a byte
  later : (s : ℕ) (rs : List ℕ) (e z x : ℕ) → EndsAt text s e z → z ≡ e → Contains (leading rs) x → (b : Bool) → takes s ≡ b → Contains (s ∷ cond b [] (leading rs)) x
  later s rs e z x d same c true h = absurd (let m : e < z = advances webidl text rank takes ranked d.1 h in omega arith)
  later s rs e z x d same c false h = behind s (leading rs) x c

  in_turn_here : (rs : List ℕ) (e x : ℕ) → TriesInTurn text rs e x e → Contains (leading rs) x
  in_turn_here [] e x t = absurd t
  in_turn_here (s ∷ rs) e x (inl i) = head x s _ i.0
  in_turn_here (s ∷ rs) e x (inr t) =
      let on : e ≤ t.0 = grows webidl text t.1.1 in
      let more : t.0 ≤ e = in_turn_le rs t.0 x e t.2 in
      let same : t.0 ≡ e = omega arith in
      later s rs e t.0 x t.1 same (in_turn_here rs e x (subst (λ z. TriesInTurn text rs z x e) same t.2)) (takes s) refl

  choice_here : (rs : List ℕ) (p x q : ℕ) → TriesByChoice text rs p x q → Contains rs x
  choice_here [] p x q t = absurd t
  choice_here (s ∷ rs) p x q (inl i) = head x s rs i.0
  choice_here (s ∷ rs) p x q (inr t) = behind s rs x (choice_here rs p x q t.1)

  -- what follows an item
  follow_here : (y t p e x : ℕ) → EndsAt text y p e → x ≡ t → p ≡ e → (b : Bool) → takes y ≡ b → Contains (y ∷ cond b [] (t ∷ [])) x
  follow_here y t p e x d i same true h = absurd (let m : p < e = advances webidl text rank takes ranked d.1 h in omega arith)
  follow_here y t p e x d i same false h = behind y (t ∷ []) x (head x t [] i)

  -- what a condition is for
  ruled_here : (parts : List ℕ) (k y p e x : ℕ) → EndsWith text parts k p e → x ≡ y → p ≡ e → (b : Bool) → some_takes rank takes parts ≡ b
      → Contains (leading parts ++ cond b [] (y ∷ [])) x
  ruled_here parts k y p e x w i same true h = absurd (let m : p < last_end p w.0 = seq_advances webidl text rank takes ranked w.1 h in let at : e ≡ last_end p w.0 = w.3 in omega arith)
  ruled_here parts k y p e x w i same false h = Contains-append_right (leading parts) (y ∷ []) x (head x y [] i)

  row_here : (row : Row) (r p x : ℕ) → RowTries text row r p x p → Contains (parts_here row) x
  row_here (Seq parts) r p x t = in_turn_here parts p x t
  row_here (First parts) r p x t = choice_here parts p x p t
  row_here (Opt y) r p x t = head x y [] t.0
  row_here (Many y) r p x (inl i) = head x y [] i.0
  row_here (Many y) r p x (inr (e, d, ne, i)) = absurd (ne (sym i.1))
  row_here (ListOf y t) r p x (inl i) = head x y _ i.0
  row_here (ListOf y t) r p x (inr (e, d, i)) = follow_here y t p e x d i.0 i.1 (takes y) refl
  row_here (List1 y t) r p x (inl i) = head x y _ i.0
  row_here (List1 y t) r p x (inr (e, d, i)) = follow_here y t p e x d i.0 i.1 (takes y) refl
  row_here (Tail y s) r p x (inl i) = head x s [] i.0
  row_here (Tail y s) r p x (inr (e, d, ne, inl i)) = absurd (ne (sym i.1))
  row_here (Tail y s) r p x (inr (e, d, ne, inr (z, f, i))) =
      absurd (let on : p ≤ e = grows webidl text d.1 in let more : e ≤ z = grows webidl text f.1 in let at : p ≡ z = i.1 in ne (omega arith))
  row_here (If parts k y) r p x (inl t) = Contains-append_left (leading parts) _ x (in_turn_here parts p x t)
  row_here (If parts k y) r p x (inr (e, w, i)) = ruled_here parts k y p e x w i.0 i.1 (some_takes rank takes parts) refl
  row_here (Bytes b) r p x t = absurd t
  row_here (OneOf c) r p x t = absurd t
  row_here (NotNext c) r p x t = absurd t
  row_here (Run c) r p x t = absurd t
  row_here (Past b) r p x t = absurd t

-- the rules that rule r tries at its own place, by so many steps
abbrev pub reach : ℕ → ℕ → List ℕ
reach zero r = []
reach (suc n) r = r ∷ flat_map (reach n) (parts_here (row_of r))

among_all : (f : ℕ → List ℕ) (ys : List ℕ) (y x : ℕ) → Contains ys y → Contains (f y) x → Contains (flat_map f ys) x
among_all f [] y x c d = absurd (nothing y c)
among_all f (z ∷ ys) y x c d = elim (first_cases z ys y c) [
  | inl e ↦ Contains-append_left (f z) (flat_map f ys) x (subst (λ k. Contains (f k) x) (sym e) d)
  | inr e ↦ Contains-append_right (f z) (flat_map f ys) x (among_all f ys y x e d)
]

-- each is of a smaller number
abbrev pub falls : ℕ → Entry → Bool
falls r e = list_all (λ y. nat_lt y r) (parts_here e.row)

all_fall : all_pass falls 0 table ≡ true
all_fall = refl

fall : (r : ℕ) → list_all (λ y. nat_lt y r) (parts_here (row_of r)) ≡ true
fall = passes falls (λ n r. refl) all_fall

pub each_passes : (test : ℕ → Bool) (xs : List ℕ) (x : ℕ) → list_all test xs ≡ true → Contains xs x → test x ≡ true
each_passes test [] x h c = absurd (nothing x c)
each_passes test (y ∷ xs) x h c = elim (first_cases y xs x c) [
  | inl e ↦ subst (λ k. test k ≡ true) e (both _ _ h).0
  | inr d ↦ each_passes test xs x (both _ _ h).1 d
]

-- all that is tried at the place of a rule is reached from it
all_reached : (text : List ℕ) (p n r x : ℕ) → r < n → TriesHere text p r x → Contains (reach n r) x
all_reached text p zero r x l h = absurd (omega arith)
all_reached text p (suc n) r x l (itself e) = head x r _ e
all_reached text p (suc n) r x l (by {y = y} t h) =
    let part = row_here text (row_of r) r p y t in
    let low : y < r = ltb-true y r (each_passes (λ y. nat_lt y r) (parts_here (row_of r)) y (fall r) part) in
    behind r _ x (among_all (reach n) (parts_here (row_of r)) y x part (all_reached text p n y x (omega arith) h))

pub among : (xs : List ℕ) (x : ℕ) → has xs x ≡ true → Contains xs x
among [] x h = cc
among (y ∷ xs) x h = elim (one_of (eqb y x) (has xs x) h) [
  | inl e ↦ head x y xs (sym (eqb-true y x e))
  | inr e ↦ behind y xs x (among xs x e)
]

-- what is reached and has a word is among the starts
abbrev pub none_lacks : ℕ → List ℕ → Bool
none_lacks r starts = list_all (λ x. not (has_word x) || has starts x) (reach rule_count r)

pub all_among : (r : ℕ) (starts : List ℕ) → r < rule_count → none_lacks r starts ≡ true → (text : List ℕ) (p x : ℕ) → TriesHere text p r x → has_word x ≡ true → Contains starts x
all_among r starts l h text p x t word =
    among starts x (elim (one_of (not (has_word x)) (has starts x) (each_passes (λ x. not (has_word x) || has starts x) (reach rule_count r) x h (all_reached text p rule_count r x l t))) [
      | inl e ↦ absurd (let f = rw word at e in let g : false ≡ true = f in cc)
      | inr e ↦ e
    ])
