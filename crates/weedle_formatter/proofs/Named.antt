-- What a node reads directly is of the rules that its row names; tests of the table.
use Rattle.std.proofs.Common.{◌≡◌, inl, inr, ℕ, zero, suc, List, [], ◌∷◌, ◌++◌, Bool, true, false, ◌&&◌, refl, sym, subst}
use Rattle.std.specs.Prelude.{◌||◌, not}
use Rattle.std.specs.List.{list_all}
use Rattle.weedle_grammar.specs.Rows.{Row, Bytes, OneOf, NotNext, Run, Past, Seq, First, Opt, Many, ListOf, List1, Tail, If}
use Rattle.weedle_grammar.specs.Meaning.{Shape, Silent, Marked, Kept, Line, Joined, Inner, Plain}
use Rattle.weedle_grammar.specs.written.Table.{row_of, shape_of}
use Rattle.weedle_grammar.proofs.Leaves.{both}
use Rattle.weedle_grammar.proofs.Entries.{passes}
use Rattle.weedle_syntax.specs.declared.node.Node.{Node}
use Rattle.weedle_syntax.specs.Parts.{IsNode, AreInTurn, IsFirst, AreItems, AreFollowing, AreParts}
use Rattle.weedle_starts.proofs.BoolFacts.{and_true, or_right}
use Rattle.weedle_syntax.proofs.ChildFacts.{Each}
use Rattle.weedle_formatter.proofs.Said.{is_solid}

-- the rules that a row names pass a test
abbrev pub all_named : (ℕ → Bool) → Row → Bool
all_named test (Seq parts) = list_all test parts
all_named test (First parts) = list_all test parts
all_named test (Opt x) = test x
all_named test (Many x) = test x
all_named test (ListOf x t) = test x && test t
all_named test (List1 x t) = test x && test t
all_named test (Tail x s) = test x && test s
all_named test (If parts k y) = list_all test parts && test y
all_named test (Bytes b) = true
all_named test (OneOf c) = true
all_named test (NotNext c) = true
all_named test (Run c) = true
all_named test (Past b) = true

pub all_and_one : (test : ℕ → Bool) (y : ℕ) (rs : List ℕ) → list_all test rs ≡ true → test y ≡ true → list_all test (rs ++ y ∷ []) ≡ true
all_and_one test y [] h k = and_true (test y) true k refl
all_and_one test y (r ∷ rs) h k = and_true (test r) (list_all test (rs ++ y ∷ [])) (both _ _ h).0 (all_and_one test y rs (both _ _ h).1 k)

-- something is so of each node that a row reads, if it is so of nodes of rules that pass
module _ (text : List ℕ) (d : ℕ) (test : ℕ → Bool) (P : Node → Type 0) (so : (r p : ℕ) (n : Node) → test r ≡ true → IsNode text r d p n → P n) where
  turn_each : (rs : List ℕ) (p e : ℕ) (ns : List Node) → list_all test rs ≡ true → AreInTurn text rs d p e ns → Each P ns
  turn_each [] p e ns h a = subst (Each P) (sym a.0) tt
  turn_each (r ∷ rs) p e [] h a = absurd a
  turn_each (r ∷ rs) p e (n ∷ ns) h a = (so r p n (both _ _ h).0 a.0, turn_each rs n.end e ns (both _ _ h).1 a.1)

  first_each : (rs : List ℕ) (p e : ℕ) (ns : List Node) → list_all test rs ≡ true → IsFirst text rs d p e ns → Each P ns
  first_each [] p e ns h a = absurd a
  first_each (r ∷ rs) p e ns h (inl a) = turn_each (r ∷ []) p e ns (and_true (test r) true (both _ _ h).0 refl) a
  first_each (r ∷ rs) p e ns h (inr a) = first_each rs p e ns (both _ _ h).1 a.1

  items_each : (y p e : ℕ) (ns : List Node) → test y ≡ true → AreItems text y d p e ns → Each P ns
  items_each y p e [] h a = tt
  items_each y p e (n ∷ ns) h a = (so y p n h a.0, items_each y n.end e ns h a.1)

  following_each : (y s p e : ℕ) (ns : List Node) → test y ≡ true → test s ≡ true → AreFollowing text y s d p e ns → Each P ns
  following_each y s p e [] h k a = tt
  following_each y s p e (n ∷ []) h k a = absurd a
  following_each y s p e (n ∷ m ∷ ns) h k (i, j, a) = (so s p n k i, (so y n.end m h j, following_each y s m.end e ns h k a))

  one_each : (y p e : ℕ) (ns : List Node) → test y ≡ true → AreInTurn text (y ∷ []) d p e ns → Each P ns
  one_each y p e ns h a = turn_each (y ∷ []) p e ns (and_true (test y) true h refl) a

  two_each : (y t p e : ℕ) (ns : List Node) → test y && test t ≡ true → AreInTurn text (y ∷ t ∷ []) d p e ns → Each P ns
  two_each y t p e ns h a = turn_each (y ∷ t ∷ []) p e ns (and_true (test y) (test t && true) (both _ _ h).0 (and_true (test t) true (both _ _ h).1 refl)) a

  none_each : (ns : List Node) → ns ≡ [] → Each P ns
  none_each ns e = subst (Each P) (sym e) tt

  pub parts_each : (row : Row) (p e : ℕ) (ns : List Node) → all_named test row ≡ true → AreParts text row d p e ns → Each P ns
  parts_each (Seq parts) p e ns h a = turn_each parts p e ns h a
  parts_each (First parts) p e ns h a = first_each parts p e ns h a
  parts_each (Opt y) p e ns h (inl a) = one_each y p e ns h a
  parts_each (Opt y) p e ns h (inr a) = none_each ns a.1.0
  parts_each (Many y) p e ns h a = items_each y p e ns h a
  parts_each (ListOf y t) p e ns h (inl a) = two_each y t p e ns h a
  parts_each (ListOf y t) p e ns h (inr a) = none_each ns a.1.0
  parts_each (List1 y t) p e ns h a = two_each y t p e ns h a
  parts_each (Tail y s) p e ns h a = following_each y s p e ns (both _ _ h).0 (both _ _ h).1 a
  parts_each (If parts k y) p e ns h (inl a) = turn_each (parts ++ y ∷ []) p e ns (all_and_one test y parts (both _ _ h).0 (both _ _ h).1) a.1
  parts_each (If parts k y) p e ns h (inr a) = turn_each parts p e ns (both _ _ h).0 a.1
  parts_each (Bytes b) p e ns h a = none_each ns a
  parts_each (OneOf c) p e ns h a = none_each ns a
  parts_each (NotNext c) p e ns h a = none_each ns a
  parts_each (Run c) p e ns h a = none_each ns a
  parts_each (Past b) p e ns h a = none_each ns a

abbrev pub is_trivia : ℕ → Bool
is_trivia r = not (is_solid r)

abbrev pub is_silent : Shape → Bool
is_silent Silent = true
is_silent _ = false

-- a rule that gives nothing, and isn't of trivia
abbrev pub is_pure : ℕ → Bool
is_pure r = is_solid r && is_silent (shape_of r)

-- the part of this number is of such a rule
abbrev pub pure_at : List ℕ → ℕ → Bool
pure_at [] k = false
pure_at (r ∷ rs) zero = is_pure r
pure_at (r ∷ rs) (suc k) = pure_at rs k

-- the row is a sequence whose part of this number is of such a rule
abbrev pub keeps : ℕ → Row → Bool
keeps k (Seq parts) = pure_at parts k
keeps k _ = false

-- choices, what may be there, separators and what follows a condition aren't of trivia
abbrev pub row_told : Row → Bool
row_told (First parts) = list_all is_solid parts
row_told (Opt x) = is_solid x
row_told (Tail x s) = is_solid x && is_solid s
row_told (If parts k y) = list_all is_solid parts && is_solid y
row_told _ = true

-- what the rule gives can be told by its parts except for trivia
abbrev pub is_told : Shape → Row → Bool
is_told Silent row = true
is_told Marked row = true
is_told (Kept k) row = keeps k row
is_told Line row = keeps 2 row
is_told Joined row = row_told row
is_told Inner row = row_told row
is_told Plain row = row_told row

unless : (a b : Bool) → not a || b ≡ true → a ≡ true → b ≡ true
unless true b h k = h
unless false b h k = cc

not_solid : (b : Bool) → b ≡ false → not b ≡ true
not_solid true h = cc
not_solid false h = refl

-- the table passes the tests: they are computed here
pub told : (r : ℕ) → is_told (shape_of r) (row_of r) ≡ true
told = passes (λ r e. is_told e.shape e.row) (λ n r. refl) refl

pub names_any : (r : ℕ) → all_named (λ x. true) (row_of r) ≡ true
names_any = passes (λ r e. all_named (λ x. true) e.row) (λ n r. refl) refl

trivia_here : (r : ℕ) → not (is_trivia r) || (is_silent (shape_of r) && all_named is_trivia (row_of r)) ≡ true
trivia_here = passes (λ r e. not (is_trivia r) || (is_silent e.shape && all_named is_trivia e.row)) (λ n r. or_right (not (is_trivia n)) true refl) refl

pure_here : (r : ℕ) → not (is_solid r && is_silent (shape_of r)) || all_named is_pure (row_of r) ≡ true
pure_here = passes (λ r e. not (is_solid r && is_silent e.shape) || all_named is_pure e.row) (λ n r. or_right (not (is_solid n && true)) true refl) refl

-- rules of trivia give nothing, and read rules of trivia
pub trivia_silent : (r : ℕ) → is_solid r ≡ false → is_silent (shape_of r) ≡ true
trivia_silent r h = (both _ _ (unless (is_trivia r) _ (trivia_here r) (not_solid _ h))).0

pub names_trivia : (r : ℕ) → is_trivia r ≡ true → all_named is_trivia (row_of r) ≡ true
names_trivia r h = (both _ _ (unless (is_trivia r) _ (trivia_here r) h)).1

-- what gives nothing, and isn't of trivia, reads such rules
pub names_pure : (r : ℕ) → is_pure r ≡ true → all_named is_pure (row_of r) ≡ true
names_pure r h = unless (is_pure r) _ (pure_here r) h
