-- What is to be built, and what was built.
use Rattle.std.specs.Prelude.{◌≡◌, ℕ, ◌+◌, ◌-◌, ◌^◌, min, List, [], ◌∷◌, IsUtf8, IsCharBoundary, Result, Ok, Err, Some, ◌<◌, length, get_or}
use Rattle.weedle_build_base.specs.declared.at.At.{At}
use Rattle.weedle_grammar.specs.Trees.{Tree, Alt, Gives}
use Rattle.weedle_grammar.specs.written.Table.{webidl, row_of, Reads}
use Rattle.weedle_starts.specs.Tries.{TriesInTurn}
use Rattle.weedle_memo.specs.Wanted.{Wanted}
use Rattle.weedle_build_base.specs.Fits.{firsts}
use Rattle.weedle_grammar.specs.Size.{size, total_size}
use Rattle.weedle_grammar.specs.Meaning.{Piece, ReadsSeq, given_of, last_end}

-- a count and so many more, as far as counts go
abbrev pub plus : ℕ → ℕ → ℕ
plus count more = min (count + more) (2 ^ 128 - 1)

-- the rule is tried at the place by what is read of the text, and a character begins there
pub record IsTried (text : List ℕ) (r p : ℕ) : Type 0 where
  pub wanted : Wanted text r p
  pub utf8 : IsUtf8 text
  pub boundary : IsCharBoundary text p

-- the rule is tried at the place, and reads something there
pub record Due (text : List ℕ) (r p : ℕ) : Type 0 where
  pub given : List Tree
  pub end : ℕ
  pub reads : Reads text r p (Gives given end)
  pub wanted : Wanted text r p
  pub utf8 : IsUtf8 text
  pub boundary : IsCharBoundary text p

-- from place p to place q the rule read the tree, and each of its nodes was visited: v visits before, w after
pub record Builds (text : List ℕ) (r : ℕ) (t : Tree) (p v q w : ℕ) : Type 0 where
  pub reads : Reads text r p (Gives (t ∷ []) q)
  pub counts : w ≡ plus v (size t)

-- one more node was visited at a place
pub record Visits (p v q w : ℕ) : Type 0 where
  pub same : q ≡ p
  pub counts : w ≡ plus v 1

-- the end that the table gives is where something ends
pub record Found (text : List ℕ) (r p e : ℕ) : Type 0 where
  pub given : List Tree
  pub reads : Reads text r p (Gives given e)

-- the rules are tried one after another from the place, and each reads something
pub record Rest (text : List ℕ) (rs : List ℕ) (p : ℕ) : Type 0 where
  pub pieces : List Piece
  pub reads : ReadsSeq webidl text rs p (Some pieces)
  pub wanted : (x q : ℕ) → TriesInTurn text rs p x q → Wanted text x q
  pub utf8 : IsUtf8 text
  pub boundary : IsCharBoundary text p

-- what was built of the rules one after another
pub record Run (text : List ℕ) (rs : List ℕ) (ts : List Tree) (p v q w : ℕ) : Type 0 where
  pub pieces : List Piece
  pub reads : ReadsSeq webidl text rs p (Some pieces)
  pub given : given_of pieces ≡ ts
  pub end : last_end p pieces ≡ q
  pub counts : w ≡ plus v (total_size ts)

-- what a building at place p may answer, after v visits: a value and where it is then, or that memory was refused
module _ {V E : Type 0} (text : List ℕ) (r : ℕ) (tree : V → Tree) (p v : ℕ) where
  abbrev pub Answers : Result (V × At) E → Type 0
  Answers (Ok x) = Builds text r (tree x.0) p v x.1.place x.1.visits
  Answers (Err e) = Unit {0}

-- what a building of the fields of a sequence may answer, after v visits at place p: the fields and where it is then,
-- or that memory was refused
module _ {V E : Type 0} (text : List ℕ) (rs : List ℕ) (trees : V → List Tree) (p v : ℕ) where
  abbrev pub FieldAnswers : Result (V × At) E → Type 0
  FieldAnswers (Ok x) = Run text rs (trees x.0) p v x.1.place x.1.visits
  FieldAnswers (Err e) = Unit {0}

-- of the alternatives of rule r, number i is the first that fits
pub record IsChosen (text : List ℕ) (r p i : ℕ) : Type 0 where
  pub below : i < length (firsts (row_of r))
  -- it reads something
  pub due : Due text (get_or (firsts (row_of r)) i 0) p
  -- what it gives is what the rule gives
  pub gives : (t : Tree) (q : ℕ) → Reads text (get_or (firsts (row_of r)) i 0) p (Gives (t ∷ []) q) → Reads text r p (Gives (Alt i t ∷ []) q)

-- a list of items of rule x, behind which rule t reads those behind separators: a first item is due, and at its end the others
pub record IsDueList (text : List ℕ) (x t p : ℕ) : Type 0 where
  pub item : Due text x p
  pub next : (ts : List Tree) (q : ℕ) → Reads text x p (Gives ts q) → Due text t q

-- the items of a list were built, and each of their nodes visited
pub record BuiltItems (text : List ℕ) (x t p v : ℕ) (ts : List Tree) (q w : ℕ) : Type 0 where
  pub first : Tree
  pub others : List Tree
  pub all : ts ≡ first ∷ others
  pub place : ℕ
  pub head : Reads text x p (Gives (first ∷ []) place)
  pub tail : Reads text t place (Gives others q)
  pub counts : (k : ℕ) → plus w k ≡ plus v (total_size ts + k)

-- what a building of a list's items may answer
module _ {V E : Type 0} (text : List ℕ) (x t : ℕ) (given : V → List Tree) (p v : ℕ) where
  abbrev pub ItemAnswers : Result (V × At) E → Type 0
  ItemAnswers (Ok a) = BuiltItems text x t p v (given a.0) a.1.place a.1.visits
  ItemAnswers (Err e) = Unit {0}
