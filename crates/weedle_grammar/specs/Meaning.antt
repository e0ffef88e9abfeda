-- The meaning of a grammar: which outcome a rule has at a place of a text. It is one relation for any table of rows and shapes, in which a failure is derived like any other outcome.
use Rattle.std.specs.Prelude.{◌≡◌, ◌≢◌, ℕ, zero, suc, ◌+◌, ◌-◌, Bool, true, false, List, [], ◌∷◌, ◌++◌, map, take, drop, length, Option, Some, None}
use Rattle.weedle_grammar.specs.Rows.{Row, Bytes, OneOf, NotNext, Run, Past, Seq, First, Opt, Many, ListOf, List1, Tail, If, take_bytes, take_one, take_not_next, run_length, take_past}
use Rattle.weedle_grammar.specs.declared.class.Class.{Class}
use Rattle.weedle_grammar.specs.Trees.{Tree, Trees, Done, Then, Mark, Text, Node, Alt, Absent, Present, Items, Lines, trees, Outcome, Fails, Gives}

-- the tree that a rule's shape makes of what its row gave
pub data Shape : Type 0 where
  -- no tree
  Silent : Shape
  -- a mark, whatever the parts gave
  Marked : Shape
  -- the text of the part of this number
  Kept : ℕ → Shape
  -- the text of the third part except for its last byte, as a line
  Line : Shape
  -- the lines that the parts gave, joined by LF
  Joined : Shape
  -- the first tree of the parts
  Inner : Shape
  -- the tree that belongs to the row
  Plain : Shape

-- each rule's row and shape
pub record Grammar : Type 0 where
  pub row : ℕ → Row
  pub shape : ℕ → Shape

-- what a part of a sequence gave, and its end
pub record Piece : Type 0 where
  pub given : List Tree
  pub end : ℕ

-- what a row gave: its trees, the ends of its parts where it is a sequence, and its end
pub data Raw : Type 0 where
  Breaks : Raw
  Yields : List Tree → List ℕ → ℕ → Raw

-- what a row without parts yields at place p, by how many bytes it takes
abbrev pub leaf : ℕ → Option ℕ → Raw
leaf p None = Breaks
leaf p (Some taken) = Yields [] [] (p + taken)

-- where the pieces end that begin at p
abbrev pub last_end : ℕ → List Piece → ℕ
last_end p [] = p
last_end p (piece ∷ pieces) = last_end piece.end pieces

-- the trees of the pieces, one after another
abbrev pub given_of : List Piece → List Tree
given_of [] = []
given_of (piece ∷ pieces) = piece.given ++ given_of pieces

-- where each piece ends
abbrev pub ends_of : List Piece → List ℕ
ends_of pieces = map (λ piece. piece.end) pieces

-- what a sequence yields at place p, by the pieces of its parts
abbrev pub together : ℕ → Option (List Piece) → Raw
together p None = Breaks
together p (Some pieces) = Yields (given_of pieces) (ends_of pieces) (last_end p pieces)

-- the piece before those of the other parts
abbrev pub with_piece : Piece → Option (List Piece) → Option (List Piece)
with_piece piece None = None
with_piece piece (Some pieces) = Some (piece ∷ pieces)

-- the trees before those of the raw outcome
abbrev pub before : List Tree → Raw → Raw
before ts Breaks = Breaks
before ts (Yields us ends end) = Yields (ts ++ us) ends end

-- what a row yields that passes on a rule's outcome
abbrev pub raw_of : Outcome → Raw
raw_of Fails = Breaks
raw_of (Gives ts end) = Yields ts [] end

-- the trees are those of an optional part that was there
abbrev pub is_present : List Tree → Bool
is_present (Present t ∷ []) = true
is_present _ = false

-- part k was there
abbrev pub gave_some : ℕ → List Piece → Bool
gave_some k [] = false
gave_some zero (piece ∷ pieces) = is_present piece.given
gave_some (suc k) (piece ∷ pieces) = gave_some k pieces

-- the tree of a plain rule
abbrev pub plain : Row → List Tree → List Tree
plain (Seq parts) ts = Node (trees ts) ∷ []
plain (If parts k y) ts = Node (trees ts) ∷ []
plain (Many x) ts = Items (trees ts) ∷ []
plain (ListOf x t) ts = Items (trees ts) ∷ []
plain (List1 x t) ts = Items (trees ts) ∷ []
plain (Tail x s) ts = ts
plain (First parts) ts = ts
plain (Opt x) ts = ts
plain (Bytes bytes) ts = ts
plain (OneOf class) ts = ts
plain (NotNext class) ts = ts
plain (Run class) ts = ts
plain (Past bytes) ts = ts

-- the bytes of a text between two places
abbrev pub between : List ℕ → ℕ → ℕ → List ℕ
between text from to = take (to - from) (drop from text)

-- the lines after the first, each behind its LF
abbrev pub more_lines : Trees → List ℕ
more_lines Done = []
more_lines (Then (Lines line) ts) = 10 ∷ line ++ more_lines ts
more_lines (Then _ ts) = more_lines ts

-- the lines of a docstring, joined by LF
abbrev pub joined : List Tree → List ℕ
joined (Lines line ∷ Items ts ∷ []) = line ++ more_lines ts
joined _ = []

-- the bytes that part k of a sequence takes, where its parts end so
abbrev pub kept : List ℕ → ℕ → List ℕ → ℕ → List ℕ
kept text p [] k = []
kept text p (end ∷ ends) zero = between text p end
kept text p (end ∷ ends) (suc k) = kept text end ends k

-- the bytes except for the last
abbrev pub but_last : List ℕ → List ℕ
but_last bytes = take (length bytes - 1) bytes

-- the trees that a rule gives: its shape of what its row gave from place p
abbrev pub formed : List ℕ → Row → Shape → ℕ → List Tree → List ℕ → List Tree
formed text row Silent p ts ends = []
formed text row Marked p ts ends = Mark ∷ []
formed text row (Kept k) p ts ends = Text (kept text p ends k) ∷ []
formed text row Line p ts ends = Lines (but_last (kept text p ends 2)) ∷ []
formed text row Joined p ts ends = Lines (joined ts) ∷ []
formed text row Inner p ts ends = take 1 ts
formed text row Plain p ts ends = plain row ts

-- a rule's outcome, from what its row yields
abbrev pub shaped : List ℕ → Row → Shape → ℕ → Raw → Outcome
shaped text row shape p Breaks = Fails
shaped text row shape p (Yields ts ends end) = Gives (formed text row shape p ts ends) end

-- what an optional part makes of its rule's outcome
abbrev pub opted : ℕ → Outcome → Raw
opted p Fails = Yields (Absent ∷ []) [] p
opted p (Gives ts end) = Yields (map Present ts) [] end

-- the piece of these trees and this end
abbrev pub piece : List Tree → ℕ → Piece
piece ts end = record { given = ts; end = end }

mutual
  -- rule r at place p of the text has the outcome o
  pub data ReadsBy (G : Grammar) (text : List ℕ) : ℕ → ℕ → Outcome → Type 0 where
    -- by its row, shaped
    by_row : {r p : ℕ} {w : Raw} {o : Outcome} → ReadsRow G text (G.row r) p w → o ≡ shaped text (G.row r) (G.shape r) p w
        → ReadsBy G text r p o

  -- a row at place p yields w
  pub data ReadsRow (G : Grammar) (text : List ℕ) : Row → ℕ → Raw → Type 0 where
    -- a row without parts: by the bytes alone
    by_bytes : {b : List ℕ} {p : ℕ} {w : Raw} → w ≡ leaf p (take_bytes b (drop p text)) → ReadsRow G text (Bytes b) p w
    by_one : {c : Class} {p : ℕ} {w : Raw} → w ≡ leaf p (take_one c (drop p text)) → ReadsRow G text (OneOf c) p w
    by_not_next : {c : Class} {p : ℕ} {w : Raw} → w ≡ leaf p (take_not_next c (drop p text)) → ReadsRow G text (NotNext c) p w
    by_run : {c : Class} {p : ℕ} {w : Raw} → w ≡ leaf p (Some (run_length c (drop p text))) → ReadsRow G text (Run c) p w
    by_past : {b : List ℕ} {p : ℕ} {w : Raw} → w ≡ leaf p (take_past b (drop p text)) → ReadsRow G text (Past b) p w
    -- each part from the end of the one before
    by_seq : {parts : List ℕ} {p : ℕ} {w : Raw} {o : Option (List Piece)} → ReadsSeq G text parts p o → w ≡ together p o
        → ReadsRow G text (Seq parts) p w
    -- the first part that doesn't fail
    by_first : {parts : List ℕ} {p : ℕ} {w : Raw} {o : Outcome} → ReadsFirst G text parts 0 p o → w ≡ raw_of o
        → ReadsRow G text (First parts) p w
    -- the rule, or nothing where it fails
    by_opt : {x p : ℕ} {w : Raw} {o : Outcome} → ReadsBy G text x p o → w ≡ opted p o → ReadsRow G text (Opt x) p w
    -- no more items where the rule fails; a failure where it takes nothing; else an item, and the same from its end
    many_end : {x p : ℕ} {w : Raw} → ReadsBy G text x p Fails → w ≡ Yields [] [] p → ReadsRow G text (Many x) p w
    many_stuck : {x p q : ℕ} {ts : List Tree} {w : Raw} → ReadsBy G text x p (Gives ts q) → q ≡ p → w ≡ Breaks
        → ReadsRow G text (Many x) p w
    many_more : {x p q : ℕ} {ts : List Tree} {w w' : Raw} → ReadsBy G text x p (Gives ts q) → q ≢ p
        → ReadsRow G text (Many x) q w → w' ≡ before ts w → ReadsRow G text (Many x) p w'
    -- no item: nothing; else an item, and what follows it
    list_none : {x t p : ℕ} {w : Raw} → ReadsBy G text x p Fails → w ≡ Yields [] [] p → ReadsRow G text (ListOf x t) p w
    list_more : {x t p q : ℕ} {ts : List Tree} {o : Outcome} {w : Raw} → ReadsBy G text x p (Gives ts q) → ReadsBy G text t q o
        → w ≡ before ts (raw_of o) → ReadsRow G text (ListOf x t) p w
    -- no item: a failure; else an item, and what follows it
    list1_fails : {x t p : ℕ} {w : Raw} → ReadsBy G text x p Fails → w ≡ Breaks → ReadsRow G text (List1 x t) p w
    list1_more : {x t p q : ℕ} {ts : List Tree} {o : Outcome} {w : Raw} → ReadsBy G text x p (Gives ts q) → ReadsBy G text t q o
        → w ≡ before ts (raw_of o) → ReadsRow G text (List1 x t) p w
    -- no separator, or none that an item follows: no more items; a separator that takes nothing: a failure; else an item, and the same from its end
    tail_end : {x s p : ℕ} {w : Raw} → ReadsBy G text s p Fails → w ≡ Yields [] [] p → ReadsRow G text (Tail x s) p w
    tail_stuck : {x s p q : ℕ} {ts : List Tree} {w : Raw} → ReadsBy G text s p (Gives ts q) → q ≡ p → w ≡ Breaks
        → ReadsRow G text (Tail x s) p w
    tail_back : {x s p q : ℕ} {ts : List Tree} {w : Raw} → ReadsBy G text s p (Gives ts q) → q ≢ p → ReadsBy G text x q Fails
        → w ≡ Yields [] [] p → ReadsRow G text (Tail x s) p w
    tail_more : {x s p q e : ℕ} {ts us : List Tree} {w w' : Raw} → ReadsBy G text s p (Gives ts q) → q ≢ p
        → ReadsBy G text x q (Gives us e) → ReadsRow G text (Tail x s) e w → w' ≡ before us w → ReadsRow G text (Tail x s) p w'
    -- the parts, and then rule y where part k gave something; else nothing in its place
    if_fails : {parts : List ℕ} {k y p : ℕ} {w : Raw} → ReadsSeq G text parts p None → w ≡ Breaks → ReadsRow G text (If parts k y) p w
    if_absent : {parts : List ℕ} {k y p : ℕ} {w : Raw} {pieces : List Piece} → ReadsSeq G text parts p (Some pieces)
        → gave_some k pieces ≡ false → w ≡ Yields (given_of pieces ++ Absent ∷ []) [] (last_end p pieces)
        → ReadsRow G text (If parts k y) p w
    if_present : {parts : List ℕ} {k y p : ℕ} {w : Raw} {o : Outcome} {pieces : List Piece}
        → ReadsSeq G text parts p (Some pieces) → gave_some k pieces ≡ true → ReadsBy G text y (last_end p pieces) o
        → w ≡ before (given_of pieces) (raw_of o) → ReadsRow G text (If parts k y) p w

  -- rules one after another from place p give these pieces, or fail
  pub data ReadsSeq (G : Grammar) (text : List ℕ) : List ℕ → ℕ → Option (List Piece) → Type 0 where
    -- no more rules; a rule that fails; a rule's piece before those of the others
    seq_end : {p : ℕ} {o : Option (List Piece)} → o ≡ Some [] → ReadsSeq G text [] p o
    seq_fails : {r p : ℕ} {rs : List ℕ} {o : Option (List Piece)} → ReadsBy G text r p Fails → o ≡ None → ReadsSeq G text (r ∷ rs) p o
    seq_more : {r p q : ℕ} {rs : List ℕ} {ts : List Tree} {o o' : Option (List Piece)} → ReadsBy G text r p (Gives ts q)
        → ReadsSeq G text rs q o → o' ≡ with_piece (piece ts q) o → ReadsSeq G text (r ∷ rs) p o'

  -- the first of the rules that doesn't fail at place p, counted from i
  pub data ReadsFirst (G : Grammar) (text : List ℕ) : List ℕ → ℕ → ℕ → Outcome → Type 0 where
    -- no rule is left; the rule fits; the rule fails and another may fit
    first_none : {i p : ℕ} {o : Outcome} → o ≡ Fails → ReadsFirst G text [] i p o
    first_here : {r i p q : ℕ} {rs : List ℕ} {ts : List Tree} {o : Outcome} → ReadsBy G text r p (Gives ts q)
        → o ≡ Gives (map (Alt i) ts) q → ReadsFirst G text (r ∷ rs) i p o
    first_next : {r i p : ℕ} {rs : List ℕ} {o : Outcome} → ReadsBy G text r p Fails → ReadsFirst G text rs (suc i) p o
        → ReadsFirst G text (r ∷ rs) i p o

-- an outcome with its end moved by s
abbrev pub moved : ℕ → Outcome → Outcome
moved s Fails = Fails
moved s (Gives ts q) = Gives ts (s + q)
