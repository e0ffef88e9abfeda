-- The parts that a rule's reading is made of, and how they are nested. A rule makes at most one node of what its parts give: that node begins and ends where the rule does.
use Rattle.std.specs.Prelude.{◌≡◌, ◌<◌, ◌≤◌, ◌⊎◌, ℕ, List, [], ◌∷◌, ◌++◌, length, Bool, ◌&&◌, ◌==◌, nat_lt, Option}
use Rattle.std.specs.List.{All, Contains, filter}
use Rattle.weedle_grammar.specs.Rows.{Row}
use Rattle.weedle_grammar.specs.Trees.{Tree, Outcome, Fails, Gives}
use Rattle.weedle_grammar.specs.Meaning.{Grammar, Piece, Raw, ReadsBy, ReadsRow, ReadsSeq, ReadsFirst, by_row, by_seq, by_first, by_opt, many_more, list_more, list1_more, tail_more, if_absent, if_present, seq_end, seq_fails, seq_more, first_none, first_here, first_next}
use Rattle.weedle_grammar.specs.written.Table.{webidl, Reads}

-- a rule that gives something: its number, where it begins and ends, what it gives, and how that is derived
pub record Part (G : Grammar) (text : List ℕ) : Type 0 where
  pub rule : ℕ
  pub start : ℕ
  pub end : ℕ
  pub given : List Tree
  pub derived : ReadsBy G text rule start (Gives given end)

-- the part that is derived so
abbrev pub part : {G : Grammar} {text : List ℕ} {r p e : ℕ} {ts : List Tree} → ReadsBy G text r p (Gives ts e) → Part G text
part {r = r} {p = p} {e = e} {ts = ts} d = record { rule = r; start = p; end = e; given = ts; derived = d }

-- the part that is derived so, or none where the rule fails
abbrev pub part_unless_fails : {G : Grammar} {text : List ℕ} {r p : ℕ} {o : Outcome} → ReadsBy G text r p o → List (Part G text)
part_unless_fails {o = Fails} d = []
part_unless_fails {o = Gives ts e} d = part d ∷ []

-- the parts of a sequence
abbrev pub sequence_parts : {G : Grammar} {text rs : List ℕ} {p : ℕ} {o : Option (List Piece)} → ReadsSeq G text rs p o → List (Part G text)
sequence_parts (seq_end e) = []
sequence_parts (seq_fails d e) = []
sequence_parts (seq_more d m e) = part d ∷ sequence_parts m

-- the alternative that fits
abbrev pub choice_parts : {G : Grammar} {text rs : List ℕ} {i p : ℕ} {o : Outcome} → ReadsFirst G text rs i p o → List (Part G text)
choice_parts (first_none e) = []
choice_parts (first_here d e) = part d ∷ []
choice_parts (first_next d m) = choice_parts m

-- the parts of what a row yields; a separator that isn't taken is none
abbrev pub row_parts : {G : Grammar} {text : List ℕ} {row : Row} {p : ℕ} {w : Raw} → ReadsRow G text row p w → List (Part G text)
row_parts (by_seq d e) = sequence_parts d
row_parts (by_first d e) = choice_parts d
row_parts (by_opt d e) = part_unless_fails d
row_parts (many_more d n m e) = part d ∷ row_parts m
row_parts (list_more d m e) = part d ∷ part_unless_fails m
row_parts (list1_more d m e) = part d ∷ part_unless_fails m
row_parts (tail_more d n m t e) = part d ∷ part m ∷ row_parts t
row_parts (if_absent d g e) = sequence_parts d
row_parts (if_present d g m e) = sequence_parts d ++ part_unless_fails m
row_parts _ = []

-- the parts of what a rule gives, from left to right
abbrev pub parts : {G : Grammar} {text : List ℕ} {r p : ℕ} {o : Outcome} → ReadsBy G text r p o → List (Part G text)
parts (by_row d e) = row_parts d

-- the part begins at p and takes text
abbrev pub takes_at : {G : Grammar} {text : List ℕ} → ℕ → Part G text → Bool
takes_at p part = part.start == p && nat_lt p part.end

-- of the parts of what a rule gives at most one begins where the rule begins and takes text, and its rule has a smaller number
abbrev pub HasOneAtStart : List ℕ → ℕ → ℕ → Type 0
HasOneAtStart text r p = (ts : List Tree) (end : ℕ) → (d : Reads text r p (Gives ts end))
    → (length (filter (takes_at p) (parts d)) ≤ 1) × All (λ part. part.rule < r) (filter (takes_at p) (parts d))

-- the first part is the second one, or a part of it, or a part of such a part, and so on
pub data IsIn {G : Grammar} {text : List ℕ} (inner : Part G text) : Part G text → Type 0 where
  itself : {outer : Part G text} → outer ≡ inner → IsIn inner outer
  deeper : {outer between : Part G text} → Contains (parts outer.derived) between → IsIn inner between → IsIn inner outer

-- the first part lies in the second one, and its rule has a smaller number
abbrev pub IsBelow : {G : Grammar} {text : List ℕ} → Part G text → Part G text → Type 0
IsBelow inner outer = IsIn inner outer × (inner.rule < outer.rule)

-- in what a rule gives, two parts that begin at one place and take text are the same, or one lies in the other and their rules differ
abbrev pub IsNested : {text : List ℕ} → Part webidl text → Type 0
IsNested {text} whole = (one other : Part webidl text) → IsIn one whole → IsIn other whole → one.start ≡ other.start
    → one.start < one.end → other.start < other.end → (one ≡ other) ⊎ (IsBelow one other ⊎ IsBelow other one)
