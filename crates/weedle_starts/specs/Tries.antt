-- Which rules are tried at which places, where definitions are read from a place on.
use Rattle.std.specs.Prelude.{◌≡◌, ◌≢◌, ◌⊎◌, ℕ, Bool, true, false, List, [], ◌∷◌, Some}
use Rattle.weedle_grammar.specs.Rows.{Row, Bytes, OneOf, NotNext, Run, Past, Seq, First, Opt, Many, ListOf, List1, Tail, If}
use Rattle.weedle_grammar.specs.Meaning.{Piece, ReadsSeq, gave_some, last_end}
use Rattle.weedle_grammar.specs.written.Table.{webidl, row_of}
use Rattle.weedle_grammar.specs.written.Table.Definitions.{DEFINITIONS}
use Rattle.weedle_rules.specs.Outcomes.{EndsAt, FailsAt}

-- rule x at q is rule r at p
abbrev pub SameAttempt : ℕ → ℕ → ℕ → ℕ → Type 0
SameAttempt r p x q = (x ≡ r) × (q ≡ p)

-- of rules one after another, the first at p: each is tried where the one before it ends, and none behind one that fails
abbrev pub TriesInTurn : List ℕ → List ℕ → ℕ → ℕ → ℕ → Type 0
TriesInTurn text [] p x q = ⊥
TriesInTurn text (r ∷ rs) p x q = SameAttempt r p x q ⊎ ((e : ℕ) × EndsAt text r p e × TriesInTurn text rs e x q)

-- of the rules of a choice at p: each is tried where all before it fail, and none behind one that fits
abbrev pub TriesByChoice : List ℕ → List ℕ → ℕ → ℕ → ℕ → Type 0
TriesByChoice text [] p x q = ⊥
TriesByChoice text (r ∷ rs) p x q = SameAttempt r p x q ⊎ (FailsAt text r p × TriesByChoice text rs p x q)

-- of a list at p: the item y, and where it ends the rule t of what follows
abbrev pub TriesListed : List ℕ → ℕ → ℕ → ℕ → ℕ → ℕ → Type 0
TriesListed text y t p x q = SameAttempt y p x q ⊎ ((e : ℕ) × EndsAt text y p e × SameAttempt t e x q)

-- the rules are read one after another from p, the one of number k gives something, and they end at q
abbrev pub EndsWith : List ℕ → List ℕ → ℕ → ℕ → ℕ → Type 0
EndsWith text rs k p q = (pieces : List Piece) × ReadsSeq webidl text rs p (Some pieces) × (gave_some k pieces ≡ true) × (q ≡ last_end p pieces)

-- what rule r tries at p by its row: rule x at q
abbrev pub RowTries : List ℕ → Row → ℕ → ℕ → ℕ → ℕ → Type 0
RowTries text (Seq parts) r p x q = TriesInTurn text parts p x q
RowTries text (First parts) r p x q = TriesByChoice text parts p x q
RowTries text (Opt y) r p x q = SameAttempt y p x q
-- the item, and the rule itself behind an item that takes something
RowTries text (Many y) r p x q = SameAttempt y p x q ⊎ ((e : ℕ) × EndsAt text y p e × (e ≢ p) × SameAttempt r e x q)
RowTries text (ListOf y t) r p x q = TriesListed text y t p x q
RowTries text (List1 y t) r p x q = TriesListed text y t p x q
-- the separator, the item behind a separator that takes something, and the rule itself behind the item
RowTries text (Tail y s) r p x q =
    SameAttempt s p x q ⊎ ((e : ℕ) × EndsAt text s p e × (e ≢ p) × (SameAttempt y e x q ⊎ ((z : ℕ) × EndsAt text y e z × SameAttempt r z x q)))
-- the parts, and where they end the rule y, if part k gives something
RowTries text (If parts k y) r p x q = TriesInTurn text parts p x q ⊎ ((e : ℕ) × EndsWith text parts k p e × SameAttempt y e x q)
-- a row without parts tries nothing
RowTries text (Bytes b) r p x q = ⊥
RowTries text (OneOf c) r p x q = ⊥
RowTries text (NotNext c) r p x q = ⊥
RowTries text (Run c) r p x q = ⊥
RowTries text (Past b) r p x q = ⊥

-- rule r at p tries rule x at q
abbrev pub Tries : List ℕ → ℕ → ℕ → ℕ → ℕ → Type 0
Tries text r p x q = RowTries text (row_of r) r p x q

-- rule x is tried at q, where definitions are read from `start` on: the rule of definitions is tried there, and so is what a tried rule tries
pub data Tried (text : List ℕ) (start : ℕ) : ℕ → ℕ → Type 0 where
  at_first : {x q : ℕ} → SameAttempt DEFINITIONS start x q → Tried text start x q
  by : {r p x q : ℕ} → Tried text start r p → Tries text r p x q → Tried text start x q

-- rule x is tried at q, where rule r is read at p: by itself, or by what it tries
pub data Leads (text : List ℕ) (x q : ℕ) : ℕ → ℕ → Type 0 where
  itself : {r p : ℕ} → SameAttempt r p x q → Leads text x q r p
  on : {r p y z : ℕ} → Tries text r p y z → Leads text x q y z → Leads text x q r p

-- all that is tried where rule r is read at p is tried at p
abbrev pub TriesHere : List ℕ → ℕ → ℕ → Type 0
TriesHere text r p = (x q : ℕ) → Leads text x q r p → q ≡ p

-- the row names no other rule
abbrev pub has_no_parts : Row → Bool
has_no_parts (Bytes b) = true
has_no_parts (OneOf c) = true
has_no_parts (NotNext c) = true
has_no_parts (Run c) = true
has_no_parts (Past b) = true
has_no_parts _ = false

-- rule r has no parts, is tried at p, and fails there
pub record IsUnmet (text : List ℕ) (start r p : ℕ) : Type 0 where
  pub plain : has_no_parts (row_of r) ≡ true
  pub tried : Tried text start r p
  pub fails : FailsAt text r p
