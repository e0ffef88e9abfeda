-- What is known of a text while it is read.
use Rattle.std.specs.Prelude.{◌≡◌, ◌≤◌, ◌<◌, ℕ, List, [], length, Option, None, All, ◌⊎◌}
use Rattle.std.proofs.Common.{get_or}
use Rattle.weedle_grammar.specs.written.Bound.{rule_count, table_count}
use Rattle.weedle_rules.specs.Cells.{HasEnd}
use Rattle.weedle_memo.specs.Tables.{Lacks}
use Rattle.weedle_memo.specs.declared.frame.Look.{Look}
use Rattle.weedle_memo.specs.declared.frame.Look.TheVariants.{Known, Unknown}

-- a rule that was worked out at a place, and its end there
pub record MemoEntry : Type 0 where
  pub rule : ℕ
  pub place : ℕ
  pub end : Option ℕ

-- the entry of a rule at a place
abbrev pub entry_at : ℕ → ℕ → Option ℕ → MemoEntry
entry_at r p o = record { rule = r; place = p; end = o }

-- the rule that is read, and the place where it is read
pub record Start : Type 0 where
  pub rule : ℕ
  pub place : ℕ

abbrev pub start_at : ℕ → ℕ → Start
start_at r p = record { rule = r; place = p }

-- a reading as contracts see it: the text, what is read of it and where, what is known, and how many looks that took
pub record Reading : Type 0 where
  pub text : List ℕ
  pub start : Start
  -- the words of the rules: the bytes at which each isn't passed over
  pub words : List ℕ
  pub known : List MemoEntry
  pub reads : ℕ
  pub most : ℕ

-- an entry is right
pub record IsRight (text : List ℕ) (note : MemoEntry) : Type 0 where
  pub low : note.rule < rule_count
  pub within : note.place ≤ length text
  pub right : HasEnd text note.rule note.place note.end

abbrev pub AreRight : List ℕ → List MemoEntry → Type 0
AreRight text known = (i : ℕ) (d : MemoEntry) → i < length known → IsRight text (get_or known i d)

-- where the rule that is read is one of weedle2's, rule r is one too
pub record IsOwn (first r : ℕ) : Type 0 where
  pub stays : first < table_count → r < table_count

-- the same of all entries
abbrev pub AreOwn : ℕ → List MemoEntry → Type 0
AreOwn first known = (i : ℕ) (d : MemoEntry) → i < length known → IsOwn first (get_or known i d).rule

-- nothing is known of rule r at place p
abbrev pub Absent : List MemoEntry → ℕ → ℕ → Type 0
Absent known r p = (i : ℕ) (d : MemoEntry) → i < length known → (get_or known i d).rule ≡ r → (get_or known i d).place ≡ p → ⊥

-- no two entries are of one rule at one place
abbrev pub AreDistinct : List MemoEntry → Type 0
AreDistinct known = (i j : ℕ) (d : MemoEntry) → i < j → j < length known → (get_or known i d).rule ≡ (get_or known j d).rule → (get_or known i d).place ≡ (get_or known j d).place → ⊥

-- what a look says
abbrev pub IsLook : List ℕ → List MemoEntry → ℕ → ℕ → Look → Type 0
IsLook text known r p (Known e) = HasEnd text r p e
IsLook text known r p Unknown = Absent known r p

-- nothing is known of the text
pub record IsUnread (r : Reading) (text words : List ℕ) (start : Start) : Type 0 where
  pub text_is : r.text ≡ text
  pub start_is : r.start ≡ start
  pub words_are : r.words ≡ words
  pub none : r.known ≡ []

-- an answer is right, or it is None, the byte at the place says nothing, and nothing is known
abbrev pub IsAsked : List ℕ → List ℕ → List MemoEntry → ℕ → ℕ → Option ℕ → Type 0
IsAsked words text known r p e = HasEnd text r p e ⊎ ((e ≡ None) × Absent known r p × (Lacks words text r p → ⊥))
