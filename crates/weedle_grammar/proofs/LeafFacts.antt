-- What rules without parts take at the front of a text.
use Rattle.std.proofs.Common.{refl, ap, ◌∙◌, arith}
use Rattle.std.proofs.lemmas.Str.{IsCharBoundary-start}
use Rattle.std.specs.Prelude.{◌≡◌, ℕ, List, [], ◌++◌, true, false, length, Option, Some, None}
use Rattle.std.specs.Str.{IsCharBoundary, IsUtf8}
use Rattle.std.specs.Str.Pattern.{LacksTextAt}
use Rattle.weedle_grammar.proofs.RowFacts.{of_row}
use Rattle.weedle_grammar.proofs.GrammarFacts.{at_boundary}
use Rattle.weedle_grammar.proofs.FirstPlace.{begins_with, begins_yes, not_true}
use Rattle.weedle_grammar.specs.Meaning.{Silent, leaf, ReadsRow, by_bytes, by_one, by_not_next, by_run, by_past}
use Rattle.weedle_grammar.specs.Rows.{Row, Bytes, OneOf, NotNext, Run, Past, begins, take_bytes, take_one, take_not_next, take_past, run_length}
use Rattle.weedle_grammar.specs.written.Table.{webidl, row_of, shape_of, Reads}
use Rattle.weedle_grammar.specs.Trees.{Tree, Outcome, Fails, Gives}
use Rattle.weedle_grammar.specs.declared.class.Class.{Class}

-- the outcome of a silent rule that takes so many bytes
abbrev pub silent : Option ℕ → Outcome
silent None = Fails
silent (Some k) = Gives [] k

module _ {s : List ℕ} {r : ℕ} where
  silent_leaf : {row : Row} (o : Option ℕ) → row_of r ≡ row → shape_of r ≡ Silent → ReadsRow webidl s row 0 (leaf 0 o)
      → Reads s r 0 (silent o)
  silent_leaf None row shape d = of_row row d refl
  silent_leaf (Some k) row shape d = of_row row d (rw shape (ap (λ (n : ℕ). Gives [] n) (omega arith)))

  -- a silent rule of these bytes
  pub reads_bytes : {b : List ℕ} → row_of r ≡ Bytes b → shape_of r ≡ Silent → Reads s r 0 (silent (take_bytes b s))
  reads_bytes row shape = silent_leaf _ row shape (by_bytes refl)

  -- a silent rule of one byte of a class
  pub reads_one : {c : Class} → row_of r ≡ OneOf c → shape_of r ≡ Silent → Reads s r 0 (silent (take_one c s))
  reads_one row shape = silent_leaf _ row shape (by_one refl)

  -- a silent rule that no byte of a class is next
  pub reads_not_next : {c : Class} → row_of r ≡ NotNext c → shape_of r ≡ Silent → Reads s r 0 (silent (take_not_next c s))
  reads_not_next row shape = silent_leaf _ row shape (by_not_next refl)

  -- a silent rule of all bytes of a class
  pub reads_run : {c : Class} → row_of r ≡ Run c → shape_of r ≡ Silent → Reads s r 0 (silent (Some (run_length c s)))
  reads_run {c} row shape = silent_leaf (Some (run_length c s)) row shape (by_run refl)

  -- a silent rule of everything past these bytes
  pub reads_past : {b : List ℕ} → row_of r ≡ Past b → shape_of r ≡ Silent → Reads s r 0 (silent (take_past b s))
  reads_past row shape = silent_leaf _ row shape (by_past refl)

-- a text may be cut where a rule ends
pub cut : {s : List ℕ} {r k : ℕ} {ts : List Tree} → IsUtf8 s → Reads s r 0 (Gives ts k) → IsCharBoundary s k
cut {s} {r} {k} {ts} u d = at_boundary s r 0 u (IsCharBoundary-start s u) ts k d

-- a text that lacks b doesn't begin with b
pub begins_no : (b s : List ℕ) → LacksTextAt b s 0 → begins b s ≡ false
begins_no b s n = not_true (begins b s) (λ h. let m = begins_with b s h in n m.0 m.1)

-- where the text lacks b, b isn't taken
pub takes_none : (b s : List ℕ) → LacksTextAt b s 0 → take_bytes b s ≡ None
takes_none b s n = rw (begins_no b s n) refl

-- where the text is b and a rest, b is taken
pub takes_some : (b s rest : List ℕ) → s ≡ b ++ rest → take_bytes b s ≡ Some (length b)
takes_some b s rest e = let h : begins b s ≡ true = ap (λ (t : List ℕ). begins b t) e ∙ begins_yes b rest in rw h refl
