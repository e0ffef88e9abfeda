-- Symbols and keywords.
use Rattle.std.proofs.Common.{refl, subst}
use Rattle.std.specs.Borrow.{Bor}
use Rattle.std.specs.Prelude.{◌≡◌, ℕ, List, [], ◌∷◌, ◌++◌, Bool, true, false, None}
use Rattle.std.specs.Str.{IsUtf8}
use Rattle.std.specs.Str.Pattern.{LacksTextAt, FindsTextPrefix, StripsPrefix}
use Rattle.weedle_base.proofs.FaultFacts.{fault_mismatch, fault_memory}
use Rattle.weedle_grammar.proofs.LeafFacts.{reads_bytes, cut}
use Rattle.weedle_grammar.proofs.FirstPlace.{begins_with}
use Rattle.weedle_base.proofs.PlaceFacts.{suffix_self}
use Rattle.weedle_grammar.proofs.SilentRules.{along, last, lost, marked_seq}
use Rattle.weedle_grammar.proofs.TriviaFacts.{given}
use Rattle.weedle_grammar.proofs.WordFacts.{word_lacks, word_took, word_split, look_fails, look_took}
use Rattle.weedle_base.specs.Faults.{IsMismatch, IsOutOfMemory}
use Rattle.weedle_base.specs.Own.{own}
use Rattle.weedle_base.specs.Reading.{Got, Faults}
use Rattle.weedle_base.specs.Names.{IsTagged, LacksTag}
use Rattle.weedle_base.specs.Tokens.{IsSymbol, IsKeyword, core}
use Rattle.weedle_grammar.specs.Trivia.{Took, is_next}
use Rattle.weedle_base.specs.declared.fault.Err.{Err as Fault}
use Rattle.weedle_base.specs.declared.fault.Error.{Error}
use Rattle.weedle_grammar.proofs.Suffix.{fails, no_node}
use Rattle.weedle_grammar.specs.Rows.{begins}
use Rattle.weedle_grammar.specs.written.Table.{Reads}
use Rattle.weedle_grammar.specs.written.Table.Keywords.{NOT_NEXT_NAME}
use Rattle.weedle_grammar.specs.written.Table.Trivia.{TRIVIA}
use Rattle.weedle_grammar.specs.Trees.{Tree, Mark, Fails, Gives}
use Rattle.weedle_grammar.specs.declared.class.Class.TheVariants.{Name}

module _ {V : Type 0} {r : ℕ} (tree : V → Tree) (grows : Type 0) {s : List ℕ} where
  -- what the rule took is what the type with the rule reads
  pub got_own : {ts : List Tree} (v : V) {rest : List ℕ} → Took r s ts rest → ts ≡ tree v ∷ [] → IsUtf8 s → IsUtf8 rest
      → Got (own r tree grows) s v rest
  unfolding own
  got_own v h e u t = record {
    place = h.place;
    gives = subst (λ (x : List Tree). Reads s r 0 (Gives x h.place)) e h.reads;
    within = (cut u h.reads).0;
    rest_is = h.rest_is;
    text = t;
  }

  -- where the rule fails, a mismatch at the start of the text
  pub fault_own : {e : Fault (Error (Bor (List ℕ)))} → Reads s r 0 Fails → IsUtf8 s → IsMismatch s e → Faults (own r tree grows) s e
  unfolding own
  fault_own d u m = fault_mismatch (own r tree grows) m d (suffix_self s u)

-- a type that asks for memory may stop at the start of the text
pub fault_full : {V : Type 0} (r : ℕ) (tree : V → Tree) {s : List ℕ} {e : Fault (Error (Bor (List ℕ)))} → IsUtf8 s → IsOutOfMemory s e
    → Faults (own r tree (Unit {0})) s e
unfolding own
fault_full r tree {s} u m = fault_memory (own r tree (Unit {0})) m (tt, refl, suffix_self s u)

-- A symbol: trivia, its bytes, trivia.
module _ {r : ℕ} {b s start : List ℕ} (a : Took TRIVIA s [] start) (is : IsSymbol r b) where
  -- without its bytes behind the trivia there is no symbol
  pub symbol_lacks : LacksTextAt b start 0 → Reads s r 0 Fails
  symbol_lacks n = no_node is.0 (lost a (fails (word_lacks (core r) (is.2, is.3) n)))

  -- with them there is
  pub symbol_reads : {after rest : List ℕ} → StripsPrefix (FindsTextPrefix b) start after → Took TRIVIA after [] rest
      → Took r s (Mark ∷ []) rest
  symbol_reads h z = marked_seq is.0 is.1 (along a (along (word_took (core r) (is.2, is.3) h) (last z)))

-- A keyword: trivia, its bytes with no name character behind them, trivia.
module _ {r : ℕ} {b s start : List ℕ} (a : Took TRIVIA s [] start) (is : IsKeyword r b) where
  no_bytes : begins b start ≡ false → Reads s r 0 Fails
  no_bytes e = no_node is.0 (lost a (fails (given {n = None} (reads_bytes is.2 is.3) (rw e refl))))

  name_goes_on : (after : List ℕ) → start ≡ b ++ after → is_next Name after ≡ true → Reads s r 0 Fails
  name_goes_on after split e =
      no_node is.0 (lost a (lost (word_split (core r) (is.2, is.3) split) (fails (look_fails NOT_NEXT_NAME refl refl e))))

  -- without its bytes behind the trivia, or with a name character behind them, there is no keyword
  pub keyword_lacks : LacksTag b start → Reads s r 0 Fails
  keyword_lacks lacks = go (begins b start) refl
    where
      no_tag : (rest : List ℕ) → start ≡ b ++ rest → (x : Bool) → is_next Name rest ≡ x → Reads s r 0 Fails
      no_tag rest split true e = name_goes_on rest split e
      no_tag rest split false e = absurd (lacks rest (record { split = split; ends = e }))

      go : (x : Bool) → begins b start ≡ x → Reads s r 0 Fails
      go true e = let m = begins_with b start e in no_tag m.0 m.1 (is_next Name m.0) refl
      go false e = no_bytes e

  -- with them, and none, there is
  pub keyword_reads : {after rest : List ℕ} → IsTagged b start after → Took TRIVIA after [] rest → Took r s (Mark ∷ []) rest
  keyword_reads tagged z =
      marked_seq is.0 is.1
      (along a (along (word_split (core r) (is.2, is.3) tagged.split) (along (look_took NOT_NEXT_NAME refl refl tagged.ends) (last z))))
