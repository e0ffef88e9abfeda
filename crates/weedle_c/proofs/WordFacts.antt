-- Words behind one another.
use Rattle.std.proofs.Common.{◌≡◌, ◌∙◌, ◌<◌, ◌+◌, ℕ, List, [], ◌∷◌, ◌++◌, length, take, get_or, sym, ap, append_assoc, append-nil}
use Rattle.std.proofs.Math.Seq.{take-length}
use Rattle.std.proofs.lemmas.List.{take_more}
use Rattle.weedle_c.specs.Expectations.{AreLonger, ArePut, AreWritten, IsExpectedOfPartIn, words_bytes}
use Rattle.weedle_c.specs.Parts.{part_of}
use Rattle.weedle_c.specs.declared.part.WeedlePart.{WeedlePart}
use Rattle.weedle_c.specs.declared.words.WeedleExpected.{WeedleExpected}
use Rattle.weedle_recovery.specs.Refusals.{IsPartRefusalIn}
use Rattle.weedle_refusal.specs.Texts.{word_text}
use Rattle.weedle_refusal.specs.declared.expected.Expected.{Expected}
use Rattle.weedle_refusal.specs.declared.refusal.Refusal.{Refusal}
use Rattle.weedle_syntax.specs.declared.dialect.Dialect.{Dialect}

-- a text has the first i words
pub record HasWords (words : List Expected) (text : List ℕ) (i : ℕ) : Type 0 where
  pub is : text ≡ words_bytes (take i words)

-- a word behind others
words_behind : (words : List Expected) (word : Expected) → words_bytes (words ++ word ∷ []) ≡ words_bytes words ++ (word_text word ++ (0 ∷ []))
words_behind [] word = append-nil (word_text word ++ (0 ∷ []))
words_behind (first ∷ words) word =
    ap (λ bytes. (word_text first ++ (0 ∷ [])) ++ bytes) (words_behind words word) ∙ sym (append_assoc (word_text first ++ (0 ∷ [])) (words_bytes words) (word_text word ++ (0 ∷ [])))

pub words_none : (words : List Expected) (text : List ℕ) → text ≡ [] → HasWords words text 0
words_none words text e = record { is = e }

module _ {words : List Expected} {text : List ℕ} {i : ℕ} (h : HasWords words text i) where
  -- one more
  pub words_more : (other : Expected) (new : List ℕ) → i < length words → new ≡ text ++ (word_text (get_or words i other) ++ (0 ∷ [])) → HasWords words new (i + 1)
  words_more other new within more =
      let word = get_or words i other in
      record {
        is = more ∙ ap (λ bytes. bytes ++ (word_text word ++ (0 ∷ []))) h.is ∙ sym (words_behind (take i words) word)
            ∙ sym (ap words_bytes (take_more words i other within));
      }

-- all
pub words_all : {words : List Expected} {text : List ℕ} → HasWords words text (length words) → text ≡ words_bytes words
words_all {words} h = h.is ∙ ap words_bytes (take-length words)

-- what is said of the words and their place is said in other words
module _ {Are Be : List Expected → ℕ → Type 0} (other : (words : List Expected) (place : ℕ) → Are words place → Be words place) where
  pub written_as : {old new : List ℕ} {answer : WeedleExpected} → AreWritten Are old new answer → AreWritten Be old new answer
  written_as {answer = answer} w = record { words = w.words; are = other w.words answer.place w.are; counted = w.counted; written = w.written }

  pub longer_as : {room : ℕ} {answer : WeedleExpected} → AreLonger Are room answer → AreLonger Be room answer
  longer_as {answer = answer} w = record { words = w.words; are = other w.words answer.place w.are; counted = w.counted; more = w.more }

-- words that are expected where a part is read
pub expected_of_part : (d : Dialect) (text : List ℕ) (part : WeedlePart) (refusal : Refusal) (items : List Expected) → IsPartRefusalIn d text (part_of part) refusal
    → items ≡ refusal.expected.items → (words : List Expected) (place : ℕ) → ArePut items refusal.place words place → IsExpectedOfPartIn d text part words place
expected_of_part d text part refusal items is same words place (put, at) = (refusal, is, put ∙ same, at)
