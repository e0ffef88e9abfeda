-- What an answer says of the words for what would have been read.
use Rattle.std.specs.Prelude.{◌≡◌, ◌<◌, ◌+◌, ◌++◌, ℕ, List, [], ◌∷◌, length, drop}
use Rattle.weedle_c.specs.Parts.{part_of}
use Rattle.weedle_c.specs.declared.part.WeedlePart.{WeedlePart}
use Rattle.weedle_c.specs.declared.words.WeedleExpected.{WeedleExpected}
use Rattle.weedle_recovery.specs.Refusals.{IsPartRefusalIn}
use Rattle.weedle_refusal.specs.Furthest.{IsFurthestIn}
use Rattle.weedle_refusal.specs.Texts.{word_text}
use Rattle.weedle_refusal.specs.declared.expected.Expected.{Expected}
use Rattle.weedle_refusal.specs.declared.refusal.Refusal.{Refusal}
use Rattle.weedle_syntax.specs.declared.dialect.Dialect.{Dialect}
use Rattle.weedle_syntax.specs.declared.dialect.Dialect.TheVariants.{Weedle2}

-- the words one after another, with a zero behind each
abbrev pub words_bytes : List Expected → List ℕ
words_bytes [] = []
words_bytes (word ∷ words) = (word_text word ++ (0 ∷ [])) ++ words_bytes words

-- these words are expected at a place
abbrev pub ArePut : List Expected → ℕ → List Expected → ℕ → Type 0
ArePut expected at words place = (words ≡ expected) × (place ≡ at)

-- these are the words for what is unmet at the furthest place to which the dialect's rules read definitions from a place on
abbrev pub IsExpectedFromIn : Dialect → List ℕ → ℕ → List Expected → ℕ → Type 0
IsExpectedFromIn dialect text start words place = (furthest : ℕ) × IsFurthestIn dialect (drop start text) furthest words × (place ≡ start + furthest)

-- these are the words that are expected where an unread part is read by the dialect's rules
abbrev pub IsExpectedOfPartIn : Dialect → List ℕ → WeedlePart → List Expected → ℕ → Type 0
IsExpectedOfPartIn dialect text part words place = (refusal : Refusal) × IsPartRefusalIn dialect text (part_of part) refusal × (words ≡ refusal.expected.items) × (place ≡ refusal.place)

-- these by weedle2's rules
abbrev pub IsExpectedFrom : List ℕ → ℕ → List Expected → ℕ → Type 0
IsExpectedFrom text start words place = IsExpectedFromIn Weedle2 text start words place

abbrev pub IsExpectedOfPart : List ℕ → WeedlePart → List Expected → ℕ → Type 0
IsExpectedOfPart text part words place = IsExpectedOfPartIn Weedle2 text part words place

-- the answer has the number of these words, of their bytes, and their place
pub record IsCountOf (words : List Expected) (answer : WeedleExpected) : Type 0 where
  pub count : answer.count ≡ length words
  pub bytes : answer.length ≡ length (words_bytes words)

-- the words are at the front of the room, and behind them is what was there
pub record AreWritten (Are : List Expected → ℕ → Type 0) (old new : List ℕ) (answer : WeedleExpected) : Type 0 where
  pub words : List Expected
  pub are : Are words answer.place
  pub counted : IsCountOf words answer
  pub written : new ≡ words_bytes words ++ drop (length (words_bytes words)) old

-- they are longer than there is room for
pub record AreLonger (Are : List Expected → ℕ → Type 0) (room : ℕ) (answer : WeedleExpected) : Type 0 where
  pub words : List Expected
  pub are : Are words answer.place
  pub counted : IsCountOf words answer
  pub more : room < length (words_bytes words)

-- no word is counted
pub record IsNone (answer : WeedleExpected) : Type 0 where
  pub count : answer.count ≡ 0
  pub bytes : answer.length ≡ 0
