-- Words that compare as equal are one, and the words for rules are each there once.
use Rattle.std.proofs.Common.{◌≡◌, ◌≢◌, ℕ, ◌<◌, List, [], ◌∷◌, ◌++◌, length, map, get_or, true, false, Option, Some, None, Result, Ok, Err, refl, sym, ap, ◌∙◌, subst, arith}
use Rattle.std.specs.Prelude.{is_ok, is_some, if◌then◌else◌}
use Rattle.std.specs.List.{AllPairs, Contains, filter_map, list_any}
use Rattle.std.proofs.lemmas.List.{get_or-map, get_or_default, length-map, map-append}
use Rattle.std.proofs.lemmas.List.Folds.{Any-from_list_any, list_any-from_Any}
use Rattle.std.proofs.lemmas.Slice.Eq.{bytes_eq-Decides}
use Rattle.weedle_grammar.specs.declared.class.Class.{Class}
use Rattle.weedle_grammar.specs.declared.class.Class.TheVariants as class
use Rattle.weedle_refusal.proofs.OnceFacts.{once_differ, once_from, once_to, given, giver}
use Rattle.weedle_refusal.proofs.TableFacts.{some_word, word_said}
use Rattle.weedle_refusal.specs.contracts.expected.ExpectedPartialEq.TheImpl.{ghosts}
use Rattle.weedle_refusal.specs.Words.{AreSound, AreWordsIn, IsEachOnce, IsSaid, Word, this_text, one_of, again, anew, has_word, word_for, word_view}
use Rattle.weedle_refusal.specs.declared.expected.Expected.{Expected}
use Rattle.weedle_refusal.specs.declared.expected.Expected.TheVariants as word
use Rattle.weedle_syntax.specs.declared.dialect.Dialect.{Dialect}

differ : false ≡ true → ⊥
differ e = cc

some_is : (o : Option Word) → is_some o ≡ true → (v : Word) × (o ≡ Some v)
some_is None h = cc
some_is (Some v) h = (v, refl)

-- classes that compare as equal are one
same_class : (c d : Class) → ghosts.eq (word.OneOf c) (word.OneOf d) ≡ true → c ≡ d
same_class class.Blank class.Blank e = refl
same_class class.Blank d e = absurd (differ e)
same_class class.Digit class.Digit e = refl
same_class class.Digit d e = absurd (differ e)
same_class class.OneToNine class.OneToNine e = refl
same_class class.OneToNine d e = absurd (differ e)
same_class class.Octal class.Octal e = refl
same_class class.Octal d e = absurd (differ e)
same_class class.Hex class.Hex e = refl
same_class class.Hex d e = absurd (differ e)
same_class class.Alnum class.Alnum e = refl
same_class class.Alnum d e = absurd (differ e)
same_class class.Name class.Name e = refl
same_class class.Name d e = absurd (differ e)
same_class class.Slash class.Slash e = refl
same_class class.Slash d e = absurd (differ e)
same_class class.XLetter class.XLetter e = refl
same_class class.XLetter d e = absurd (differ e)
same_class class.ELetter class.ELetter e = refl
same_class class.ELetter d e = absurd (differ e)
same_class class.Sign class.Sign e = refl
same_class class.Sign d e = absurd (differ e)
same_class class.NotQuote class.NotQuote e = refl
same_class class.NotQuote d e = absurd (differ e)
same_class class.Letter class.Letter e = refl
same_class class.Letter d e = absurd (differ e)
same_class class.NotLineFeed class.NotLineFeed e = refl
same_class class.NotLineFeed d e = absurd (differ e)
same_class class.Any class.Any e = refl
same_class class.Any d e = absurd (differ e)

-- words that compare as equal are one
same_word : (y w : Expected) → ghosts.eq y w ≡ true → word_view y ≡ word_view w
same_word word.Type word.Type e = refl
same_word word.Type w e = absurd (differ e)
same_word word.Value word.Value e = refl
same_word word.Value w e = absurd (differ e)
same_word word.Name word.Name e = refl
same_word word.Name w e = absurd (differ e)
same_word word.EndOfWord word.EndOfWord e = refl
same_word word.EndOfWord w e = absurd (differ e)
same_word word.NoDocstring word.NoDocstring e = refl
same_word word.NoDocstring w e = absurd (differ e)
same_word word.EndOfComment word.EndOfComment e = refl
same_word word.EndOfComment w e = absurd (differ e)
same_word word.EndOfLine word.EndOfLine e = refl
same_word word.EndOfLine w e = absurd (differ e)
same_word word.EndOfText word.EndOfText e = refl
same_word word.EndOfText w e = absurd (differ e)
same_word (word.Text t) (word.Text u) e = ap this_text ((bytes_eq-Decides t.now u.now).0 e)
same_word (word.Text t) w e = absurd (differ e)
same_word (word.OneOf c) (word.OneOf d) e = ap one_of (same_class c d e)
same_word (word.OneOf c) w e = absurd (differ e)

-- a class compares as equal to itself
class_itself : (c : Class) → ghosts.eq (word.OneOf c) (word.OneOf c) ≡ true
class_itself class.Blank = refl
class_itself class.Digit = refl
class_itself class.OneToNine = refl
class_itself class.Octal = refl
class_itself class.Hex = refl
class_itself class.Alnum = refl
class_itself class.Name = refl
class_itself class.Slash = refl
class_itself class.XLetter = refl
class_itself class.ELetter = refl
class_itself class.Sign = refl
class_itself class.NotQuote = refl
class_itself class.Letter = refl
class_itself class.NotLineFeed = refl
class_itself class.Any = refl

-- words that are one compare as equal
equal_word : (y w : Expected) → word_view y ≡ word_view w → ghosts.eq y w ≡ true
equal_word word.Type word.Type e = refl
equal_word word.Type w e = cc
equal_word word.Value word.Value e = refl
equal_word word.Value w e = cc
equal_word word.Name word.Name e = refl
equal_word word.Name w e = cc
equal_word word.EndOfWord word.EndOfWord e = refl
equal_word word.EndOfWord w e = cc
equal_word word.NoDocstring word.NoDocstring e = refl
equal_word word.NoDocstring w e = cc
equal_word word.EndOfComment word.EndOfComment e = refl
equal_word word.EndOfComment w e = cc
equal_word word.EndOfLine word.EndOfLine e = refl
equal_word word.EndOfLine w e = cc
equal_word word.EndOfText word.EndOfText e = refl
equal_word word.EndOfText w e = cc
equal_word (word.Text t) (word.Text u) e = let q : t.now ≡ u.now = cc in (bytes_eq-Decides t.now u.now).1 q
equal_word (word.Text t) w e = cc
equal_word (word.OneOf c) (word.OneOf d) e = let q : c ≡ d = cc in subst (λ z. ghosts.eq (word.OneOf c) (word.OneOf z) ≡ true) q (class_itself c)
equal_word (word.OneOf c) w e = cc

-- the word is among the words
found : (words : List Expected) (w : Expected) → list_any (λ y. ghosts.eq y w) words ≡ true → Contains (map word_view words) (word_view w)
found words w e =
    let any = Any-from_list_any (λ y. ghosts.eq y w) words e in
    let within : any.0 < length (map word_view words) = omega (arith, length-map words word_view, any.2) in
    (any.0, within, get_or-map word_view words any.0 any.1 (word_view w) any.2 ∙ ap word_view any.3 ∙ same_word any.1 w any.4)

-- the word is not among the words
lacking : (words : List Expected) (w : Expected) → list_any (λ y. ghosts.eq y w) words ≡ false → ¬ Contains (map word_view words) (word_view w)
lacking words w e c =
    let k = c.0 in
    let within : k < length words = omega (arith, length-map words word_view, c.1) in
    let it = get_or words k w in
    let same : word_view it ≡ word_view w = sym (get_or-map word_view words k w (word_view w) within) ∙ c.2 in
    let P : Expected → Type 0 = λ y. ghosts.eq y w ≡ true in
    differ (sym e ∙ list_any-from_Any (λ y. ghosts.eq y w) words (k, it, within, get_or_default words k it w within, equal_word it w same))

module _ (dialect : Dialect) (rules : List ℕ) (r : ℕ) (old : List Expected) (w : Expected) (is : Some (word_view w) ≡ word_for dialect rules r) (before : List Word) (once : IsEachOnce before (map word_view old)) where
  -- a word that is there stays
  pub there : list_any (λ y. ghosts.eq y w) old ≡ true → IsEachOnce (before ++ filter_map (word_for dialect rules) (r ∷ [])) (map word_view old)
  there e = rw (← is) (again once (found old w e))

  -- one that isn't there is pushed
  pub pushed : {T E : Type 0} (done : Result T E) (new : List Expected) {v : T} → list_any (λ y. ghosts.eq y w) old ≡ false → new ≡ (if is_ok done then old ++ w ∷ [] else old) → done ≡ Ok v
      → IsEachOnce (before ++ filter_map (word_for dialect rules) (r ∷ [])) (map word_view new)
  pushed (Ok u) new e n d = rw (← is, n, map-append) (anew once (lacking old w e))
  pushed (Err u) new e n d = cc

-- from the words of all rules, what is said of them
module _ (dialect : Dialect) (rules : List ℕ) (words : List Expected) (once : IsEachOnce (filter_map (word_for dialect rules) rules) (map word_view words)) where
  -- an element of the words, by its place
  element : (k : ℕ) (d : Expected) → k < length words → Contains (map word_view words) (word_view (get_or words k d))
  element k d l =
      let within : k < length (map word_view words) = omega (arith, length-map words word_view) in
      (k, within, get_or-map word_view words k d _ l)

  apart : AllPairs (λ v w. word_view v ≢ word_view w) words
  apart i j d before within same =
      let m : j < length (map word_view words) = omega (arith, length-map words word_view) in
      let first : i < length words = omega arith in
      once_differ once i j (word_view d) before m (get_or-map word_view words i d (word_view d) first ∙ same ∙ sym (get_or-map word_view words j d (word_view d) within))

  sound : AreSound dialect rules words
  sound k d l =
      let w = get_or words k d in
      let from = giver (word_for dialect rules) rules (word_view w) (once_from once (word_view w) (element k d l)) in
      let is : is_some (word_for dialect rules from.0) ≡ true = ap is_some from.2 in
      (from.0, from.1, word_said dialect rules from.0 is, from.2)

  complete : (r : ℕ) → Contains rules r → has_word r ≡ true → IsSaid dialect rules words r
  complete r among may =
      let v = some_is (word_for dialect rules r) (some_word dialect rules r may) in
      let c = once_to once v.0 (given (word_for dialect rules) rules r v.0 among v.1) in
      let within : c.0 < length words = omega (arith, length-map words word_view, c.1) in
      let w = get_or words c.0 word.Type in
      let same : word_view w ≡ v.0 = sym (get_or-map word_view words c.0 word.Type v.0 within) ∙ c.2 in
      (c.0, w, within, get_or_default words c.0 w word.Type within, v.1 ∙ ap Some (sym same))

  pub are_words : AreWordsIn dialect rules words
  are_words = record { are = once; once = apart; sound = sound; complete = complete }
