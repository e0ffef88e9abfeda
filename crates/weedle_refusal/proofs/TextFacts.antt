-- Texts in a row, from one of them on.
use Rattle.std.proofs.Common.{◌≡◌, ◌≢◌, ◌∙◌, inl, inr, ℕ, zero, suc, ◌+◌, ◌-◌, ◌<◌, ◌≤◌, min, Bool, true, false, cond, eqb, leb, List, [], ◌∷◌, ◌++◌, length, map, take, drop, get_or, refl, sym, ap, arith, append-nil, append_assoc, add-one, length-append, length-drop, eqb-true, le-leb}
use Rattle.std.specs.Prelude.{codes, decimal, ◌&&◌}
use Rattle.std.proofs.Math.Dec.{eqb-suc-zero}
use Rattle.std.proofs.Math.Seq.{drop-append_seam, drop-cons}
use Rattle.std.proofs.lemmas.Bool.{cases_lt, eqb-false, lt-leb}
use Rattle.std.proofs.lemmas.List.{get_or-map, get_or_append_left, length-map, length-take-le, nil_from_length, take-map, take_all}
use Rattle.weedle_refusal.specs.Texts.{at_most_six, behind_first, in_a_row, word_text}
use Rattle.weedle_refusal.specs.declared.expected.Expected.{Expected}

-- the text from text i on, and what is in front of it
abbrev pub from : ℕ → List (List ℕ) → List ℕ
from zero texts = in_a_row texts
from (suc i) texts = behind_first texts

-- what is in front of text i, which is the last or isn't
abbrev pub between : ℕ → Bool → List ℕ
between i last = cond (eqb i 0) [] (cond last (codes " or ") (codes ", "))

-- what is said of the texts that aren't shown
abbrev pub unshown : ℕ → List (List ℕ)
unshown zero = []
unshown (suc n) = (decimal (suc n) ++ codes " more") ∷ []

-- the same behind the last text that is shown
abbrev pub end : ℕ → List ℕ
end zero = []
end (suc n) = codes " or " ++ (decimal (suc n) ++ codes " more")

-- the first of the texts from i on
step : (i : ℕ) (last : Bool) (text : List ℕ) (texts : List (List ℕ)) → (last ≡ true → texts ≡ []) → (last ≡ false → texts ≢ [])
    → from i (text ∷ texts) ≡ between i last ++ (text ++ behind_first texts)
step zero last text texts none some = refl
step (suc i) true text [] none some = rw (eqb-suc-zero i, append-nil) refl
step (suc i) true text (next ∷ texts) none some = let e : next ∷ texts ≡ [] = none refl in cc
step (suc i) false text [] none some = absurd (some refl refl)
step (suc i) false text (next ∷ texts) none some = rw (eqb-suc-zero i) refl

-- text i is the last exactly where no other one is shown and none isn't
is_last : (i n more : ℕ) (texts : List (List ℕ)) → length texts ≡ n + length (unshown more) → i < n
    → ((eqb more 0 && eqb (i + 1) n ≡ true) → drop (suc i) texts ≡ []) × ((eqb more 0 && eqb (i + 1) n ≡ false) → drop (suc i) texts ≢ [])
is_last i n zero texts long low = (
  λ is. (let e : i + 1 ≡ n = eqb-true _ _ is in nil_from_length (drop (suc i) texts) (omega (arith, length-drop (suc i) texts))),
  λ not none. (let e : length (drop (suc i) texts) ≡ 0 = ap length none in eqb-false _ _ not (omega (arith, length-drop (suc i) texts))),
)
is_last i n (suc m) texts long low = (
  λ is. (let e = rw (eqb-suc-zero m) at is in cc),
  λ not none. (let e : length (drop (suc i) texts) ≡ 0 = ap length none in omega (arith, length-drop (suc i) texts)),
)

last_said : (i more : ℕ) → (more ≢ 0 → i ≢ 0) → from i (unshown more) ≡ end more
last_said zero zero some = refl
last_said (suc i) zero some = refl
last_said zero (suc n) some = absurd (let ne : suc n ≢ 0 = omega arith in some ne refl)
last_said (suc i) (suc n) some = refl

module _ (words : List Expected) (more : ℕ) where
  long : length (map word_text words ++ unshown more) ≡ length words + length (unshown more)
  long = length-append (map word_text words) (unshown more) ∙ ap (λ n. n + length (unshown more)) (length-map words word_text)

  -- from word i on is what is between, the word, and what is from the next one on
  pub from_word : (i n : ℕ) (d : Expected) → i < n → n ≡ length words
      → from i (drop i (map word_text words ++ unshown more))
      ≡ between i (eqb more 0 && eqb (i + 1) n) ++ (word_text (get_or words i d) ++ from (i + 1) (drop (i + 1) (map word_text words ++ unshown more)))
  from_word i n d low e =
      let all : List (List ℕ) = map word_text words ++ unshown more in
      let mapped : i < length (map word_text words) = omega (arith, length-map words word_text) in
      let within : i < length all = omega (arith, long) in
      let first : drop i all ≡ get_or all i [] ∷ drop (suc i) all = drop-cons all i [] within in
      let is : get_or all i [] ≡ word_text (get_or words i d) = get_or_append_left (map word_text words) (unshown more) [] i mapped ∙ get_or-map word_text words i d [] (omega arith) in
      let ends = is_last i n more all (rw e long) low in
      let next : from (i + 1) (drop (i + 1) all) ≡ behind_first (drop (suc i) all) = rw add-one refl in
      rw (first, is, next) (step i _ _ _ ends.0 ends.1)

  -- behind the last word is how many more there are
  pub from_end : (i : ℕ) → i ≡ length words → (more ≢ 0 → i ≢ 0) → from i (drop i (map word_text words ++ unshown more)) ≡ end more
  from_end i e some =
      let n : length (map word_text words) ≡ i = length-map words word_text ∙ sym e in
      let rest : drop i (map word_text words ++ unshown more) ≡ unshown more = ap (λ k. drop k (map word_text words ++ unshown more)) (sym n) ∙ drop-append_seam (map word_text words) (unshown more) in
      rw rest (last_said i more some)

-- all words, and how many more there are, where six are shown at most
pub words_are : (words : List Expected) (shown more : ℕ) → shown ≡ min (length words) 6 → more ≡ length words - shown
    → map word_text (take shown words) ++ unshown more ≡ at_most_six (map word_text words)
words_are words shown more e m = elim (cases_lt 6 (length words)) [
  | inl l ↦
      let six : shown ≡ 6 = omega arith in
      let many : more ≡ suc (length words - 7) = omega arith in
      let long : length (map word_text words) ≡ length words = length-map words word_text in
      let not_few : leb (length (map word_text words)) 6 ≡ false = lt-leb _ _ (omega (arith, long)) in
      let more_is : length (map word_text words) - 6 ≡ suc (length words - 7) = omega (arith, long) in
      rw (not_few, more_is, six, many, take-map) refl
  | inr l ↦
      let all : length words ≤ shown = omega arith in
      let no_more : more ≡ 0 = omega arith in
      let long : length (map word_text words) ≡ length words = length-map words word_text in
      let few : leb (length (map word_text words)) 6 ≡ true = le-leb _ _ (omega (arith, long)) in
      rw (few, no_more, take_all, append-nil) refl
]

-- what is written, a word and what is in front of it, and what is from the next word on
pub onward : (done between sep text rest whole old : List ℕ) → sep ≡ between → old ≡ between ++ (text ++ rest) → done ++ old ≡ whole → (done ++ (sep ++ text)) ++ rest ≡ whole
onward done between sep text rest whole old s e w = append_assoc done (sep ++ text) rest ∙ ap (λ t. done ++ t) (append_assoc sep text rest ∙ ap (λ t. t ++ (text ++ rest)) s ∙ sym e) ∙ w

pub end_none : (more : ℕ) → more ≡ 0 → end more ≡ []
end_none more e = ap end e

pub end_some : (more : ℕ) → 0 < more → end more ≡ codes " or " ++ (decimal more ++ codes " more")
end_some zero l = absurd (omega arith)
end_some (suc n) l = refl

-- behind the last word all is written but how many more there are
pub finished : (words : List Expected) (shown more i : ℕ) (done last : List ℕ) → shown ≡ min (length words) 6 → more ≡ length words - shown → i ≡ length (take shown words) → end more ≡ last
    → done ++ from i (drop i (map word_text (take shown words) ++ unshown more)) ≡ in_a_row (map word_text (take shown words) ++ unshown more)
    → done ++ last ≡ in_a_row (at_most_six (map word_text words))
finished words shown more i done last s m at behind whole =
    let taken : length (take shown words) ≡ shown = length-take-le shown words (omega arith) in
    let stop = from_end (take shown words) more i at (λ some none. omega arith) in
    ap (λ t. done ++ t) (sym behind ∙ sym stop) ∙ whole ∙ ap in_a_row (words_are words shown more s m)
