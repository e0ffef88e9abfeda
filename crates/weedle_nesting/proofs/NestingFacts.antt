-- How the most that are open at once follow from one mark to the next.
use Rattle.std.proofs.Common.{◌≡◌, ◌∙◌, inl, inr, ◌≤◌, ◌<◌, ◌+◌, ◌-◌, ℕ, Bool, true, false, List, [], ◌∷◌, length, max, Some, None, refl, ap, arith, if◌then◌else◌, ◌==◌, ◌||◌}
use Rattle.weedle_nesting.proofs.MarkFacts.{same}
use Rattle.weedle_nesting.specs.Bare.{bare_from, behind_words, Quotes, Words}
use Rattle.weedle_nesting.specs.Marks.{first_mark, is_bracket, is_mark}
use Rattle.weedle_nesting.specs.Nesting.{most_open_from, open_behind, opens_attributes, closes_attributes, opens_bracket, closes_bracket}
use Rattle.weedle_nesting.specs.declared.look.Level.{Level}

-- neither is true
neither : (a b : Bool) → (a || b) ≡ false → (a ≡ false) × (b ≡ false)
neither true b e = cc
neither false b e = (refl, e)

-- brackets alone open and close
pub record IsOfBrackets (opens closes : ℕ → Bool) : Type 0 where
  pub no : (b : ℕ) → is_bracket b ≡ false → (opens b ≡ false) × (closes b ≡ false)

module _ (opens closes : ℕ → Bool) where
  -- no fewer than are open before the text
  least : (depth : ℕ) (text : List ℕ) → depth ≤ most_open_from opens closes depth text
  least depth [] = omega arith
  least depth (b ∷ text) = omega arith

  -- so many bytes are left behind what was seen, and the most of the whole text are those so far, or those of the rest
  pub record IsSeen (total whole : ℕ) (rest : List ℕ) (level : Level) : Type 0 where
    pub few : level.depth + length rest ≤ total
    pub below : level.depth ≤ level.most
    pub most : max level.most (most_open_from opens closes level.depth (bare_from Words rest)) ≡ whole

  -- one more is open at most, and one byte less is left at least
  few_behind : (opening closing : Bool) (depth before behind total : ℕ) → depth + before ≤ total → behind < before
      → (if opening then depth + 1 else if closing then depth - 1 else depth) + behind ≤ total
  few_behind true closing depth before behind total h l = omega (arith, h, l)
  few_behind false true depth before behind total h l = omega (arith, h, l)
  few_behind false false depth before behind total h l = omega (arith, h, l)

  module _ (of_brackets : IsOfBrackets opens closes) where
    -- a byte that is no mark changes nothing
    plain_past : (b : ℕ) (text : List ℕ) (depth : ℕ) → is_mark b ≡ false
        → most_open_from opens closes depth (bare_from Words (b ∷ text)) ≡ most_open_from opens closes depth (bare_from Words text)
    plain_past b text depth e =
        let z = neither (b == 34 || b == 47 || is_bracket b) (b == 59) e in
        let p = neither (b == 34 || b == 47) (is_bracket b) z.0 in
        let q = neither (b == 34) (b == 47) p.0 in
        let no = of_brackets.no b p.1 in
        let more = least depth (bare_from Words text) in
        rw (q.0, q.1, no.0, no.1) (omega (arith, more))

    -- a quote begins a string, any other mark is among words
    mark_past : (mark : ℕ) (text : List ℕ) (depth : ℕ) → most_open_from opens closes depth (bare_from Words (mark ∷ text))
        ≡ max depth (most_open_from opens closes (open_behind opens closes depth mark) (bare_from (behind_words mark) text))
    mark_past mark text depth = elim (same mark 34) [
      | inl e ↦
          let no = of_brackets.no 34 refl in
          let more = least depth (bare_from Quotes text) in
          rw (e, no.0, no.1) (omega (arith, more))
      | inr e ↦ by_slash (mark == 47) refl e.0
    ]
      where
        by_slash : (t : Bool) → (mark == 47) ≡ t → (mark == 34) ≡ false → most_open_from opens closes depth (bare_from Words (mark ∷ text))
            ≡ max depth (most_open_from opens closes (open_behind opens closes depth mark) (bare_from (behind_words mark) text))
        by_slash true s q = rw (q, s) refl
        by_slash false s q = rw (q, s) refl

    -- the most behind the first mark
    pub to_mark : (text : List ℕ) (mark : ℕ) (after : List ℕ) (depth : ℕ) → first_mark text ≡ Some (mark, after)
        → most_open_from opens closes depth (bare_from Words text)
        ≡ max depth (most_open_from opens closes (open_behind opens closes depth mark) (bare_from (behind_words mark) after))
    to_mark [] mark after depth e = cc
    to_mark (b ∷ text) mark after depth e = by_mark (is_mark b) refl e (to_mark text mark after depth)
      where
        by_mark : (t : Bool) → is_mark b ≡ t → (if t then Some (b, text) else first_mark text) ≡ Some (mark, after)
            → (first_mark text ≡ Some (mark, after)
            → most_open_from opens closes depth (bare_from Words text)
            ≡ max depth (most_open_from opens closes (open_behind opens closes depth mark) (bare_from (behind_words mark) after)))
            → most_open_from opens closes depth (bare_from Words (b ∷ text))
            ≡ max depth (most_open_from opens closes (open_behind opens closes depth mark) (bare_from (behind_words mark) after))
        by_mark true f g later =
            let h : (b, text) ≡ (mark, after) = cc in
            let first : b ≡ mark = ap (λ (x : ℕ × List ℕ). x.0) h in
            let rest : text ≡ after = ap (λ (x : ℕ × List ℕ). x.1) h in
            rw (first, rest) (mark_past mark after depth)
        by_mark false f g later = plain_past b text depth f ∙ later g

    -- with no mark, no more are open
    pub to_end : (text : List ℕ) (depth : ℕ) → first_mark text ≡ None → most_open_from opens closes depth (bare_from Words text) ≡ depth
    to_end [] depth e = refl
    to_end (b ∷ text) depth e = by_mark (is_mark b) refl e (to_end text depth)
      where
        by_mark : (t : Bool) → is_mark b ≡ t → (if t then Some (b, text) else first_mark text) ≡ None
            → (first_mark text ≡ None → most_open_from opens closes depth (bare_from Words text) ≡ depth)
            → most_open_from opens closes depth (bare_from Words (b ∷ text)) ≡ depth
        by_mark true f g later = cc
        by_mark false f g later = plain_past b text depth f ∙ later g

    -- what is seen behind a mark
    pub seen_past : (total whole : ℕ) (text : List ℕ) (mark : ℕ) (after behind : List ℕ) (old new : Level)
        → IsSeen total whole text old
        → first_mark text ≡ Some (mark, after)
        → length after < length text
        → bare_from (behind_words mark) after ≡ bare_from Words behind
        → length behind ≤ length after
        → new.depth ≡ open_behind opens closes old.depth mark
        → (old.depth ≤ old.most → new.most ≡ max old.most new.depth)
        → IsSeen total whole behind new
    seen_past total whole text mark after behind old new h found shorter bare less depth most =
        let top = most h.below in
        let here = rw (to_mark text mark after old.depth found, bare, ← depth) at h.most in
        let more = least new.depth (bare_from Words behind) in
        record {
          few = rw depth (few_behind (opens mark) (closes mark) old.depth (length text) (length behind) total h.few (omega (arith, shorter, less)));
          below = omega (arith, top);
          most = omega (arith, here, top, more, h.below);
        }

    -- what is seen where no mark follows
    pub seen_end : (total whole : ℕ) (text : List ℕ) (level : Level) → IsSeen total whole text level → first_mark text ≡ None → level.most ≡ whole
    seen_end total whole text level h e =
        let last = to_end text level.depth e in
        omega (arith, last, h.most, h.below)

-- a byte that is no bracket is none of the six
none_of_six : (b : ℕ) → is_bracket b ≡ false
    → ((b == 91) ≡ false) × ((b == 93) ≡ false) × ((b == 40) ≡ false) × ((b == 41) ≡ false) × ((b == 60) ≡ false) × ((b == 62) ≡ false)
none_of_six b e =
    let p = neither (b == 91 || b == 93 || b == 40 || b == 41 || b == 60) (b == 62) e in
    let q = neither (b == 91 || b == 93 || b == 40 || b == 41) (b == 60) p.0 in
    let r = neither (b == 91 || b == 93 || b == 40) (b == 41) q.0 in
    let s = neither (b == 91 || b == 93) (b == 40) r.0 in
    let t = neither (b == 91) (b == 93) s.0 in
    (t.0, t.1, s.1, r.1, q.1, p.1)

-- the two kinds of brackets are brackets
pub attributes_of_brackets : IsOfBrackets opens_attributes closes_attributes
attributes_of_brackets = record { no = λ b e. let n = none_of_six b e in (n.0, n.1) }

pub brackets_of_brackets : IsOfBrackets opens_bracket closes_bracket
brackets_of_brackets = record { no = λ b e. let n = none_of_six b e in (rw (n.2, n.4) refl, rw (n.3, n.5) refl) }
