-- What the bytes up to the next mark weigh, and those of a string or a comment.
use Rattle.std.proofs.Common.{◌≡◌, inl, inr, ◌+◌, ◌*◌, ◌-◌, ◌<◌, ◌≤◌, ℕ, zero, suc, Bool, true, false, List, [], ◌∷◌, length, Some, None, refl, ap, arith, if◌then◌else◌, ◌==◌, ◌||◌}
use Rattle.std.proofs.Math.Nat.{mul-add, mul-suc}
use Rattle.std.specs.Prelude.{◌^◌, max, min}
use Rattle.weedle_nesting.proofs.MarkFacts.{past_more, same}
use Rattle.weedle_nesting.specs.Aside.{IsAside, IsBehind, times}
use Rattle.weedle_nesting.specs.Bare.{Inside, Words, Slash, Line, Block, Asterisk, Quotes, behind_words}
use Rattle.weedle_nesting.specs.Marks.{first_mark, is_bracket, is_mark, past}
use Rattle.weedle_nesting.specs.Weights.{attributes_read, weights, weights_from}

module _ (depth : ℕ) where
  -- nothing is left
  pub at_end : (inside : Inside) → IsAside inside depth [] []
  at_end inside = record { count = 0; bytes = omega arith; weigh = omega arith }

  -- one byte more in front
  more : {inside next : Inside} {b : ℕ} {text rest : List ℕ} → IsAside next depth text rest
      → weights_from inside depth (b ∷ text) ≡ 3 ^ depth + weights_from next depth text → IsAside inside depth (b ∷ text) rest
  more a e = record { count = suc a.count; bytes = omega (arith, a.bytes); weigh = omega (arith, e, a.weigh) }

  -- words follow
  pub here : (text : List ℕ) → IsAside Words depth text text
  here text = record { count = 0; bytes = omega arith; weigh = omega arith }

  pub aside_quotes : (text : List ℕ) → IsAside Quotes depth text (past (34 ∷ []) text)
  aside_quotes [] = at_end Quotes
  aside_quotes (b ∷ text) = elim (same b 34) [
    | inl e ↦ rw e (more (here text) refl)
    | inr e ↦ rw (past_more (34 ∷ []) b text (rw e.1 refl)) (more (aside_quotes text) (rw e.0 refl))
  ]

  pub aside_line : (text : List ℕ) → IsAside Line depth text (past (10 ∷ []) text)
  aside_line [] = at_end Line
  aside_line (b ∷ text) = elim (same b 10) [
    | inl e ↦ rw e (more (here text) refl)
    | inr e ↦ rw (past_more (10 ∷ []) b text (rw e.1 refl)) (more (aside_line text) (rw e.0 refl))
  ]

  pub aside_block : (text : List ℕ) → IsAside Block depth text (past (42 ∷ 47 ∷ []) text)
  aside_block [] = at_end Block
  aside_block (b ∷ text) = elim (same b 42) [
    | inl e ↦ rw e (more (behind_star text (aside_block text)) refl)
    | inr e ↦ rw (past_more (42 ∷ 47 ∷ []) b text (rw e.1 refl)) (more (aside_block text) (rw e.0 refl))
  ]
    where
      as_in_block : (c : ℕ) (text : List ℕ) → (c == 47) ≡ false → IsAside Block depth (c ∷ text) (past (42 ∷ 47 ∷ []) (c ∷ text))
          → IsAside Asterisk depth (c ∷ text) (past (42 ∷ 47 ∷ []) (c ∷ text))
      as_in_block c text e h = record { count = h.count; bytes = h.bytes; weigh = rw e at_block }
        where
          at_block : weights_from Block depth (c ∷ text) ≡ times h.count (3 ^ depth) + weights_from Words depth (past (42 ∷ 47 ∷ []) (c ∷ text))
          at_block = h.weigh

      behind_star : (text : List ℕ) → IsAside Block depth text (past (42 ∷ 47 ∷ []) text) → IsAside Asterisk depth text (past (42 ∷ 47 ∷ []) (42 ∷ text))
      behind_star [] h = at_end Asterisk
      behind_star (c ∷ text) h = elim (same c 47) [
        | inl e ↦ rw e (more (here text) refl)
        | inr e ↦ rw (past_more (42 ∷ 47 ∷ []) 42 (c ∷ text) (rw e.1 refl)) (as_in_block c text e.0 h)
      ]

-- behind a slash a line or a block comment, or neither
pub slash_aside_line : (depth : ℕ) (text line : List ℕ) → text ≡ 47 ∷ line → IsAside Slash depth text (past (10 ∷ []) line)
slash_aside_line depth text line e = rw e (more depth (aside_line depth line) refl)

pub slash_aside_block : (depth : ℕ) (text block : List ℕ) → text ≡ 42 ∷ block → IsAside Slash depth text (past (42 ∷ 47 ∷ []) block)
slash_aside_block depth text block e = rw e (more depth (aside_block depth block) refl)

-- a string
pub behind_quote : (depth mark : ℕ) (text : List ℕ) → mark ≡ 34 → IsBehind mark depth text (past (34 ∷ []) text)
behind_quote depth mark text e = let a = aside_quotes depth text in rw e record { count = a.count; bytes = a.bytes; weigh = a.weigh }

-- a comment, or none
pub behind_slash : (depth mark : ℕ) (text rest : List ℕ) → mark ≡ 47 → IsAside Slash depth text rest → IsBehind mark depth text rest
behind_slash depth mark text rest e a = rw e record { count = a.count; bytes = a.bytes; weigh = a.weigh }

-- any other mark
pub behind_other : (depth mark : ℕ) (text : List ℕ) → (mark == 34) ≡ false → (mark == 47) ≡ false → IsBehind mark depth text text
behind_other depth mark text q s = record { count = 0; bytes = omega arith; weigh = rw (q, s) (omega arith) }

-- a slash with nothing behind it, or with another byte, is among words
pub slash_aside_words : (depth : ℕ) (b : ℕ) (text : List ℕ) → (b == 47) ≡ false → (b == 42) ≡ false → IsAside Slash depth (b ∷ text) (b ∷ text)
slash_aside_words depth b text s a = record { count = 0; bytes = omega arith; weigh = rw (s, a) (omega arith) }

pub slash_aside_end : (depth : ℕ) → IsAside Slash depth [] []
slash_aside_end depth = at_end depth Slash

-- up to the first mark, and with it
pub record IsToMark (mark depth : ℕ) (text after : List ℕ) : Type 0 where
  pub count : ℕ
  pub bytes : length text ≡ count + suc (length after)
  pub weigh : weights_from Words depth text ≡ times (suc count) (3 ^ depth) + weights_from (behind_words mark) (attributes_read depth mark) after

-- neither is true
neither : (a b : Bool) → (a || b) ≡ false → (a ≡ false) × (b ≡ false)
neither true b e = cc
neither false b e = (refl, e)

-- a byte that is no mark opens and closes nothing
plain : (depth b : ℕ) (text : List ℕ) → is_mark b ≡ false → weights_from Words depth (b ∷ text) ≡ 3 ^ depth + weights_from Words depth text
plain depth b text e =
    let z = neither (b == 34 || b == 47 || is_bracket b) (b == 59) e in
    let p = neither (b == 34 || b == 47) (is_bracket b) z.0 in
    let q = neither (b == 34) (b == 47) p.0 in
    let r = neither (b == 91 || b == 93 || b == 40 || b == 41 || b == 60) (b == 62) p.1 in
    let s = neither (b == 91 || b == 93 || b == 40 || b == 41) (b == 60) r.0 in
    let t = neither (b == 91 || b == 93 || b == 40) (b == 41) s.0 in
    let u = neither (b == 91 || b == 93) (b == 40) t.0 in
    let v = neither (b == 91) (b == 93) u.0 in
    rw (q.0, q.1, z.1, v.0, v.1) refl

-- a mark counts as it is among words
mark_first : (depth mark : ℕ) (after : List ℕ) → weights_from Words depth (mark ∷ after) ≡ 3 ^ depth + weights_from (behind_words mark) (attributes_read depth mark) after
mark_first depth mark after = elim (same mark 34) [
  | inl e ↦ rw e refl
  | inr e ↦ by_slash (mark == 47) refl e.0
]
  where
    by_slash : (t : Bool) → (mark == 47) ≡ t → (mark == 34) ≡ false
        → weights_from Words depth (mark ∷ after) ≡ 3 ^ depth + weights_from (behind_words mark) (attributes_read depth mark) after
    by_slash true s q = rw (q, s) refl
    by_slash false s q = rw (q, s) refl

pub to_mark : (depth : ℕ) (text : List ℕ) (mark : ℕ) (after : List ℕ) → first_mark text ≡ Some (mark, after) → IsToMark mark depth text after
to_mark depth [] mark after e = cc
to_mark depth (b ∷ text) mark after e = by_mark (is_mark b) refl e (to_mark depth text mark after)
  where
    by_mark : (t : Bool) → is_mark b ≡ t → (if t then Some (b, text) else first_mark text) ≡ Some (mark, after)
        → (first_mark text ≡ Some (mark, after) → IsToMark mark depth text after) → IsToMark mark depth (b ∷ text) after
    by_mark true f g later =
        let h : (b, text) ≡ (mark, after) = cc in
        let first : b ≡ mark = ap (λ (x : ℕ × List ℕ). x.0) h in
        let rest : text ≡ after = ap (λ (x : ℕ × List ℕ). x.1) h in
        rw (first, rest) (let one = mark_first depth mark after in
        record { count = 0; bytes = omega arith; weigh = omega (arith, one) })
    by_mark false f g later =
        let m = later g in
        let one = plain depth b text f in
        record { count = suc m.count; bytes = omega (arith, m.bytes); weigh = omega (arith, one, m.weigh) }

-- with no mark, all bytes have one weight
pub to_end : (depth : ℕ) (text : List ℕ) → first_mark text ≡ None → weights_from Words depth text ≡ times (length text) (3 ^ depth)
to_end depth [] e = refl
to_end depth (b ∷ text) e = by_mark (is_mark b) refl e (to_end depth text)
  where
    by_mark : (t : Bool) → is_mark b ≡ t → (if t then Some (b, text) else first_mark text) ≡ None
        → (first_mark text ≡ None → weights_from Words depth text ≡ times (length text) (3 ^ depth))
        → weights_from Words depth (b ∷ text) ≡ times (length (b ∷ text)) (3 ^ depth)
    by_mark true f g later = cc
    by_mark false f g later = let one = plain depth b text f in let rest = later g in omega (arith, one, rest)

-- what so many bytes of one weight weigh
times_is : (k w : ℕ) → times k w ≡ w * k
times_is zero w = omega arith
times_is (suc k) w = let rest = times_is k w in omega (arith, rest, mul-suc w k)

times_more : (i k w : ℕ) → times (i + k) w ≡ times i w + times k w
times_more i k w = omega (arith, times_is (i + k) w, times_is i w, times_is k w, mul-add w i k)

-- the most that a sum can be where descent suits
abbrev pub most_of : List ℕ → ℕ
most_of text = 4 * (length text + 1)

-- the sum over a text is that over what was seen and over the rest, and the first is small
pub record IsWeighed (text rest : List ℕ) (depth weight work : ℕ) : Type 0 where
  pub few : depth + length rest ≤ length text
  pub power : weight ≡ 3 ^ depth
  pub sum : weights text ≡ work + weights_from Words depth rest
  pub small : work < most_of text
  pub light : weight ≤ 3 * most_of text

-- at the front of a text
pub weighed_front : (text : List ℕ) → IsWeighed text text 0 1 0
weighed_front text = record { few = omega arith; power = refl; sum = omega arith; small = omega arith; light = omega arith }

module _ (text rest : List ℕ) (depth weight work : ℕ) (h : IsWeighed text rest depth weight work) where
  -- the bytes up to the rest behind a mark weigh so much
  pub record IsStep (mark : ℕ) (behind : List ℕ) (bytes : ℕ) : Type 0 where
    pub some : 0 < bytes
    pub shorter : length rest ≡ bytes + length behind
    pub sum : weights text ≡ work + weight * bytes + weights_from Words (attributes_read depth mark) behind

  pub step : (mark : ℕ) (after behind : List ℕ) → first_mark rest ≡ Some (mark, after) → IsBehind mark depth after behind
      → IsStep mark behind (length rest - length behind)
  step mark after behind found b = record {
    some = omega (arith, m.bytes, b.bytes);
    shorter = omega (arith, m.bytes, b.bytes);
    sum = rw (h.power, size) (omega (arith, h.sum, m.weigh, b.weigh, times_more (suc m.count) b.count (3 ^ depth), times_is (suc m.count + b.count) (3 ^ depth)));
  }
    where
      m : IsToMark mark depth rest after
      m = to_mark depth rest mark after found

      size : length rest - length behind ≡ suc m.count + b.count
      size = omega (arith, m.bytes, b.bytes)

  -- all of the rest weighs so much where no mark is left
  pub last : first_mark rest ≡ None → weights text ≡ work + weight * length rest
  last found = rw h.power (omega (arith, h.sum, to_end depth rest found, times_is (length rest) (3 ^ depth)))

  module _ (mark : ℕ) (behind : List ℕ) (bytes seen : ℕ) (s : IsStep mark behind bytes) (is : seen ≡ min (work + weight * bytes) (2 ^ 128 - 1))
      (fits : length text < 2 ^ 64) where
    -- a byte's weight is no more than that of all
    lighter : weight ≤ weight * bytes
    lighter = grow bytes s.some
      where
        grow : (k : ℕ) → 0 < k → weight ≤ weight * k
        grow zero l = absurd (omega (arith, l))
        grow (suc k) l = omega (arith, mul-suc weight k)

    -- where they weigh too much, the text does
    pub too_much : most_of text ≤ seen → weights text < most_of text → ⊥
    too_much l m = absurd (omega (arith, l, m, s.sum, is, fits))

    -- a weight that was added is small
    pub is_light : seen < most_of text → weight < most_of text
    is_light l = omega (arith, l, is, lighter, fits)

    -- a mark more is seen
    pub step_on : seen < most_of text → (new_depth new_weight : ℕ) → new_depth ≡ attributes_read depth mark
        → (weight ≡ 3 ^ depth → new_weight ≡ 3 ^ new_depth) → new_weight ≤ max (weight * 3) 1 → new_depth ≤ depth + 1
        → IsWeighed text behind new_depth new_weight seen
    step_on l new_depth new_weight d w light deeper = record {
      few = omega (arith, h.few, s.shorter, s.some, deeper);
      power = w h.power;
      sum = rw d (omega (arith, s.sum, is, l, fits));
      small = l;
      light = omega (arith, light, is_light l);
    }

-- a mark opens one at most
pub one_deeper : (depth mark : ℕ) → attributes_read depth mark ≤ depth + 1
one_deeper depth mark = by_open (mark == 59) (mark == 91) (mark == 93)
  where
    by_open : (ending opening closing : Bool) → (if ending then 0 else if opening then depth + 1 else if closing then depth - 1 else depth) ≤ depth + 1
    by_open true opening closing = omega arith
    by_open false true closing = omega arith
    by_open false false true = omega arith
    by_open false false false = omega arith
