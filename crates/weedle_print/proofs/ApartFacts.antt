-- Whitespace that are counted, and words behind them.
use Rattle.std.proofs.Common.{◌≡◌, ℕ, ◌+◌, ◌≤◌, List, [], ◌∷◌, length, codes, refl, sym, ap, ◌∙◌, subst, append-nil, length-append, arith}
use Rattle.weedle_grammar.specs.declared.class.Class.TheVariants.{Blank}
use Rattle.weedle_print.proofs.AddsFacts.{adds_as, adds_then, any_then}
use Rattle.weedle_print.specs.Adds.{Adds}
use Rattle.weedle_print.specs.Apart.{apart, so_many}
use Rattle.weedle_spell.specs.Forms.{◌then◌, exactly, any, some, perhaps}

-- none
pub none_of : {x : List ℕ} → Adds (so_many 0) x x
none_of {x} = record { added = []; is = sym (append-nil x); of = (tt, refl) }

joined : (m n : ℕ) (s : List ℕ) → (so_many m then so_many n) s → so_many (m + n) s
joined m n s h = (
  subst (any Blank) (sym h.is) (any_then Blank h.first h.rest h.of_first.0 h.of_rest.0),
  ap length h.is ∙ length-append h.first h.rest ∙ (λ k. h.of_first.1 k + h.of_rest.1 k),
)

module _ {x y z : List ℕ} {n : ℕ} where
  -- a space more
  pub blank_more : Adds (so_many n) x y → Adds (exactly (codes " ")) y z → Adds (so_many (n + 1)) x z
  blank_more a b = adds_as (joined n 1) (adds_then a (adds_as (λ s h. subst (so_many 1) (sym h) ((refl, tt), refl)) b))

  -- a line end more
  pub line_end_more : Adds (so_many n) x y → Adds (exactly (10 ∷ [])) y z → Adds (so_many (n + 1)) x z
  line_end_more a b = adds_as (joined n 1) (adds_then a (adds_as (λ s h. subst (so_many 1) (sym h) ((refl, tt), refl)) b))

-- as many as the loop was to put
pub all_of : {x y : List ℕ} {i n : ℕ} → i ≡ n → Adds (so_many i) x y → Adds (so_many n) x y
all_of {x} {y} e a = subst (λ (k : ℕ). Adds (so_many k) x y) e a

some_of : (n : ℕ) (s : List ℕ) → 1 ≤ n → so_many n s → some Blank s
some_of n [] l h = absurd (omega (arith, l, h.1))
some_of n (b ∷ s) l h = record { first = b ∷ []; rest = s; is = refl; of_first = (b, refl, h.0.0); of_rest = h.0.1 }

module _ {x y z : List ℕ} {m n : ℕ} (ends : Adds (so_many m) x y) (blanks : Adds (so_many n) y z) where
  -- line ends and spaces
  pub space_any : Adds (any Blank) x z
  space_any = adds_as (λ s h. (joined m n s h).0) (adds_then ends blanks)

  -- of which there is one
  pub space_some : 1 ≤ m + n → Adds (some Blank) x z
  space_some l = adds_as (λ s h. some_of (m + n) s l (joined m n s h)) (adds_then ends blanks)

-- a word behind them
pub apart_word : {x y z t : List ℕ} → Adds (some Blank) x y → Adds (exactly t) y z → Adds (apart t) x z
apart_word a b = adds_then a b

-- a name behind them
pub apart_name : {w x y z t u : List ℕ} → Adds (some Blank) w x → Adds (perhaps (exactly u)) x y → Adds (exactly t) y z → Adds (some Blank then perhaps (exactly u) then exactly t) w z
apart_name a b c = adds_then a (adds_then b c)

-- and a line end behind it
pub apart_last : {w x y z t : List ℕ} → Adds (some Blank) w x → Adds (exactly t) x y → Adds (exactly (10 ∷ [])) y z → Adds (apart t then exactly (10 ∷ [])) w z
apart_last a b c = adds_then (apart_word a b) c

pub ruleset many_steps = (none_of, blank_more, line_end_more, all_of)

pub ruleset space_steps = (space_any, space_some)

pub ruleset apart_steps = (apart_word, apart_last)
