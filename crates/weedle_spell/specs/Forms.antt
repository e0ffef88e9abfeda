-- Forms of texts: sets of byte strings, and how they are made of one another. Nothing here knows of places, rules or an order of choices.
use Rattle.std.specs.Prelude.{◌≡◌, ℕ, true, List, [], ◌∷◌, ◌++◌, Option, Some, None, ◌⊎◌}
use Rattle.weedle_grammar.specs.Rows.{is_in}
use Rattle.weedle_grammar.specs.declared.class.Class.{Class}

-- a form: the texts that are of it
abbrev pub Form : Type 1
Form = List ℕ → Type 0

-- no text
abbrev pub never : Form
never s = ⊥

-- the empty text
abbrev pub empty : Form
empty s = s ≡ []

-- these bytes
abbrev pub exactly : List ℕ → Form
exactly bytes s = s ≡ bytes

-- these bytes, which are of the form
abbrev pub that : List ℕ → Form → Form
that bytes A s = (s ≡ bytes) × A s

-- the one form, and then the other
infixr 40 ◌then◌
pub record ◌then◌ (A B : Form) (s : List ℕ) : Type 0 where
  pub first : List ℕ
  pub rest : List ℕ
  pub is : s ≡ first ++ rest
  pub of_first : A first
  pub of_rest : B rest

-- the one form or the other
infixr 35 ◌or◌
abbrev pub ◌or◌ : Form → Form → Form
(A or B) s = A s ⊎ B s

-- the form, or nothing
abbrev pub perhaps : Form → Form
perhaps A = A or empty

-- texts of the form, one after another, none included
pub data Chain (A : Form) : List ℕ → Type 0 where
  chain_ends : {s : List ℕ} → s ≡ [] → Chain A s
  chain_goes_on : {s t u : List ℕ} → s ≡ t ++ u → A t → Chain A u → Chain A s

-- one byte of the class
abbrev pub one : Class → Form
one c s = (b : ℕ) × (s ≡ b ∷ []) × (is_in c b ≡ true)

-- bytes of the class, none included
abbrev pub any : Class → Form
any c [] = Unit {0}
any c (b ∷ s) = (is_in c b ≡ true) × any c s

-- bytes of the class, one at least
abbrev pub some : Class → Form
some c = one c then any c

-- a text in which the bytes occur once, at its end
abbrev pub up_to : List ℕ → Form
up_to bytes s = ((t : List ℕ) × (s ≡ t ++ bytes)) × ((t u : List ℕ) → s ≡ t ++ (bytes ++ u) → u ≡ [])

module _ {V : Type 0} (spelling : V → Form) where
  -- an optional value: nothing where it is absent
  abbrev pub optional : Option V → Form
  optional None = empty
  optional (Some v) = spelling v

  -- values one after another
  abbrev pub each : List V → Form
  each [] = empty
  each (v ∷ vs) = spelling v then each vs

  -- values, each behind a separator
  abbrev pub each_behind : Form → List V → Form
  each_behind separator [] = empty
  each_behind separator (v ∷ vs) = separator then spelling v then each_behind separator vs

  -- values with a separator between each two
  abbrev pub separated_by : Form → List V → Form
  separated_by separator [] = empty
  separated_by separator (v ∷ vs) = spelling v then each_behind separator vs

  -- values with a separator between each two, one value at least, and perhaps one more separator at the end
  abbrev pub separated_non_empty : Form → List V → Form
  separated_non_empty separator [] = never
  separated_non_empty separator (v ∷ vs) = separated_by separator (v ∷ vs) then perhaps separator
