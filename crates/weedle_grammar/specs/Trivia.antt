-- What the scanners of trivia and of names answer.
use Rattle.std.specs.Borrow.{Bor}
use Rattle.std.specs.Prelude.{◌≡◌, ℕ, List, [], drop, Bool, length, ◌&&◌, nat_lt, slice_index, Option, MatchOption, take}
use Rattle.weedle_grammar.specs.Rows.{is_in}
use Rattle.weedle_grammar.specs.written.Table.{Reads}
use Rattle.weedle_grammar.specs.Trees.{Tree, Fails, Gives}
use Rattle.weedle_grammar.specs.declared.class.Class.{Class}

-- the rule gave these trees at the front of s, and rest follows what it took
pub record Took (r : ℕ) (s : List ℕ) (ts : List Tree) (rest : List ℕ) : Type 0 where
  -- how many bytes it took
  pub place : ℕ
  pub reads : Reads s r 0 (Gives ts place)
  pub rest_is : rest ≡ drop place s

-- there is a next byte, and it is in the class
abbrev pub is_next : Class → List ℕ → Bool
is_next c s = nat_lt 0 (length s) && is_in c (slice_index s 0)

-- the silent rule was tried at the front of s: None where it fails, else what follows what it took
abbrev pub Trial : ℕ → List ℕ → Option (Bor (List ℕ)) → Type 0
Trial r s o = MatchOption o (Reads s r 0 Fails) (λ rest. Took r s [] rest.now)

-- the silent rule took this text at the front of s, and rest follows
pub record TookText (r : ℕ) (s text rest : List ℕ) : Type 0 where
  -- how many bytes it took
  pub place : ℕ
  pub reads : Reads s r 0 (Gives [] place)
  pub text_is : text ≡ take place s
  pub rest_is : rest ≡ drop place s
