-- The laws of the generic parts: over any rule whose row is made so of the rules of the parameters, what a part's reading gives or refuses, the rule gives or refuses.
use Rattle.std.specs.Prelude.{◌≡◌, ℕ, [], ◌∷◌}
use Rattle.weedle_base.specs.Reading.{Reading}
use Rattle.weedle_base.specs.Rules.{HasRule}
use Rattle.weedle_grammar.specs.Meaning.{Plain, Inner}
use Rattle.weedle_grammar.specs.Rows.{Seq, Opt, ListOf, List1, Tail}
use Rattle.weedle_grammar.specs.written.Table.{row_of, shape_of}
use Rattle.weedle_grammar.specs.written.Table.SimpleTypes.{OPT_Q_MARK}
use Rattle.weedle_grammar.specs.Trees.{Tree}

-- a body that R reads, and the whole that S reads, whose tree is made of the body's
module _ {T V : Type 0} (R : Reading T) (S : Reading V) (whole : (T → Tree) → V → Tree) where
  -- two brackets and a rule `Seq` of three parts
  abbrev pub BracketLaw : ℕ → ℕ → Type 0
  BracketLaw left right = (x r : ℕ) (tree : T → Tree) → HasRule R x tree
      → row_of r ≡ Seq (left ∷ x ∷ right ∷ []) → shape_of r ≡ Plain → HasRule S r (whole tree)

  -- a mark that may be behind the body, and a rule `Seq` of two parts
  abbrev pub MayBeNullLaw : Type 0
  MayBeNullLaw = (x r : ℕ) (tree : T → Tree) → HasRule R x tree
      → row_of r ≡ Seq (x ∷ OPT_Q_MARK ∷ []) → shape_of r ≡ Plain → HasRule S r (whole tree)

  -- separators that Q reads
  module _ {W : Type 0} (Q : Reading W) where
    -- a rule `List`
    abbrev pub PunctuatedLaw : Type 0
    PunctuatedLaw = (x z t r : ℕ) (tree : T → Tree) (mark : W → Tree) → HasRule R x tree → HasRule Q z mark
        → row_of t ≡ Tail x z → shape_of t ≡ Plain → row_of r ≡ ListOf x t → shape_of r ≡ Plain → HasRule S r (whole tree)

    -- a rule `Seq` of a rule `List1` and a separator that may be behind it
    abbrev pub PunctuatedNonEmptyLaw : Type 0
    PunctuatedNonEmptyLaw = (x z t l o r : ℕ) (tree : T → Tree) (mark : W → Tree) → HasRule R x tree → HasRule Q z mark
        → row_of t ≡ Tail x z → shape_of t ≡ Plain → row_of l ≡ List1 x t → shape_of l ≡ Plain → row_of o ≡ Opt z → shape_of o ≡ Plain
        → row_of r ≡ Seq (l ∷ o ∷ []) → shape_of r ≡ Inner → HasRule S r (whole tree)
