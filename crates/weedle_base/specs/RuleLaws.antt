-- The laws of the standard types: what a generic reading gives or refuses, every rule gives or refuses whose row is made
-- so of the rules of the parts. R, S and T read the parts, and Whole is the reading of the type that is made of them.
use Rattle.std.specs.Prelude.{◌≡◌, ℕ, [], ◌∷◌, Option}
use Rattle.std.specs.Global.{Box, Vec}
use Rattle.weedle_grammar.specs.Rows.{Seq, Opt, Many}
use Rattle.weedle_grammar.specs.Trees.{Tree, Node, trees}
use Rattle.weedle_grammar.specs.Meaning.{Plain}
use Rattle.weedle_grammar.specs.written.Table.{row_of, shape_of}
use Rattle.weedle_base.specs.Reading.{Reading}
use Rattle.weedle_base.specs.Rules.{HasRule, option_tree, items_tree}

-- an option reads what a rule reads that may be absent
abbrev pub OptionLaw : {V : Type 0} → Reading V → Reading (Option V) → Type 0
OptionLaw {V} R Whole = (x r : ℕ) (tree : V → Tree) → HasRule R x tree
    → row_of r ≡ Opt x → shape_of r ≡ Plain → HasRule Whole r (option_tree tree)

-- a box reads what the rule of its content reads
abbrev pub BoxLaw : {V : Type 0} → Reading V → Reading (Box V) → Type 0
BoxLaw {V} R Whole = (r : ℕ) (tree : V → Tree) → HasRule R r tree → HasRule Whole r (λ b. tree b.value)

-- a `Vec` reads what a rule reads that repeats the items' rule
abbrev pub VecLaw : {V : Type 0} → Reading V → Reading (Vec V) → Type 0
VecLaw {V} R Whole = (x r : ℕ) (tree : V → Tree) → HasRule R x tree
    → row_of r ≡ Many x → shape_of r ≡ Plain → HasRule Whole r (λ v. items_tree tree v.items)

-- a pair reads what a rule reads that is two rules one after the other
abbrev pub PairLaw : {V W : Type 0} → Reading V → Reading W → Reading (V × W) → Type 0
PairLaw {V} {W} R S Whole = (x y r : ℕ) (f : V → Tree) (g : W → Tree) → HasRule R x f → HasRule S y g
    → row_of r ≡ Seq (x ∷ y ∷ []) → shape_of r ≡ Plain → HasRule Whole r (λ v. Node (trees (f v.0 ∷ g v.1 ∷ [])))

-- a triple reads what a rule reads that is three rules one after another
abbrev pub TripleLaw : {U V W : Type 0} → Reading U → Reading V → Reading W → Reading (U × V × W) → Type 0
TripleLaw {U} {V} {W} R S T Whole = (x y z r : ℕ) (f : U → Tree) (g : V → Tree) (h : W → Tree) → HasRule R x f → HasRule S y g → HasRule T z h
    → row_of r ≡ Seq (x ∷ y ∷ z ∷ []) → shape_of r ≡ Plain → HasRule Whole r (λ v. Node (trees (f v.0 ∷ g v.1 ∷ h v.2 ∷ [])))
