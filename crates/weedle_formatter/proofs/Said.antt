-- What nodes say, as a tree of their words but those of trivia. Words in preorder, with their depths, are those of no more than one such tree.
use Rattle.std.proofs.Common.{◌≡◌, ℕ, ◌+◌, ◌<◌, List, [], ◌∷◌, ◌++◌, Bool, refl, sym, subst, ◌∙◌, arith, append_assoc}
use Rattle.std.specs.Prelude.{nat_lt}
use Rattle.weedle_grammar.specs.written.Table.Trivia.{TRIVIA}
use Rattle.weedle_formatter.specs.Words.{Word}
use Rattle.weedle_formatter.proofs.WordFacts.{same_first, same_rest}

-- of a node its rule, the bytes that it has of its own, and what its parts say; then what the nodes behind it say
pub data Said : Type 0 where
  nothing : Said
  says : ℕ → List ℕ → Said → Said → Said

-- a rule that isn't of trivia: those have the smallest numbers
abbrev pub is_solid : ℕ → Bool
is_solid rule = nat_lt TRIVIA rule

abbrev pub word : ℕ → ℕ → List ℕ → Word
word r d b = record { rule = r; depth = d; bytes = b }

-- the words in preorder, the first of them of depth d
abbrev pub flat : ℕ → Said → List Word
flat d nothing = []
flat d (says r b kids others) = word r d b ∷ flat (d + 1) kids ++ flat d others

-- the first of these words, if there is any, is less deep than d
abbrev pub Shallow : ℕ → List Word → Type 0
Shallow d [] = Unit {0}
Shallow d (w ∷ ws) = w.depth < d

shallow_more : (d : ℕ) (s : List Word) → Shallow d s → Shallow (d + 1) s
shallow_more d [] h = tt
shallow_more d (w ∷ ws) h = omega (arith, h)

flat_shallow : (d : ℕ) (f : Said) (s : List Word) → Shallow d s → Shallow (d + 1) (flat d f ++ s)
flat_shallow d nothing s h = shallow_more d s h
flat_shallow d (says r b kids others) s h = omega arith

not_shallow : {A : Type 0} (d r : ℕ) (b : List ℕ) (s ws : List Word) → Shallow d s → s ≡ word r d b ∷ ws → A
not_shallow d r b s ws h e = let l : d < d = subst (Shallow d) e h in absurd (omega (arith, l))

-- words come from one tree, and what follows them is the same
pub one_said : (d : ℕ) (f g : Said) (s t : List Word) → Shallow d s → Shallow d t → flat d f ++ s ≡ flat d g ++ t → (f ≡ g) × (s ≡ t)
one_said d nothing nothing s t h k e = (refl, e)
one_said d nothing (says r b kids others) s t h k e = not_shallow d r b s _ h e
one_said d (says r b kids others) nothing s t h k e = not_shallow d r b t _ k (sym e)
one_said d (says r b kids others) (says q c inner more) s t h k e =
    let head : word r d b ≡ word q d c = same_first _ _ _ _ e in
    let rest : (flat (d + 1) kids ++ flat d others) ++ s ≡ (flat (d + 1) inner ++ flat d more) ++ t = same_rest _ _ _ _ e in
    let below = one_said (d + 1) kids inner (flat d others ++ s) (flat d more ++ t) (flat_shallow d others s h) (flat_shallow d more t k)
    (sym (append_assoc (flat (d + 1) kids) (flat d others) s) ∙ rest ∙ append_assoc (flat (d + 1) inner) (flat d more) t) in
    let behind = one_said d others more s t h k below.1 in
    (λ i. says (head i).rule (head i).bytes (below.0 i) (behind.0 i), behind.1)
