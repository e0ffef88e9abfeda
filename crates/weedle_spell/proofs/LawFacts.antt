-- From what a rule takes to the laws.
use Rattle.std.proofs.Common.{inl, inr, ℕ, List, [], ◌∷◌, ◌++◌, sym, subst}
use Rattle.weedle_grammar.specs.Meaning.{between}
use Rattle.weedle_grammar.specs.Trees.{Tree}
use Rattle.weedle_spell.proofs.PieceFacts.{in_pieces}
use Rattle.weedle_spell.proofs.Spelt.{Spelt}
use Rattle.weedle_spell.proofs.Took.{Took, Taken, exact, took_between}
use Rattle.weedle_spell.proofs.TriviaFacts.{symbol, keyword}
use Rattle.weedle_spell.specs.Forms.{Form}
use Rattle.weedle_spell.specs.Laws.{SpellsValues, SpellsExactly, Spells, SymbolLaw, KeywordLaw}

took_is : {text : List ℕ} {p e : ℕ} {A : Form} → Took text p e A → A (between text p e)
took_is {A = A} t = subst A (sym (took_between t)) t.has

taken_is : {L : Type 0} {text : List ℕ} {p e : ℕ} {A : Form} → Taken L text p e A → Spells (λ (v : Unit {0}). A) tt (between text p e)
taken_is (inl t) = inl (took_is t)
taken_is {text = text} {p} {e} {A} (inr t) = inr (subst (λ (s : List ℕ). A (s ++ 10 ∷ [])) (sym (took_between t.2)) t.2.has.1)

module _ {V : Type 0} {r : ℕ} {tree : V → Tree} {S : V → Form} where
  -- the law of a type whose text may end without an LF
  pub loose : ((v : V) → Spelt (Unit {0}) r (tree v) (S v)) → SpellsValues r tree S
  loose h = record { spells = λ v text p e d. taken_is ((h v).of text p e d); in_pieces = λ v text p e d. in_pieces text r p e (tree v) d }

  -- the law of one whose text does not
  pub strict : ((v : V) → Spelt ⊥ r (tree v) (S v)) → SpellsExactly r tree S
  strict h = record { spells = λ v text p e d. took_is (exact ((h v).of text p e d)); in_pieces = λ v text p e d. in_pieces text r p e (tree v) d }

pub symbols : SymbolLaw
symbols r bytes h = loose (λ v. symbol h.2 h.1 h.3)

pub keywords : KeywordLaw
keywords r bytes h = loose (λ v. keyword h.2 h.1 h.3)
