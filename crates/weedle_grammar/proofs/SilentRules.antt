-- Rules that are made of silent rules.
use Rattle.std.specs.Prelude.{◌≡◌, ℕ, ◌+◌, List, [], ◌∷◌, drop, Option, Some, None, unwrap_or}
use Rattle.std.specs.Borrow.{Bor}
use Rattle.std.proofs.Common.{refl, sym, subst}
use Rattle.weedle_grammar.specs.Rows.{Seq, First, Opt}
use Rattle.weedle_grammar.specs.Trees.{Tree, Mark, Fails, Gives}
use Rattle.weedle_grammar.specs.Meaning.{Silent, Marked, ReadsSeq, by_seq, by_first, by_opt, first_here, first_next, first_none}
use Rattle.weedle_grammar.specs.written.Table.{webidl, row_of, shape_of, Reads}
use Rattle.weedle_grammar.proofs.Suffix.{then_fails_on}
use Rattle.weedle_grammar.proofs.RowFacts.{of_row, Parts, parts_none, parts_on, rest_add}
use Rattle.weedle_grammar.specs.Trivia.{Took, Trial}

silent_node : {s rs : List ℕ} {ts : List Tree} {k r : ℕ} → row_of r ≡ Seq rs → shape_of r ≡ Silent → Parts s rs ts k
    → Reads s r 0 (Gives [] k)
silent_node row shape m = of_row row (by_seq m.reads refl) (rw (shape, m.end) refl)

marked_node : {s rs : List ℕ} {ts : List Tree} {k r : ℕ} → row_of r ≡ Seq rs → shape_of r ≡ Marked → Parts s rs ts k
    → Reads s r 0 (Gives (Mark ∷ []) k)
marked_node row shape m = of_row row (by_seq m.reads refl) (rw (shape, m.end) refl)

-- silent rules one after another lead from s to rest
pub record Along (rs s rest : List ℕ) : Type 0 where
  pub place : ℕ
  pub parts : Parts s rs [] place
  pub rest_is : rest ≡ drop place s

-- no rule leads nowhere
pub along_none : (s : List ℕ) → Along [] s s
along_none s = record { place = 0; parts = parts_none; rest_is = refl }

module _ {r : ℕ} {s t : List ℕ} (h : Took r s [] t) where
  -- a rule took its part, and the others lead on
  pub along : {rs rest : List ℕ} → Along rs t rest → Along (r ∷ rs) s rest
  along {rs} {rest} m = record {
    place = h.place + m.place;
    parts = parts_on h.reads h.rest_is m.parts;
    rest_is = rest_add s t rest h.place m.place h.rest_is m.rest_is;
  }

  -- the last rule took its part
  pub last : Along (r ∷ []) s t
  last = along (along_none t)

  -- a rule took its part, and the others fail
  pub lost : {rs : List ℕ} → ReadsSeq webidl t rs 0 None → ReadsSeq webidl s (r ∷ rs) 0 None
  lost m = then_fails_on h.reads h.rest_is m

module _ {r : ℕ} {s : List ℕ} where
  -- a silent sequence takes what its rules take
  pub took_seq : {rs rest : List ℕ} → row_of r ≡ Seq rs → shape_of r ≡ Silent → Along rs s rest → Took r s [] rest
  took_seq row shape m = record { place = m.place; reads = silent_node row shape m.parts; rest_is = m.rest_is }

  -- a rule of silent rules that gives a mark
  pub marked_seq : {rs rest : List ℕ} → row_of r ≡ Seq rs → shape_of r ≡ Marked → Along rs s rest → Took r s (Mark ∷ []) rest
  marked_seq row shape m = record { place = m.place; reads = marked_node row shape m.parts; rest_is = m.rest_is }

  module _ {x y : ℕ} (row : row_of r ≡ First (x ∷ y ∷ [])) (shape : shape_of r ≡ Silent) where
    -- a silent choice of two takes what the first takes
    pub took_first : {rest : List ℕ} → Took x s [] rest → Took r s [] rest
    took_first m =
        record { place = m.place; reads = of_row row (by_first (first_here m.reads refl) refl) (rw shape refl); rest_is = m.rest_is }

    -- where the first fails, it takes what the second takes
    pub took_second : Reads s x 0 Fails → {rest : List ℕ} → Took y s [] rest → Took r s [] rest
    took_second d m = record {
      place = m.place;
      reads = of_row row (by_first (first_next d (first_here m.reads refl)) refl) (rw shape refl);
      rest_is = m.rest_is;
    }

    -- where both fail, it fails
    pub no_first : Reads s x 0 Fails → Reads s y 0 Fails → Reads s r 0 Fails
    no_first d m = of_row row (by_first (first_next d (first_next m (first_none refl))) refl) refl

-- a rule that ends with rule x does as x does there
pub decided : (r x : ℕ) {s t : List ℕ} → ((rest : List ℕ) → Took x t [] rest → Took r s [] rest)
    → (Reads t x 0 Fails → Reads s r 0 Fails) → (o : Option (Bor (List ℕ))) → Trial x t o → Trial r s o
decided r x f g None m = g m
decided r x f g (Some rest) m = f rest.now m

-- what is skipped, where it is there
pub took_opt : (r : ℕ) {x : ℕ} → row_of r ≡ Opt x → shape_of r ≡ Silent → (s : Bor (List ℕ)) (o : Option (Bor (List ℕ)))
    → Trial x s.now o → Took r s.now [] (unwrap_or o s).now
took_opt r row shape s None d = record { place = 0; reads = of_row row (by_opt d refl) (rw shape refl); rest_is = refl }
took_opt r row shape s (Some rest) m =
    record { place = m.place; reads = of_row row (by_opt m.reads refl) (rw shape refl); rest_is = m.rest_is }

-- the exit of a `?`
pub exit : (r : ℕ) {s : List ℕ} {o : Option (Bor (List ℕ))} → o ≡ None → Reads s r 0 Fails → Trial r s o
exit r {s} e d = subst (λ (x : Option (Bor (List ℕ))). Trial r s x) (sym e) d
