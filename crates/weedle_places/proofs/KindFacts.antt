-- The first alternative of a choice that fits.
use Rattle.std.proofs.Common.{◌≡◌, inl, inr, ℕ, suc, List, [], ◌∷◌, Some, refl, sym, subst, ◌∙◌, ap}
use Rattle.weedle_grammar.specs.Rows.{First}
use Rattle.weedle_grammar.specs.Trees.{Outcome}
use Rattle.weedle_grammar.specs.Meaning.{ReadsFirst}
use Rattle.weedle_grammar.specs.written.Table.{webidl, row_of}
use Rattle.weedle_grammar.proofs.Inversion.{of_first, of_choice}
use Rattle.weedle_rules.specs.Cells.{end_of}
use Rattle.weedle_rules.specs.Outcomes.{EndsAt}
use Rattle.weedle_rules.proofs.OutcomeFacts.{not_both, has_end}
use Rattle.weedle_rules.proofs.RowEnds.{row_ends, raw_of_end, raw_end}
use Rattle.weedle_syntax.specs.declared.dialect.Dialect.{Dialect}
use Rattle.weedle_syntax.specs.declared.dialect.Dialect.TheVariants.{Weedle2, Today}
use Rattle.weedle_places.specs.Members.{FitsFirst, choices_in, choice_of}

-- the choice ends where the rule does that is first to fit
ends_so : (text rs : List ℕ) (i p a e : ℕ) (o : Outcome) → FitsFirst text rs p a → ReadsFirst webidl text rs i p o → Some e ≡ end_of o → EndsAt text a p e
ends_so text [] i p a e o h d k = absurd h
ends_so text (r ∷ rs) i p a e o (inl h) d k = elim (of_choice d) [
  | inl w ↦ (
      let q = ap end_of w.3 in
      let same : w.1 ≡ e = cc in
      subst (λ x. EndsAt text x p e) (sym h.0) (subst (EndsAt text r p) same (w.0, w.2)))
  | inr w ↦ absurd (not_both w.0 h.1.1)
]
ends_so text (r ∷ rs) i p a e o (inr h) d k = elim (of_choice d) [
  | inl w ↦ absurd (not_both h.0 (w.0, w.2))
  | inr w ↦ ends_so text rs (suc i) p a e o h.1 w.1 k
]

-- the choice among the kinds of definitions
pub choice_row : (dialect : Dialect) → row_of (choice_of dialect) ≡ First (choices_in (row_of (choice_of dialect)))
choice_row Weedle2 = refl
choice_row Today = refl

pub kind_ends : (dialect : Dialect) (text : List ℕ) (p a e : ℕ) → FitsFirst text (choices_in (row_of (choice_of dialect))) p a → EndsAt text (choice_of dialect) p e → EndsAt text a p e
kind_ends dialect text p a e h d =
    let m = row_ends {row = First (choices_in (row_of (choice_of dialect)))} (choice_row dialect) (has_end d) in
    let f = of_first m.reads in
    ends_so text (choices_in (row_of (choice_of dialect))) 0 p a e f.0 h f.1 (m.is ∙ ap raw_end f.2 ∙ raw_of_end f.0)
