-- What the table says of a rule at a place.
use Rattle.std.proofs.Common.{◌≡◌, ℕ, List, [], ◌∷◌, Some, None, refl, sym, subst}
use Rattle.weedle_grammar.specs.Trees.{Tree, Mark, Outcome, Fails, Gives}
use Rattle.weedle_grammar.specs.Meaning.{Marked, Raw, Breaks, Yields, shaped}
use Rattle.weedle_grammar.specs.written.Table.{row_of, shape_of, Reads}
use Rattle.weedle_rules.specs.Cells.{HasEnd, end_of}
use Rattle.weedle_grammar.proofs.Unique.{one_outcome}
use Rattle.weedle_grammar.proofs.Inversion.{at_row}
use Rattle.weedle_build_base.specs.Built.{plus, IsTried, Due, Found, Visits, Builds}

ends_at : {text : List ℕ} {r p e : ℕ} (o : Outcome) → Reads text r p o → Some e ≡ end_of o → Found text r p e
ends_at Fails d h = cc
ends_at {text} {r} {p} {e} (Gives ts q) d h = let s : q ≡ e = cc in record { given = ts; reads = subst (λ z. Reads text r p (Gives ts z)) s d }

fails_at : {text : List ℕ} {r p : ℕ} (o : Outcome) → Reads text r p o → None ≡ end_of o → Reads text r p Fails
fails_at Fails d h = d
fails_at (Gives ts q) d h = cc

-- where the table has an end, the rule ends
pub found : {text : List ℕ} {r p e : ℕ} → HasEnd text r p (Some e) → Found text r p e
found h = ends_at h.outcome h.reads h.is

-- where it has none, the rule fails
pub absent : {text : List ℕ} {r p : ℕ} → HasEnd text r p None → Reads text r p Fails
absent h = fails_at h.outcome h.reads h.is

-- which isn't where the rule reads something
pub not_absent : {text : List ℕ} {r p : ℕ} → Due text r p → HasEnd text r p None → ⊥
not_absent d h = let e = one_outcome (absent h) d.reads refl in cc

-- where the table has an end, something is to be built
pub present : {text : List ℕ} {r p e : ℕ} → IsTried text r p → HasEnd text r p (Some e) → Due text r p
present {text} {r} {p} {e} t h = let f = found h in record { given = f.given; end = e; reads = f.reads; wanted = t.wanted; utf8 = t.utf8; boundary = t.boundary }

marked_from : (text : List ℕ) (r p : ℕ) {e : ℕ} {ts : List Tree} → shape_of r ≡ Marked → (w : Raw) → Gives ts e ≡ shaped text (row_of r) (shape_of r) p w → ts ≡ Mark ∷ []
marked_from text r p s Breaks h = cc
marked_from text r p {e} {ts} s (Yields us ends q) h = let k : Gives ts e ≡ Gives (Mark ∷ []) q = rw s at h in cc

-- a marked rule gives its mark
pub marked : {text : List ℕ} {r p v q w : ℕ} → shape_of r ≡ Marked → Found text r p q → w ≡ plus v 1 → Builds text r Mark p v q w
marked {text} {r} {p} {v} {q} {w} s f c =
    let h = at_row refl f.reads in
    let e = marked_from text r p s h.0 h.2 in
    record { reads = subst (λ ts. Reads text r p (Gives ts q)) e f.reads; counts = c }

-- what was built up to a place, with its node visited there
pub visited : {text : List ℕ} {r p v e q w : ℕ} {t : Tree} → Builds text r t p v e w → Visits e v q w → Builds text r t p v q w
visited {text} {r} {p} {v} {e} {q} {w} {t} g h = subst (λ z. Builds text r t p v z w) (sym h.same) g

pub marked_there : {text : List ℕ} {r p v e q w : ℕ} → shape_of r ≡ Marked → Found text r p e → Visits e v q w → Builds text r Mark p v q w
marked_there s f h = visited (marked s f h.counts) h

-- a rule by another name
pub due_at : {text : List ℕ} {r x p : ℕ} → r ≡ x → Due text r p → Due text x p
due_at {text} {r} {x} {p} e d = subst (λ y. Due text y p) e d

pub builds_at : {text : List ℕ} {r x p v q w : ℕ} {t : Tree} → r ≡ x → Builds text x t p v q w → Builds text r t p v q w
builds_at {text} {r} {x} {p} {v} {q} {w} {t} e g = subst (λ y. Builds text y t p v q w) (sym e) g

pub ruleset own_steps = (due_at, builds_at)
