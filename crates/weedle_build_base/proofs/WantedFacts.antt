-- What the second pass asks for: what a rule that is read tries.
use Rattle.std.proofs.Common.{◌≡◌, ◌≢◌, inl, inr, ℕ, ◌+◌, ◌<◌, List, [], ◌∷◌, drop, slice_get, Some, refl, sym, subst, ap, ◌∙◌, arith}
use Rattle.std.specs.Prelude.{IsUtf8, IsCharBoundary}
use Rattle.weedle_grammar.specs.Rows.{Row, Opt, Many, ListOf, Tail}
use Rattle.weedle_grammar.specs.Trees.{Tree, Gives}
use Rattle.weedle_grammar.specs.written.Table.{row_of, Reads}
use Rattle.weedle_grammar.proofs.GrammarFacts.{at_boundary}
use Rattle.weedle_grammar.proofs.Inversion.{of_tail}
use Rattle.weedle_rules.specs.Outcomes.{EndsAt, FailsAt}
use Rattle.weedle_rules.proofs.OutcomeFacts.{has_end, one_end, not_both}
use Rattle.weedle_rules.proofs.RowEnds.{raw_end, row_ends}
use Rattle.weedle_starts.specs.Tries.{RowTries, TriesInTurn, TriesByChoice}
use Rattle.weedle_starts.proofs.ReadFacts.{many_goes, tail_goes}
use Rattle.weedle_memo.specs.Wanted.{Wanted, by}
use Rattle.weedle_build_base.specs.Built.{IsTried, Due}
use Rattle.weedle_build_base.proofs.Sequences.{part_here}

-- a rule that reads something at a place is tried there
pub tried_due : {text : List ℕ} {r p : ℕ} → Due text r p → IsTried text r p
tried_due d = record { wanted = d.wanted; utf8 = d.utf8; boundary = d.boundary }

-- where it ends
pub ends_due : {text : List ℕ} {r p : ℕ} (d : Due text r p) → EndsAt text r p d.end
ends_due d = (d.given, d.reads)

-- what it tries is wanted
pub wanted_by : {text : List ℕ} {r p x q : ℕ} {row : Row} → Due text r p → row_of r ≡ row → RowTries text row r p x q → Wanted text x q
wanted_by {text} {r} {p} {x} {q} {row} d is h = by d.wanted (ends_due d) (subst (λ z. RowTries text z r p x q) (sym is) h)

-- and tried, at the same place
pub tried_here : {text : List ℕ} {r p x : ℕ} {row : Row} → Due text r p → row_of r ≡ row → RowTries text row r p x p → IsTried text x p
tried_here d is h = record { wanted = wanted_by d is h; utf8 = d.utf8; boundary = d.boundary }

-- the item of an option, and of a list
pub option_tried : {text : List ℕ} {r p x : ℕ} → Due text r p → Opt x ≡ row_of r → IsTried text x p
option_tried d is = tried_here d (sym is) (refl, refl)

pub list_tried : {text : List ℕ} {r p x t : ℕ} → Due text r p → ListOf x t ≡ row_of r → IsTried text x p
list_tried d is = tried_here d (sym is) (inl (refl, refl))

-- behind an item that is repeated, the rule goes on
pub goes_on : {text : List ℕ} {r p q x : ℕ} {ts : List Tree} → Due text r p → row_of r ≡ Many x → Reads text x p (Gives ts q) → Due text r q
goes_on {text} {r} {p} {q} {x} {ts} d is h =
    let g = many_goes text r p d.end (ends_due d) is (ts, h) in
    let n : q ≢ p = λ e. (let l = g.0 in omega arith) in
    record {
      given = g.1.0;
      end = d.end;
      reads = g.1.1;
      wanted = wanted_by d is (inr (q, (ts, h), n, (refl, refl)));
      utf8 = d.utf8;
      boundary = at_boundary text x p d.utf8 d.boundary ts q h;
    }

-- a separator takes something, where the items behind separators are read
separated : {text : List ℕ} {r p y s q : ℕ} → Due text r p → row_of r ≡ Tail y s → EndsAt text s p q → q ≢ p
separated d is h stuck =
    let m = row_ends is (has_end (ends_due d)) in
    elim (of_tail m.reads) [
      | inl k ↦ not_both k.0 h
      | inr (inl k) ↦ (let a = m.is ∙ ap raw_end k.2 in let n : ⊥ = cc in n)
      | inr (inr (inl (ts, u, given, ne, fails, w))) ↦ ne (one_end h (ts, given) ∙ stuck)
      | inr (inr (inr (ts, us, u, x, v, given, ne, item, more, w))) ↦ ne (one_end h (ts, given) ∙ stuck)
    ]

module _ {text : List ℕ} {r p y s q : ℕ} {ts : List Tree} (d : Due text r p) (is : row_of r ≡ Tail y s) (h : Reads text s p (Gives ts q)) where
  -- so the item behind it is tried
  pub item_behind : IsTried text y q
  item_behind = record { wanted = wanted_by d is (inr (q, (ts, h), separated d is (ts, h), inl (refl, refl))); utf8 = d.utf8; boundary = at_boundary text s p d.utf8 d.boundary ts q h }

  -- and behind the item the rule goes on
  pub goes_behind : {us : List Tree} {z : ℕ} → Reads text y q (Gives us z) → Due text r z
  goes_behind {us} {z} k =
      let g = tail_goes text r p d.end (ends_due d) is (ts, h) (us, k) in
      record {
        given = g.1.0;
        end = d.end;
        reads = g.1.1;
        wanted = wanted_by d is (inr (q, (ts, h), separated d is (ts, h), inr (z, (us, k), (refl, refl))));
        utf8 = d.utf8;
        boundary = at_boundary text y q d.utf8 item_behind.boundary us z k;
      }

-- of rules one after another, or of a choice, from number i on
module _ {text : List ℕ} (rs : List ℕ) (i : ℕ) {x p : ℕ} (at : slice_get rs i ≡ Some x) where
  module _ (all : (y q : ℕ) → TriesInTurn text (drop i rs) p y q → Wanted text y q) where
    pub part_wanted : Wanted text x p
    part_wanted = all x p (subst (λ ys. TriesInTurn text ys p x p) (sym (part_here rs i at)) (inl (refl, refl)))

    pub parts_wanted : {e : ℕ} → EndsAt text x p e → (y q : ℕ) → TriesInTurn text (drop (i + 1) rs) e y q → Wanted text y q
    parts_wanted {e} h y q k = all y q (subst (λ ys. TriesInTurn text ys p y q) (sym (part_here rs i at)) (inr (e, h, k)))

  module _ (all : (y q : ℕ) → TriesByChoice text (drop i rs) p y q → Wanted text y q) where
    pub first_wanted : Wanted text x p
    first_wanted = all x p (subst (λ ys. TriesByChoice text ys p x p) (sym (part_here rs i at)) (inl (refl, refl)))

    pub others_wanted : FailsAt text x p → (y q : ℕ) → TriesByChoice text (drop (i + 1) rs) p y q → Wanted text y q
    others_wanted h y q k = all y q (subst (λ ys. TriesByChoice text ys p y q) (sym (part_here rs i at)) (inr (h, k)))
