-- More and more is known of a text.
use Rattle.std.proofs.Common.{◌≡◌, ◌⊎◌, inl, inr, ℕ, ◌+◌, ◌<◌, ◌≤◌, List, [], ◌∷◌, ◌++◌, length, get_or, Bool, Option, Some, None, true, false, refl, ap, sym, subst, ◌∙◌, arith}
use Rattle.std.proofs.lemmas.Bool.{cases_lt}
use Rattle.std.proofs.lemmas.List.{length-append}
use Rattle.std.proofs.Math.ListN.{get_or-append}
use Rattle.std.proofs.Math.Seq.{get_or-append_seam}
use Rattle.weedle_grammar.specs.Rows.{Row, Bytes, OneOf, NotNext, Run, Past, Seq, First, Opt, Many, ListOf, List1, Tail, If}
use Rattle.weedle_grammar.specs.written.Table.{row_of}
use Rattle.weedle_rules.specs.Cells.{HasEnd, turn_number}
use Rattle.weedle_rules.proofs.OutcomeFacts.{it_ends, it_fails, not_both}
use Rattle.weedle_starts.specs.Tries.{RowTries, has_no_parts}
use Rattle.weedle_memo.specs.Entries.{MemoEntry, Absent, entry_at}
use Rattle.weedle_memo.specs.Closure.{Memory, Present, Met, stored, passed, MetIf, IsClosed, AreClosed, CoveredIn, Covered, Extends, IsWorked}
use Rattle.weedle_memo.proofs.KnownFacts.{still_absent}
use Rattle.weedle_memo.specs.declared.frame.Frame.{Frame}

-- one entry more
abbrev pub more : Memory → MemoEntry → Memory
more m n = record m { entries = m.entries ++ n ∷ [] }

present_more : {known : List MemoEntry} (n : MemoEntry) {r p : ℕ} → Present known r p → Present (known ++ n ∷ []) r p
present_more {known} n {r} {p} h =
    let low = h.low in
    record {
      index = h.index;
      low = omega (arith, length-append known (n ∷ []));
      rule_is = λ d. ap (λ (v : MemoEntry). v.rule) (get_or-append known (n ∷ []) d h.index low) ∙ h.rule_is d;
      place_is = λ d. ap (λ (v : MemoEntry). v.place) (get_or-append known (n ∷ []) d h.index low) ∙ h.place_is d;
    }

met_more : (m : Memory) (n : MemoEntry) {r p : ℕ} → Met m r p → Met (more m n) r p
met_more m n (stored h) = stored (present_more n h)
met_more m n (passed h) = passed h

-- it is known by the entry that was just made
pub met_last : (m : Memory) (n : MemoEntry) (o : Option ℕ) → MetIf (more m n) n.rule n.place o
met_last m n None = tt
met_last m n (Some v) = stored (record {
  index = length m.entries;
  low = omega (arith, length-append m.entries (n ∷ []));
  rule_is = λ d. ap (λ (v : MemoEntry). v.rule) (get_or-append_seam m.entries n [] d);
  place_is = λ d. ap (λ (v : MemoEntry). v.place) (get_or-append_seam m.entries n [] d);
})

closed_more : (text : List ℕ) (m : Memory) (n : MemoEntry) (r p : ℕ) → IsClosed text m r p → IsClosed text (more m n) r p
closed_more text m n r p h x q e t d = met_more m n (h x q e t d)

all_closed : (text : List ℕ) (m : Memory) (n : MemoEntry) → IsClosed text m n.rule n.place → AreClosed text m → AreClosed text (more m n)
all_closed text m n is are i d l = elim (cases_lt i (length m.entries)) [
  | inl k ↦ (
      let g : get_or (m.entries ++ n ∷ []) i d ≡ get_or m.entries i d = get_or-append m.entries (n ∷ []) d i k in
      subst (λ (v : MemoEntry). IsClosed text (more m n) v.rule v.place) (sym g) (closed_more text m n (get_or m.entries i d).rule (get_or m.entries i d).place (are i d k)))
  | inr k ↦ (
      let e : i ≡ length m.entries = omega (arith, length-append m.entries (n ∷ [])) in
      let g : get_or (m.entries ++ n ∷ []) i d ≡ n = ap (λ z. get_or (m.entries ++ n ∷ []) z d) e ∙ get_or-append_seam m.entries n [] d in
      subst (λ (v : MemoEntry). IsClosed text (more m n) v.rule v.place) (sym g) (closed_more text m n n.rule n.place is))
]

pub extends_one : (m : Memory) (n : MemoEntry) → IsClosed m.text m n.rule n.place → Extends m (more m n) (turn_number (length m.text) n.rule n.place)
extends_one m n is = record {
  text_is = refl;
  start_is = refl;
  longer = omega (arith, length-append m.entries (n ∷ []));
  keeps = λ x q h. met_more m n h;
  leaves = λ x q l h. still_absent m.entries n x q h (λ er ep.
      let e : turn_number (length m.text) n.rule n.place ≡ turn_number (length m.text) x q = ap (λ z. turn_number (length m.text) z n.place) er ∙ ap (λ z. turn_number (length m.text) x z) ep in
      apart _ _ l e);
  closes = all_closed m.text m n is;
}
  where
    apart : (a b : ℕ) → a < b → a ≡ b → ⊥
    apart a b h e = omega arith

pub extends_none : (m : Memory) (c : ℕ) → Extends m m c
extends_none m c = record { text_is = refl; start_is = refl; longer = omega arith; keeps = λ x q h. h; leaves = λ x q l h. h; closes = λ h. h }

below : (a b c : ℕ) → a ≤ b → b < c → a < c
below a b c h k = omega arith

pub extends_on : {m n k : Memory} {c d e : ℕ} → Extends m n c → Extends n k d → c ≤ e → d ≤ e → Extends m k e
extends_on {m} {n} {k} {c} {d} {e} f g cl dl =
    let fl = f.longer in
    let gl = g.longer in
    record {
      text_is = g.text_is ∙ f.text_is;
      start_is = g.start_is ∙ f.start_is;
      longer = omega arith;
      keeps = λ x q h. g.keeps x q (f.keeps x q h);
      leaves = λ x q l h. g.leaves x q (subst (λ z. d < turn_number (length z) x q) (sym f.text_is) (below d e _ dl l)) (f.leaves x q (below c e _ cl l) h);
      closes = λ h. subst (λ z. AreClosed z k) f.text_is (g.closes (subst (λ z. AreClosed z n) (sym f.text_is) (f.closes h)));
    }

-- a row without parts tries nothing
none_tried : (text : List ℕ) (row : Row) (r p x q : ℕ) → has_no_parts row ≡ true → RowTries text row r p x q → ⊥
none_tried text (Bytes b) r p x q h t = t
none_tried text (OneOf c) r p x q h t = t
none_tried text (NotNext c) r p x q h t = t
none_tried text (Run c) r p x q h t = t
none_tried text (Past b) r p x q h t = t
none_tried text (Seq b) r p x q h t = cc
none_tried text (First b) r p x q h t = cc
none_tried text (Opt b) r p x q h t = cc
none_tried text (Many b) r p x q h t = cc
none_tried text (ListOf b c) r p x q h t = cc
none_tried text (List1 b c) r p x q h t = cc
none_tried text (Tail b c) r p x q h t = cc
none_tried text (If b c d) r p x q h t = cc

pub leaf_closed : (text : List ℕ) (m : Memory) (r p : ℕ) → has_no_parts (row_of r) ≡ true → IsClosed text m r p
leaf_closed text m r p h x q e t d = absurd (none_tried text (row_of r) r p x q h t)

-- it was worked out, by one entry
pub worked_one : (m n : Memory) (r p : ℕ) (o : Option ℕ) → n ≡ more m (entry_at r p o) → has_no_parts (row_of r) ≡ true → HasEnd m.text r p o → IsWorked m n r p o
worked_one m n r p o is leaf right = subst (λ z. IsWorked m z r p o) (sym is) (record {
  right = right;
  met = met_last m (entry_at r p o) o;
  extends = extends_one m (entry_at r p o) (leaf_closed m.text m r p leaf);
})

same_met : (m : Memory) (r p : ℕ) (o e : Option ℕ) → HasEnd m.text r p o → HasEnd m.text r p e → MetIf m r p e → MetIf m r p o
same_met m r p None e h k v = tt
same_met m r p (Some q) (Some z) h k v = v
same_met m r p (Some q) None h k v = absurd (not_both (it_fails k) (it_ends h))

-- it was known before
pub worked_before : (m : Memory) (r p : ℕ) (o e : Option ℕ) → HasEnd m.text r p o → HasEnd m.text r p e → MetIf m r p e → IsWorked m m r p o
worked_before m r p o e h k v = record { right = h; met = same_met m r p o e h k v; extends = extends_none m (turn_number (length m.text) r p) }

-- the last of several that were worked out
pub worked_last : {m n k : Memory} (r p q : ℕ) (o : Option ℕ) → Extends m n (turn_number (length m.text) r p) → IsWorked n k r q o → q ≡ p → IsWorked m k r p o
worked_last {m} {n} {k} r p q o e w is = record {
  right = subst (λ z. HasEnd z r p o) e.text_is (subst (λ z. HasEnd n.text r z o) is w.right);
  met = subst (λ z. MetIf k r z o) is w.met;
  extends = extends_on e w.extends (itself _) (subst (λ z. turn_number (length z) r q ≤ turn_number (length m.text) r p) (sym e.text_is) (subst (λ z. turn_number (length m.text) r q ≤ turn_number (length m.text) r z) is (itself _)));
}
  where
    itself : (a : ℕ) → a ≤ a
    itself a = omega arith

-- one more of them, at a place behind
pub extends_behind : {m n k : Memory} (r p q : ℕ) (o : Option ℕ) → Extends m n (turn_number (length m.text) r p) → IsWorked n k r q o → p ≤ q → Extends m k (turn_number (length m.text) r p)
extends_behind {m} {n} {k} r p q o e w is = extends_on e w.extends (itself _) (subst (λ z. turn_number (length z) r q ≤ turn_number (length m.text) r p) (sym e.text_is) (lower (length m.text)))
  where
    itself : (a : ℕ) → a ≤ a
    itself a = omega arith

    lower : (t : ℕ) → turn_number t r q ≤ turn_number t r p
    lower t = omega arith

-- a frame is closed
pub closing : (m n : Memory) (r p : ℕ) (o : Option ℕ) → n ≡ more m (entry_at r p o) → IsClosed m.text m r p → Extends m n (turn_number (length m.text) r p)
closing m n r p o is h = subst (λ z. Extends m z (turn_number (length m.text) r p)) (sym is) (extends_one m (entry_at r p o) h)

pub met_closing : (m n : Memory) (r p : ℕ) (o : Option ℕ) → n ≡ more m (entry_at r p o) → MetIf n r p o
met_closing m n r p o is = subst (λ z. MetIf z r p o) (sym is) (met_last m (entry_at r p o) o)

-- where it was known, it stays known
module _ {m n : Memory} {c : ℕ} (f : Extends m n c) where
  pub met_on : (r p : ℕ) (o : Option ℕ) → MetIf m r p o → MetIf n r p o
  met_on r p (Some e) h = f.keeps r p h
  met_on r p None h = tt

-- what frames tried stays known
module _ (text : List ℕ) {m n : Memory} {c : ℕ} (f : Extends m n c) where
  in_on : {parts rest : List ℕ} {p q : ℕ} → CoveredIn text m parts p rest q → CoveredIn text n parts p rest q
  in_on k = record { still = λ x z e t d. elim (k.still x z e t d) [ inl w ↦ inl (f.keeps x z w) | inr w ↦ inr w ] }

  row_on : (row : Row) (g : Frame) (q : ℕ) → Covered text m row g q → Covered text n row g q
  row_on (Bytes b) g q h = tt
  row_on (OneOf k) g q h = tt
  row_on (NotNext k) g q h = tt
  row_on (Run k) g q h = tt
  row_on (Past b) g q h = tt
  row_on (Seq parts) g q h = in_on h
  row_on (First parts) g q h = h
  row_on (Opt y) g q h = tt
  row_on (Many y) g q h = λ l. f.keeps y g.place (h l)
  row_on (ListOf y t) g q h = λ l. f.keeps y g.place (h l)
  row_on (List1 y t) g q h = λ l. f.keeps y g.place (h l)
  row_on (Tail y s) g q h = ((λ l. f.keeps s g.place (h.0 l)), (λ l. let i = h.1 l in (i.0, i.1, f.keeps y i.0 i.2)))
  row_on (If parts l y) g q h = in_on h

  pub covered_on : (g : Frame) (q : ℕ) → Covered text m (row_of g.rule) g q → Covered text n (row_of g.rule) g q
  covered_on g q h = row_on (row_of g.rule) g q h
