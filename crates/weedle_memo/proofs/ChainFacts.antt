-- The chains of entries, and what is known by them.
use Rattle.std.proofs.Common.{◌≡◌, inl, inr, ℕ, zero, suc, ◌+◌, ◌-◌, ◌<◌, ◌≤◌, List, [], ◌∷◌, ◌++◌, length, map, get_or, set, Option, refl, ap, sym, subst, ◌∙◌, arith}
use Rattle.std.proofs.lemmas.Bool.{cases_lt}
use Rattle.std.proofs.lemmas.List.{get_or-map, length-map}
use Rattle.weedle_rules.specs.Cells.{HasEnd}
use Rattle.weedle_memo.specs.Entries.{MemoEntry, IsRight, AreRight, Absent, AreDistinct}
use Rattle.weedle_memo.specs.Closure.{Memory, Present, Met, stored, passed, MetIf}
use Rattle.weedle_memo.specs.Tables.{IsPassed}
use Rattle.weedle_memo.specs.declared.frame.Look.TheVariants.{Known, Unknown}
use Rattle.std.proofs.Common.{Some, None}
use Rattle.weedle_memo.specs.ReaderView.{entry_of, AreLinked}
use Rattle.weedle_memo.specs.declared.entries.Entry.{Entry}

-- the note of an entry
pub its_entry : (entries : List Entry) (i : ℕ) (e : Entry) (d : MemoEntry) → i < length entries → get_or (map entry_of entries) i d ≡ entry_of (get_or entries i e)
its_entry [] i e d h = absurd (omega arith)
its_entry (x ∷ xs) zero e d h = refl
its_entry (x ∷ xs) (suc i) e d h = its_entry xs i e d (omega arith)

pub found : (text : List ℕ) (entries : List Entry) (at : ℕ) (e : Entry) (r p : ℕ) → AreRight text (map entry_of entries) → at < length entries → e ≡ get_or entries at e
    → e.rule ≡ r → e.place ≡ p → HasEnd text r p e.end
found text entries at e r p are low is er ep =
    let n : IsRight text (entry_of (get_or entries at e)) = subst (IsRight text) (its_entry entries at e (entry_of e) low) (are at (entry_of e) (omega (arith, length-map entries entry_of))) in
    let m : IsRight text (entry_of e) = subst (λ (z : Entry). IsRight text (entry_of z)) (sym is) n in
    subst (λ z. HasEnd text z p e.end) er (subst (λ z. HasEnd text e.rule z e.end) ep m.right)

-- an entry to take as another
pub not_found : (entries : List Entry) (r p : ℕ) → ((i : ℕ) (e : Entry) → i < length entries → (get_or entries i e).rule ≡ r → (get_or entries i e).place ≡ p → i < 0) → Absent (map entry_of entries) r p
not_found [] r p none i d low er ep = absurd (omega arith)
not_found (x ∷ xs) r p none i d low er ep =
    let l : i < length (x ∷ xs) = omega (arith, length-map (x ∷ xs) entry_of) in
    let k = its_entry (x ∷ xs) i x d l in
    absurd (let z : i < 0 = none i x l (sym (ap (λ (n : MemoEntry). n.rule) k) ∙ er) (sym (ap (λ (n : MemoEntry). n.place) k) ∙ ep) in omega arith)

-- along the chain
pub chained : (heads : List ℕ) (entries : List Entry) (r p at : ℕ) (e : Entry) → AreLinked heads entries → at < length entries → e ≡ get_or entries at e → e.place ≡ p → (e.rule ≡ r → ⊥)
    → ((i : ℕ) (f : Entry) → i < length entries → (get_or entries i f).rule ≡ r → (get_or entries i f).place ≡ p → i < at + 1)
    → (i : ℕ) (f : Entry) → i < length entries → (get_or entries i f).rule ≡ r → (get_or entries i f).place ≡ p → i < e.next
chained heads entries r p at e linked low is ep other known i f l er fp = elim (cases_lt i at) [
  | inl k ↦ (
      let same : get_or entries i e ≡ get_or entries i f = any entries i e f l in
      let pl : (get_or entries i e).place ≡ (get_or entries at e).place = ap (λ (z : Entry). z.place) same ∙ fp ∙ sym ep ∙ ap (λ (z : Entry). z.place) is in
      subst (λ (z : Entry). i < z.next) (sym is) (linked.links_are i at e k low pl))
  | inr k ↦ absurd (
      let b : i < at + 1 = known i f l er fp in
      let same : i ≡ at = omega arith in
      other (ap (λ (z : Entry). z.rule) (is ∙ any entries at e f low ∙ ap (λ j. get_or entries j f) (sym same)) ∙ er))
]
  where
    any : (entries : List Entry) (i : ℕ) (e f : Entry) → i < length entries → get_or entries i e ≡ get_or entries i f
    any [] i e f h = absurd (omega arith)
    any (x ∷ xs) zero e f h = refl
    any (x ∷ xs) (suc i) e f h = any xs i e f (omega arith)

-- the entry of the rule at the place is known
found_present : (entries : List Entry) (at : ℕ) (e : Entry) (r p : ℕ) → at < length entries → e ≡ get_or entries at e → e.rule ≡ r → e.place ≡ p → Present (map entry_of entries) r p
found_present entries at e r p low is er ep = record {
  index = at;
  low = omega (arith, length-map entries entry_of);
  rule_is = λ d. ap (λ (n : MemoEntry). n.rule) (its_entry entries at e d low) ∙ ap (λ (n : Entry). n.rule) (sym is) ∙ er;
  place_is = λ d. ap (λ (n : MemoEntry). n.place) (its_entry entries at e d low) ∙ ap (λ (n : Entry). n.place) (sym is) ∙ ep;
}

pub found_met : (m : Memory) (entries : List Entry) (at : ℕ) (e : Entry) (r p : ℕ) (o : Option ℕ) → m.entries ≡ map entry_of entries → at < length entries → e ≡ get_or entries at e → e.rule ≡ r → e.place ≡ p → MetIf m r p o
found_met m entries at e r p None same low is er ep = tt
found_met m entries at e r p (Some v) same low is er ep = stored (subst (λ z. Present z r p) (sym same) (found_present entries at e r p low is er ep))

-- what a byte says is known
pub passed_right : (words text : List ℕ) (r p : ℕ) (o : Option ℕ) → IsPassed words text r p (Known o) → HasEnd text r p o
passed_right words text r p None h = h
passed_right words text r p (Some e) h = h.0

pub passed_met : (m : Memory) (r p : ℕ) (o : Option ℕ) → IsPassed m.words m.text r p (Known o) → MetIf m r p o
passed_met m r p None h = tt
passed_met m r p (Some e) h = passed h.1
