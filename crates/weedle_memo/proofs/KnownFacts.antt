-- How many notes there can be, and one more of them.
use Rattle.std.proofs.Common.{◌≡◌, ◌≢◌, ◌⊎◌, inl, inr, ℕ, zero, suc, ◌+◌, ◌-◌, ◌*◌, ◌<◌, ◌≤◌, List, [], ◌∷◌, ◌++◌, length, map, get_or, set, Bool, true, false, Option, refl, ap, sym, subst, ◌∙◌, arith}
use Rattle.std.specs.Prelude.{◌||◌}
use Rattle.std.proofs.Math.Dec.{eqb}
use Rattle.std.specs.List.{AllByRecursion, IsDistinct, list_any}
use Rattle.std.proofs.lemmas.Bool.{cases_lt}
use Rattle.std.proofs.lemmas.Bool.Decides.{eqb_tells}
use Rattle.std.proofs.lemmas.List.{length-map, length-append, map-append, length-set, get_or-set_same, get_or-set_other}
use Rattle.std.proofs.Math.ListN.{get_or-append}
use Rattle.std.proofs.Math.Seq.{get_or-append_seam}
use Rattle.std.proofs.lemmas.Map.Steps.{length-le_from_distinct_below}
use Rattle.weedle_grammar.specs.written.Bound.{rule_count, table_count}
use Rattle.weedle_grammar.proofs.Leaves.{one_of}
use Rattle.weedle_rules.specs.Cells.{HasEnd, cell_number, turn_number}
use Rattle.weedle_memo.specs.Entries.{MemoEntry, IsRight, AreRight, IsOwn, AreOwn, Absent, AreDistinct}
use Rattle.weedle_memo.specs.ReaderView.{entry_of, AreLinked, IsReader}
use Rattle.weedle_rules.specs.written.Bound.{most_reads}
use Rattle.weedle_rules.specs.TableOfEnds.{AreCounts, IsAmount}
use Rattle.weedle_rules.proofs.CountFacts.{one_more}
use Rattle.std.proofs.Common.{max, All}
use Rattle.std.specs.Prelude.{fold}
use Rattle.std.proofs.lemmas.List.Elements.{All-head, All-tail}
use Rattle.weedle_memo.specs.declared.entries.Entry.{Entry}

apart_all : (c : ℕ) (cells : List ℕ) → ((i : ℕ) (d : ℕ) → i < length cells → get_or cells i d ≡ c → ⊥) → AllByRecursion (λ y. eqb c y ≡ false) cells
apart_all c [] h = tt
apart_all c (x ∷ xs) h = (
  elim (eqb_tells c x) [ inl k ↦ absurd (h 0 x (omega arith) (sym k.1)) | inr k ↦ k.0 ],
  apart_all c xs (λ i d l e. h (suc i) d (omega arith) e),
)

distinct : (cells : List ℕ) → ((i j : ℕ) (d : ℕ) → i < j → j < length cells → get_or cells i d ≡ get_or cells j d → ⊥) → IsDistinct eqb cells
unfolding IsDistinct
distinct [] h = tt
distinct (x ∷ xs) h = (
  apart_all x xs (λ i d l e. h 0 (suc i) d (omega arith) (omega arith) (sym e)),
  distinct xs (λ i j d l m e. h (suc i) (suc j) d (omega arith) (omega arith) e),
)

below_all : (n q : ℕ) (cells : List ℕ) → ((i : ℕ) (d : ℕ) → i < length cells → get_or cells i d < n) → list_any (eqb q) cells ≡ true → q < n
below_all n q [] h e = cc
below_all n q (x ∷ xs) h e = elim (one_of (eqb q x) (list_any (eqb q) xs) e) [
  | inl k ↦ elim (eqb_tells q x) [ inl v ↦ (let b : x < n = h 0 x (omega arith) in let c = v.1 in omega arith) | inr v ↦ absurd (let z : ⊥ = cc in z) ]
  | inr k ↦ below_all n q xs (λ i d l. h (suc i) d (omega arith)) k
]

its_number : (number : MemoEntry → ℕ) (known : List MemoEntry) (i d : ℕ) (e : MemoEntry) → i < length known → get_or (map number known) i d ≡ number (get_or known i e)
its_number number [] i d e h = absurd (omega arith)
its_number number (x ∷ xs) zero d e h = refl
its_number number (x ∷ xs) (suc i) d e h = its_number number xs i d e (omega arith)

-- notes of which each has a number of its own
record Numbering : Type 1 where
  good : MemoEntry → Type 0
  number : MemoEntry → ℕ
  most : ℕ
  apart : (a b : MemoEntry) → good a → good b → number a ≡ number b → (a.rule ≡ b.rule) × (a.place ≡ b.place)
  under : (a : MemoEntry) → good a → number a < most

-- there are at most as many as numbers
few_numbered : (by : Numbering) (known : List MemoEntry) → ((i : ℕ) (d : MemoEntry) → i < length known → by.good (get_or known i d)) → AreDistinct known → length known ≤ by.most
few_numbered by [] are apart = omega arith
few_numbered by (x ∷ xs) are apart =
    let known = x ∷ xs in
    let numbers = map by.number known in
    let l : length numbers ≡ length known = length-map known by.number in
    let d : IsDistinct eqb numbers = distinct numbers (λ i j d a b e.
    let m : j < length known = omega (arith, b, l) in
    let k : i < length known = omega (arith, a, m) in
    let s = by.apart (get_or known i x) (get_or known j x) (are i x k) (are j x m) (sym (its_number by.number known i d x k) ∙ e ∙ its_number by.number known j d x m) in
    apart i j x a m s.0 s.1) in
    let b : (q : ℕ) → list_any (eqb q) numbers ≡ true → q < by.most = λ q h. below_all by.most q numbers (λ i d a.
    let k : i < length known = omega (arith, a, l) in
    subst (λ z. z < by.most) (sym (its_number by.number known i d x k)) (by.under (get_or known i x) (are i x k))) h in
    let f = length-le_from_distinct_below numbers by.most d b in
    omega (arith, f, l)

-- the turn of its rule at its place
abbrev turn_at : List ℕ → MemoEntry → ℕ
turn_at text note = turn_number (length text) note.rule note.place

same_turn : (text : List ℕ) (a b : MemoEntry) → IsRight text a → IsRight text b → turn_at text a ≡ turn_at text b → (a.rule ≡ b.rule) × (a.place ≡ b.place)
same_turn text a b n m e =
    let al = n.low in
    let bl = m.low in
    let aw = n.within in
    let bw = m.within in
    let p : a.place ≡ b.place = omega arith in
    (omega arith, p)

turn_under : (text : List ℕ) (a : MemoEntry) → IsRight text a → turn_at text a < (length text + 1) * rule_count
turn_under text a n = let low = n.low in let within = n.within in omega arith

by_turn : List ℕ → Numbering
by_turn text = record { good = IsRight text; number = turn_at text; most = (length text + 1) * rule_count; apart = same_turn text; under = turn_under text }

-- the cell of its rule, where a table has it
abbrev cell_at : List ℕ → MemoEntry → ℕ
cell_at text note = cell_number (length text) note.rule note.place

abbrev IsCell : List ℕ → MemoEntry → Type 0
IsCell text note = IsRight text note × (note.rule < table_count)

same_cell : (text : List ℕ) (a b : MemoEntry) → IsCell text a → IsCell text b → cell_at text a ≡ cell_at text b → (a.rule ≡ b.rule) × (a.place ≡ b.place)
same_cell text a b n m e =
    let al = n.1 in
    let bl = m.1 in
    let aw = n.0.within in
    let bw = m.0.within in
    let p : a.place ≡ b.place = omega arith in
    (omega arith, p)

cell_under : (text : List ℕ) (a : MemoEntry) → IsCell text a → cell_at text a < (length text + 1) * table_count
cell_under text a n = let low = n.1 in let within = n.0.within in omega arith

by_cell : List ℕ → Numbering
by_cell text = record { good = IsCell text; number = cell_at text; most = (length text + 1) * table_count; apart = same_cell text; under = cell_under text }

-- at most one of each rule at each place
pub few_known : (text : List ℕ) (known : List MemoEntry) → AreRight text known → AreDistinct known → length known ≤ (length text + 1) * rule_count
unfolding by_turn
few_known text known are apart = few_numbered (by_turn text) known are apart

pub few_own : (text : List ℕ) (first : ℕ) (known : List MemoEntry) → AreRight text known → AreOwn first known → AreDistinct known → first < table_count → length known ≤ (length text + 1) * table_count
unfolding by_cell
few_own text first known are own apart l = few_numbered (by_cell text) known (λ i d k. (are i d k, (own i d k).stays l)) apart

-- one note more
pub one_right : (text : List ℕ) (known : List MemoEntry) (n : MemoEntry) → AreRight text known → IsRight text n → AreRight text (known ++ n ∷ [])
one_right text known n are is i d l = elim (cases_lt i (length known)) [
  | inl k ↦ subst (IsRight text) (sym (get_or-append known (n ∷ []) d i k)) (are i d k)
  | inr k ↦ (
      let e : i ≡ length known = omega (arith, length-append known (n ∷ [])) in
      subst (IsRight text) (sym (ap (λ z. get_or (known ++ n ∷ []) z d) e ∙ get_or-append_seam known n [] d)) is)
]

pub one_own : (first : ℕ) (known : List MemoEntry) (n : MemoEntry) → AreOwn first known → IsOwn first n.rule → AreOwn first (known ++ n ∷ [])
one_own first known n are is i d l = elim (cases_lt i (length known)) [
  | inl k ↦ subst (λ (z : MemoEntry). IsOwn first z.rule) (sym (get_or-append known (n ∷ []) d i k)) (are i d k)
  | inr k ↦ (
      let e : i ≡ length known = omega (arith, length-append known (n ∷ [])) in
      subst (λ (z : MemoEntry). IsOwn first z.rule) (sym (ap (λ z. get_or (known ++ n ∷ []) z d) e ∙ get_or-append_seam known n [] d)) is)
]

pub one_apart : (known : List MemoEntry) (n : MemoEntry) → AreDistinct known → Absent known n.rule n.place → AreDistinct (known ++ n ∷ [])
one_apart known n apart none i j d a b er ep =
    let l = length-append known (n ∷ []) in
    let k : i < length known = omega (arith, l) in
    let gi : get_or (known ++ n ∷ []) i d ≡ get_or known i d = get_or-append known (n ∷ []) d i k in
    elim (cases_lt j (length known)) [
      | inl m ↦ (
          let gj : get_or (known ++ n ∷ []) j d ≡ get_or known j d = get_or-append known (n ∷ []) d j m in
          apart i j d a m (ap (λ (v : MemoEntry). v.rule) (sym gi) ∙ er ∙ ap (λ (v : MemoEntry). v.rule) gj) (ap (λ (v : MemoEntry). v.place) (sym gi) ∙ ep ∙ ap (λ (v : MemoEntry). v.place) gj))
      | inr m ↦ (
          let e : j ≡ length known = omega (arith, l) in
          let gj : get_or (known ++ n ∷ []) j d ≡ n = ap (λ z. get_or (known ++ n ∷ []) z d) e ∙ get_or-append_seam known n [] d in
          none i d k (ap (λ (v : MemoEntry). v.rule) (sym gi) ∙ er ∙ ap (λ (v : MemoEntry). v.rule) gj) (ap (λ (v : MemoEntry). v.place) (sym gi) ∙ ep ∙ ap (λ (v : MemoEntry). v.place) gj))
    ]

-- nothing more is known of another cell
pub still_absent : (known : List MemoEntry) (n : MemoEntry) (r p : ℕ) → Absent known r p → (n.rule ≡ r → n.place ≡ p → ⊥) → Absent (known ++ n ∷ []) r p
still_absent known n r p none other i d l er ep = elim (cases_lt i (length known)) [
  | inl k ↦ (
      let g : get_or (known ++ n ∷ []) i d ≡ get_or known i d = get_or-append known (n ∷ []) d i k in
      none i d k (ap (λ (v : MemoEntry). v.rule) (sym g) ∙ er) (ap (λ (v : MemoEntry). v.place) (sym g) ∙ ep))
  | inr k ↦ (
      let e : i ≡ length known = omega (arith, length-append known (n ∷ [])) in
      let g : get_or (known ++ n ∷ []) i d ≡ n = ap (λ z. get_or (known ++ n ∷ []) z d) e ∙ get_or-append_seam known n [] d in
      other (ap (λ (v : MemoEntry). v.rule) (sym g) ∙ er) (ap (λ (v : MemoEntry). v.place) (sym g) ∙ ep))
]

-- one entry more, at the head of its chain
pub one_linked : (heads : List ℕ) (entries : List Entry) (n : Entry) (p m : ℕ) → AreLinked heads entries → p < length heads → n.place ≡ p → m ≡ length entries + 1 → ((d : ℕ) → n.next ≡ get_or heads p d)
    → AreLinked (set heads p m) (entries ++ n ∷ [])
one_linked heads entries n p m linked low np mi nx = record {
  heads_are = λ q i d e ql il eq. (
      let ll = length-append entries (n ∷ []) in
      let hl : q < length heads = omega (arith, ql, length-set heads p m) in
      elim (cases_eq q p) [
        | inl s ↦ subst (λ z. i < z) (sym (ap (λ z. get_or (set heads p m) z d) s ∙ get_or-set_same heads p m d low)) (omega (arith, ll, il, mi))
        | inr s ↦ (
            let hq : get_or (set heads p m) q d ≡ get_or heads q d = get_or-set_other heads p q m d s in
            elim (cases_lt i (length entries)) [
              | inl k ↦ (
                  let g : get_or (entries ++ n ∷ []) i e ≡ get_or entries i e = get_or-append entries (n ∷ []) e i k in
                  subst (λ z. i < z) (sym hq) (linked.heads_are q i d e hl k (ap (λ (v : Entry). v.place) (sym g) ∙ eq)))
              | inr k ↦ absurd (
                  let is : i ≡ length entries = omega (arith, ll) in
                  let g : get_or (entries ++ n ∷ []) i e ≡ n = ap (λ z. get_or (entries ++ n ∷ []) z e) is ∙ get_or-append_seam entries n [] e in
                  s (sym eq ∙ ap (λ (v : Entry). v.place) g ∙ np))
            ])
      ]);
  heads_in = λ q d ql. (
      let ll = length-append entries (n ∷ []) in
      let hl : q < length heads = omega (arith, ql, length-set heads p m) in
      elim (cases_eq q p) [
        | inl s ↦ subst (λ z. z ≤ length (entries ++ n ∷ [])) (sym (ap (λ z. get_or (set heads p m) z d) s ∙ get_or-set_same heads p m d low)) (omega (arith, ll, mi))
        | inr s ↦ subst (λ z. z ≤ length (entries ++ n ∷ [])) (sym (get_or-set_other heads p q m d s)) (let b = linked.heads_in q d hl in omega (arith, ll, b))
      ]);
  links_are = λ i j e a b same. (
      let ll = length-append entries (n ∷ []) in
      let k : i < length entries = omega (arith, ll, b, a) in
      let gi : get_or (entries ++ n ∷ []) i e ≡ get_or entries i e = get_or-append entries (n ∷ []) e i k in
      elim (cases_lt j (length entries)) [
        | inl l ↦ (
            let gj : get_or (entries ++ n ∷ []) j e ≡ get_or entries j e = get_or-append entries (n ∷ []) e j l in
            subst (λ (z : Entry). i < z.next) (sym gj) (linked.links_are i j e a l (ap (λ (v : Entry). v.place) (sym gi) ∙ same ∙ ap (λ (v : Entry). v.place) gj)))
        | inr l ↦ (
            let is : j ≡ length entries = omega (arith, ll) in
            let gj : get_or (entries ++ n ∷ []) j e ≡ n = ap (λ z. get_or (entries ++ n ∷ []) z e) is ∙ get_or-append_seam entries n [] e in
            let h = linked.heads_are p i 0 e low k (ap (λ (v : Entry). v.place) (sym gi) ∙ same ∙ ap (λ (v : Entry). v.place) gj ∙ np) in
            subst (λ (z : Entry). i < z.next) (sym gj) (subst (λ z. i < z) (sym (nx 0)) h))
      ]);
}
  where
    cases_eq : (a b : ℕ) → (a ≡ b) ⊎ (a ≢ b)
    cases_eq a b = elim (eqb_tells a b) [ inl v ↦ inl v.1 | inr v ↦ inr v.1 ]

any_default : (xs : List ℕ) (i e d : ℕ) → i < length xs → get_or xs i e ≡ get_or xs i d
any_default [] i e d h = absurd (omega arith)
any_default (x ∷ xs) zero e d h = refl
any_default (x ∷ xs) (suc i) e d h = any_default xs i e d (omega arith)

-- one frame more is closed
pub reader_closes : (first : ℕ) (text heads : List ℕ) (entries : List Entry) (reads most : ℕ) (n : Entry) (place count len greatest : ℕ) → IsReader first text heads entries reads most
    → place ≤ length text → n.place ≡ place → IsRight text (entry_of n) → IsOwn first n.rule → Absent (map entry_of entries) n.rule n.place → n.next ≡ get_or heads place n.next → len ≡ length entries + 1
    → 0 < count → count ≤ most_reads → greatest ≡ max most count → IsReader first text (set heads place len) (entries ++ n ∷ []) (reads + count) greatest
reader_closes first text heads entries reads most n place count len greatest h within np note mine none nx li looked few gi =
    let low : place < length heads = omega (arith, h.places, within) in
    let m : map entry_of (entries ++ n ∷ []) ≡ map entry_of entries ++ entry_of n ∷ [] = map-append entry_of entries (n ∷ []) in
    let more : length (entries ++ n ∷ []) ≡ length entries + 1 = length-append entries (n ∷ []) in
    record {
      fits = h.fits;
      places = length-set heads place len ∙ h.places;
      linked = one_linked heads entries n place len h.linked low np li (λ d. nx ∙ any_default heads place n.next d low);
      right = subst (AreRight text) (sym m) (one_right text (map entry_of entries) (entry_of n) h.right note);
      own = subst (AreOwn first) (sym m) (one_own first (map entry_of entries) (entry_of n) h.own mine);
      apart = subst AreDistinct (sym m) (one_apart (map entry_of entries) (entry_of n) h.apart none);
      counts = h.counts ++ count ∷ [];
      counted = subst (λ z. AreCounts most_reads (h.counts ++ count ∷ []) (length (entries ++ n ∷ [])) (reads + count) z) (sym gi) (one_more most_reads h.counts (length entries) (length (entries ++ n ∷ [])) reads most count h.counted looked few more);
    }

pub most_few : (k : ℕ) (counts : List ℕ) (a : ℕ) → a ≤ k → All (IsAmount k) counts → fold max a counts ≤ k
most_few k [] a h e = h
most_few k (c ∷ cs) a h e =
    let one = All-head (IsAmount k) c cs e in
    most_few k cs (max a c) (omega (arith, h, one.1)) (All-tail (IsAmount k) c cs e)
