-- Items behind separators that are built one after another.
use Rattle.std.proofs.Common.{◌≡◌, ◌≢◌, ℕ, ◌+◌, ◌≤◌, ◌<◌, List, [], ◌∷◌, ◌++◌, Some, None, refl, sym, subst, ap, ◌∙◌, arith, inl, inr}
use Rattle.std.specs.Prelude.{IsUtf8, IsCharBoundary}
use Rattle.std.proofs.lemmas.List.{append-nil}
use Rattle.weedle_grammar.specs.Rows.{Row, Bytes, OneOf, NotNext, Run as RunOf, Past, Seq, First, Opt, Many, ListOf, List1, Tail, If}
use Rattle.weedle_grammar.specs.Trees.{Tree, trees, Items, Outcome, Fails, Gives}
use Rattle.weedle_grammar.specs.Meaning.{Shape, Silent, Marked, Kept, Line, Joined, Inner, Plain, Raw, Breaks, Yields, before, raw_of, shaped, ReadsRow, tail_end, tail_back, tail_more, list_none, list_more, by_row}
use Rattle.weedle_grammar.specs.written.Table.{webidl, row_of, shape_of, Reads}
use Rattle.weedle_rules.specs.Cells.{HasEnd}
use Rattle.weedle_grammar.specs.Size.{size, total_size}
use Rattle.weedle_grammar.proofs.Unique.{one_outcome}
use Rattle.weedle_grammar.proofs.Inversion.{at_row, of_tail, of_list}
use Rattle.weedle_grammar.proofs.Exists.{grows}
use Rattle.weedle_grammar.proofs.GrammarFacts.{at_boundary}
use Rattle.weedle_grammar.proofs.Size.Lists.{size_trees, size_append}
use Rattle.weedle_build_base.specs.Fits.{fits_list, fits_tail}
use Rattle.weedle_memo.specs.Wanted.{Wanted}
use Rattle.weedle_build_base.specs.Built.{plus, IsTried, Due, Builds, Visits, IsDueList, BuiltItems}
use Rattle.weedle_build_base.proofs.Finding.{absent, present, found}
use Rattle.weedle_build_base.proofs.WantedFacts.{wanted_by, tried_here, item_behind, goes_behind}
use Rattle.weedle_build_base.proofs.Repeats.{before_more, before_none}

-- the items behind separators from p on gave these trees; q is where the next separator begins. v and w are the counts there
pub record Tailing (text : List ℕ) (x s p v : ℕ) (ts : List Tree) (q w : ℕ) : Type 0 where
  pub given : List Tree
  pub ends : List ℕ
  pub end : ℕ
  pub left : ReadsRow webidl text (Tail x s) q (Yields given ends end)
  pub whole : (r : Raw) → ReadsRow webidl text (Tail x s) q r → ReadsRow webidl text (Tail x s) p (before ts r)
  pub counts : (k : ℕ) → plus w k ≡ plus v (total_size ts + k)
  pub after : p ≤ q
  -- the rule of the items behind separators, at q
  pub rule : ℕ
  pub row : row_of rule ≡ Tail x s
  pub due : Due text rule q

tail_from : {text : List ℕ} {t x s q : ℕ} (w : ℕ) (row : Row) (shape : Shape) (r : Raw) (us : List Tree) (e : ℕ) → Due text t q → row_of t ≡ Tail x s
    → ReadsRow webidl text (Tail x s) q r → Gives us e ≡ shaped text row shape q r → Tailing text x s q w [] q w
tail_from w row shape Breaks us e u k d h = cc
tail_from {text} {t} {x} {s} {q} w row shape (Yields os ends z) us e u k d h = record {
  given = os;
  ends = ends;
  end = z;
  left = d;
  whole = λ r d. subst (λ y. ReadsRow webidl text (Tail x s) q y) (before_none r) d;
  counts = λ k. omega arith;
  after = omega arith;
  rule = t;
  row = k;
  due = u;
}

-- behind the first item
pub tailing_start : {text : List ℕ} {t x s q : ℕ} (w : ℕ) → Due text t q → row_of t ≡ Tail x s → Tailing text x s q w [] q w
tailing_start {text} {t} {x} {s} {q} w d e = let a = at_row e d.reads in tail_from w (Tail x s) (shape_of t) a.0 d.given d.end d e a.1 a.2

module _ {text : List ℕ} {x s p v : ℕ} {ts : List Tree} {q w : ℕ} (h : Tailing text x s p v ts q w) where
  -- a separator is tried
  pub separator_tried : IsTried text s q
  separator_tried = tried_here h.due h.row (inl (refl, refl))

  module _ {k : ℕ} (sep : HasEnd text s q (Some k)) where
    -- an item is tried behind it, and due where the table has an end
    pub behind_tried : IsTried text x k
    behind_tried = let f = found sep in item_behind h.due h.row f.reads

    pub behind_due : {e : ℕ} → HasEnd text x k (Some e) → Due text x k
    behind_due e = present behind_tried e

    module _ {t : Tree} {e z : ℕ} (g : Builds text x t k w e z) where
      go_on : (us us' : List Tree) (ends : List ℕ) (r : Raw) → Reads text s q (Gives us k) → k ≢ q → ReadsRow webidl text (Tail x s) e r
          → Yields h.given h.ends h.end ≡ before us' r → Tailing text x s p v (ts ++ (t ∷ [])) e z
      go_on us us' ends Breaks f n d y = cc
      go_on us us' ends (Yields os os_ends os_end) f n d y = record {
        given = os;
        ends = os_ends;
        end = os_end;
        left = d;
        whole = λ r d. subst (λ b. ReadsRow webidl text (Tail x s) p b) (before_more ts t r) (h.whole (before (t ∷ []) r) (tail_more f n g.reads d refl));
        counts = λ j. let a = h.counts (size t + j) in omega (arith, g.counts, a, size_append ts (t ∷ []));
        after = let l : q ≤ k = grows webidl text f in let m : k ≤ e = grows webidl text g.reads in omega (arith, h.after);
        rule = h.rule;
        row = h.row;
        due = goes_behind h.due h.row f g.reads;
      }

      -- one more item, behind where it began
      pub tailing_next : Tailing text x s p v (ts ++ (t ∷ [])) e z × (q < e)
      tailing_next =
          let f = found sep in
          elim (of_tail h.left) [
            | inl c ↦ absurd (let y = one_outcome c.0 f.reads refl in cc)
            | inr c ↦ elim c [
              | inl c ↦ absurd (let y = c.2 in cc)
              | inr c ↦ elim c [
                | inl c ↦ absurd (let y = one_outcome c.2 f.reads refl in let j : c.1 ≡ k = cc in let y' = one_outcome c.4 g.reads j in cc)
                | inr c ↦ (let y = one_outcome c.5 f.reads refl in
                    let j : c.2 ≡ k = cc in
                    let y' = one_outcome c.7 g.reads j in
                    let i : c.3 ≡ e = cc in
                    let n : k ≢ q = λ b. c.6 (j ∙ b) in
                    let l : q ≤ k = grows webidl text f.reads in
                    let m : k ≤ e = grows webidl text g.reads in
                    (go_on f.given c.1 [] c.4 f.reads n (subst (λ b. ReadsRow webidl text (Tail x s) b c.4) i c.8) c.9, omega arith))
              ]
            ]
          ]

    -- no item behind a separator: the list ends before it
    pub tailing_back : HasEnd text x k None → ReadsRow webidl text (Tail x s) p (before ts (Yields [] [] q))
    tailing_back e =
        let f = found sep in
        let a = absent e in
        let n : k ≢ q = (λ b. elim (of_tail h.left) [
          | inl c ↦ absurd (let y = one_outcome c.0 f.reads refl in cc)
          | inr c ↦ elim c [
            | inl c ↦ absurd (let y = c.2 in cc)
            | inr c ↦ elim c [
              | inl c ↦ (let y = one_outcome c.2 f.reads refl in let j : c.1 ≡ k = cc in c.3 (j ∙ b))
              | inr c ↦ (let y = one_outcome c.5 f.reads refl in let j : c.2 ≡ k = cc in c.6 (j ∙ b))
            ]
          ]
        ]) in
        h.whole (Yields [] [] q) (tail_back f.reads n a refl)

  -- no separator
  pub tailing_end : HasEnd text s q None → ReadsRow webidl text (Tail x s) p (before ts (Yields [] [] q))
  tailing_end e = h.whole (Yields [] [] q) (tail_end (absent e) refl)

-- an item, and those behind it so far
pub record Listing (text : List ℕ) (x s p v : ℕ) (ts : List Tree) (q w : ℕ) : Type 0 where
  pub first : Tree
  pub others : List Tree
  pub all : ts ≡ first ∷ others
  pub place : ℕ
  pub count : ℕ
  pub head : Builds text x first p v place count
  pub tail : Tailing text x s place count others q w

-- behind the first
pub listing_start : {text : List ℕ} {x t s p v q w : ℕ} {u : Tree} → IsDueList text x t p → row_of t ≡ Tail x s → Builds text x u p v q w → Listing text x s p v (u ∷ []) q w
listing_start {text} {x} {t} {s} {p} {v} {q} {w} {u} d row g =
    record { first = u; others = []; all = refl; place = q; count = w; head = g; tail = tailing_start w (d.next (u ∷ []) q g.reads) row }

module _ {text : List ℕ} {x s p v : ℕ} {ts : List Tree} {q w : ℕ} (h : Listing text x s p v ts q w) where
  -- behind one more
  pub listing_next : {k e z : ℕ} {t : Tree} → HasEnd text s q (Some k) → Builds text x t k w e z → Listing text x s p v (ts ++ (t ∷ [])) e z × (q < e)
  listing_next {k} {e} {z} {t} sep g =
      let n = tailing_next h.tail sep g in
      (record { first = h.first; others = h.others ++ (t ∷ []); all = ap (λ us. us ++ (t ∷ [])) h.all; place = h.place; count = h.count; head = h.head; tail = n.0 }, n.1)

  module _ {t : ℕ} (row : row_of t ≡ Tail x s) (shape : shape_of t ≡ Plain) where
    items_from : ReadsRow webidl text (Tail x s) h.place (before h.others (Yields [] [] q)) → BuiltItems text x t p v ts q w
    items_from d = record {
      first = h.first;
      others = h.others;
      all = h.all;
      place = h.place;
      head = h.head.reads;
      tail = by_row (subst (λ row. ReadsRow webidl text row h.place (before h.others (Yields [] [] q))) (sym row) d) (rw (shape, row, append-nil h.others) refl);
      counts = λ k. let a = h.tail.counts k in let b = ap total_size h.all in omega (arith, h.head.counts, a, b);
    }

    -- no separator follows
    pub listing_end : HasEnd text s q None → BuiltItems text x t p v ts q w
    listing_end f = items_from (tailing_end h.tail f)

    -- no item follows the separator
    pub listing_back : {k : ℕ} → HasEnd text s q (Some k) → HasEnd text x k None → BuiltItems text x t p v ts q w
    listing_back sep f = items_from (tailing_back h.tail sep f)

-- what follows the items of a list is due where the list is
pub due_behind : {text : List ℕ} {t : ℕ} (row : Row) (shape : Shape) (p q : ℕ) (given ts : List Tree) (end : ℕ) (o : Outcome) → Wanted text t q → IsUtf8 text → IsCharBoundary text q
    → Gives given end ≡ shaped text row shape p (before ts (raw_of o)) → Reads text t q o → Due text t q
due_behind row shape p q given ts end Fails a u b h d = cc
due_behind row shape p q given ts end (Gives us z) a u b h d = record { given = us; end = z; reads = d; wanted = a; utf8 = u; boundary = b }

due_list_from : {text : List ℕ} {x t p : ℕ} (given : List Tree) (end : ℕ) (shape : Shape) (raw : Raw) → ReadsRow webidl text (ListOf x t) p raw → Gives given end ≡ shaped text (ListOf x t) shape p raw
    → ((us : List Tree) (q : ℕ) → Reads text x p (Gives us q) → Wanted text t q) → Due text x p → IsDueList text x t p
due_list_from {text} {x} {t} {p} given end shape raw d h wanted item = record {
  item = item;
  next = λ us q g. elim (of_list d) [
    | inl n ↦ absurd (let z = one_outcome n.0 g refl in cc)
    | inr m ↦ (let z = one_outcome m.3 g refl in
        let j : m.1 ≡ q = cc in
        let k : raw ≡ before m.0 (raw_of m.2) = m.5 in
        due_behind (ListOf x t) shape p q given m.0 end m.2 (wanted us q g) item.utf8 (at_boundary text x p item.utf8 item.boundary us q g) (h ∙ ap (shaped text (ListOf x t) shape p) k) (subst (λ y. Reads text t y m.2) j m.4))
  ];
}

-- a list where an item is next
pub due_list : {text : List ℕ} {r x t p : ℕ} → Due text r p → row_of r ≡ ListOf x t → Due text x p → IsDueList text x t p
due_list {text} {r} {x} {t} {p} d row item = let h = at_row row d.reads in due_list_from d.given d.end (shape_of r) h.0 h.1 h.2 (λ us q g. wanted_by d row (inr (q, (us, g), (refl, refl)))) item

-- what was built of a list
pub list_built : {text : List ℕ} {r x t p v q w y a : ℕ} {ts : List Tree} → row_of r ≡ ListOf x t → shape_of r ≡ Plain → BuiltItems text x t p v ts q w → Visits q w y a
    → Builds text r (Items (trees ts)) p v y a
list_built {text} {r} {x} {t} {p} {v} {q} {w} {y} {a} {ts} row shape g n = record {
  reads = by_row (subst (λ row. ReadsRow webidl text row p (before (g.first ∷ []) (raw_of (Gives g.others q)))) (sym row) (list_more g.head g.tail refl)) (rw (shape, row, n.same, g.all) refl);
  counts = let k = g.counts 1 in omega (arith, n.counts, k, size_trees ts);
}

-- a list of nothing
pub list_empty : {text : List ℕ} {r x t p v e a : ℕ} → row_of r ≡ ListOf x t → shape_of r ≡ Plain → Reads text x p Fails → Visits p v e a
    → Builds text r (Items (trees [])) p v e a
list_empty {text} {r} {x} {t} {p} {v} {e} {a} row shape d n = record {
  reads = by_row (subst (λ row. ReadsRow webidl text row p (Yields [] [] p)) (sym row) (list_none d refl)) (rw (shape, row, n.same) refl);
  counts = n.counts;
}

-- a tail of the items
pub fits_tail_is : (x : ℕ) (row : Row) (shape : Shape) {y s : ℕ} → Tail y s ≡ row → fits_tail x row shape → (row ≡ Tail x s) × (shape ≡ Plain)
fits_tail_is x (Bytes b) shape e f = absurd f
fits_tail_is x (OneOf c) shape e f = absurd f
fits_tail_is x (NotNext c) shape e f = absurd f
fits_tail_is x (RunOf c) shape e f = absurd f
fits_tail_is x (Past b) shape e f = absurd f
fits_tail_is x (Seq xs) shape e f = absurd f
fits_tail_is x (First ps) shape e f = absurd f
fits_tail_is x (Opt y) shape e f = absurd f
fits_tail_is x (Many y) shape e f = absurd f
fits_tail_is x (ListOf y t) shape e f = absurd f
fits_tail_is x (List1 y t) shape e f = absurd f
fits_tail_is x (Tail a b) Plain {y} {s} e f = (let h : b ≡ s = cc in cc, refl)
fits_tail_is x (Tail a b) Silent e f = absurd f
fits_tail_is x (Tail a b) Marked e f = absurd f
fits_tail_is x (Tail a b) (Kept k) e f = absurd f
fits_tail_is x (Tail a b) Line e f = absurd f
fits_tail_is x (Tail a b) Joined e f = absurd f
fits_tail_is x (Tail a b) Inner e f = absurd f
fits_tail_is x (If xs k y) shape e f = absurd f

-- a list whose items fit
pub fits_list_is : (F : ℕ → Type 0) (row : Row) (shape : Shape) {x t : ℕ} → ListOf x t ≡ row → fits_list F row shape → F x × fits_tail x (row_of t) (shape_of t) × (shape ≡ Plain)
fits_list_is F (Bytes b) shape e f = absurd f
fits_list_is F (OneOf c) shape e f = absurd f
fits_list_is F (NotNext c) shape e f = absurd f
fits_list_is F (RunOf c) shape e f = absurd f
fits_list_is F (Past b) shape e f = absurd f
fits_list_is F (Seq xs) shape e f = absurd f
fits_list_is F (First ps) shape e f = absurd f
fits_list_is F (Opt y) shape e f = absurd f
fits_list_is F (Many y) shape e f = absurd f
fits_list_is F (ListOf a b) Plain {x} {t} e f = let h : a ≡ x = cc in let g : b ≡ t = cc in (subst F h f.0, subst (λ c. fits_tail c (row_of t) (shape_of t)) h (subst (λ c. fits_tail a (row_of c) (shape_of c)) g f.1), refl)
fits_list_is F (ListOf a b) Silent e f = absurd f
fits_list_is F (ListOf a b) Marked e f = absurd f
fits_list_is F (ListOf a b) (Kept k) e f = absurd f
fits_list_is F (ListOf a b) Line e f = absurd f
fits_list_is F (ListOf a b) Joined e f = absurd f
fits_list_is F (ListOf a b) Inner e f = absurd f
fits_list_is F (List1 y t) shape e f = absurd f
fits_list_is F (Tail y s) shape e f = absurd f
fits_list_is F (If xs k y) shape e f = absurd f
