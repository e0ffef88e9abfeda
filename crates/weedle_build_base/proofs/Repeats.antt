-- Items that are built one after another.
use Rattle.std.proofs.Common.{◌≡◌, ◌≢◌, ℕ, ◌+◌, ◌≤◌, ◌<◌, List, [], ◌∷◌, ◌++◌, map, Some, None, refl, sym, subst, ap, ◌∙◌, arith, inl, inr}
use Rattle.std.proofs.lemmas.List.{append_assoc, append-nil}
use Rattle.weedle_grammar.specs.Rows.{Row, Bytes, OneOf, NotNext, Run as RunOf, Past, Seq, First, Opt, Many, ListOf, List1, Tail, If}
use Rattle.weedle_grammar.specs.Trees.{Tree, trees, Items, Gives}
use Rattle.weedle_grammar.specs.Meaning.{Shape, Silent, Marked, Kept, Line, Joined, Inner, Plain, Raw, Breaks, Yields, before, shaped, ReadsRow, many_end, many_more, by_row}
use Rattle.weedle_grammar.specs.written.Table.{webidl, row_of, shape_of}
use Rattle.weedle_grammar.proofs.Unique.{one_outcome}
use Rattle.weedle_grammar.proofs.Inversion.{at_row, of_many}
use Rattle.weedle_grammar.proofs.Exists.{grows}
use Rattle.weedle_rules.specs.Cells.{HasEnd}
use Rattle.weedle_grammar.specs.Size.{size, total_size}
use Rattle.weedle_grammar.proofs.Size.Lists.{size_trees, size_append}
use Rattle.weedle_build_base.specs.Fits.{fits_many}
use Rattle.weedle_build_base.specs.Built.{plus, IsTried, Due, Builds, Visits}
use Rattle.weedle_build_base.proofs.Finding.{absent, present}
use Rattle.weedle_build_base.proofs.WantedFacts.{tried_here, goes_on}

pub map_push : {V : Type 0} (f : V → Tree) (vs : List V) (v : V) → map f (vs ++ (v ∷ [])) ≡ map f vs ++ (f v ∷ [])
map_push f [] v = refl
map_push f (w ∷ vs) v = ap (λ ts. f w ∷ ts) (map_push f vs v)

pub before_more : (ts : List Tree) (t : Tree) (w : Raw) → before ts (before (t ∷ []) w) ≡ before (ts ++ (t ∷ [])) w
before_more ts t Breaks = refl
before_more ts t (Yields us ends e) = ap (λ xs. Yields xs ends e) (sym (append_assoc ts (t ∷ []) us))

-- the items from p on gave these trees; q is where the next begins. v and w are the counts there
pub record Repeating (text : List ℕ) (x p v : ℕ) (ts : List Tree) (q w : ℕ) : Type 0 where
  pub given : List Tree
  pub ends : List ℕ
  pub end : ℕ
  pub left : ReadsRow webidl text (Many x) q (Yields given ends end)
  pub whole : (r : Raw) → ReadsRow webidl text (Many x) q r → ReadsRow webidl text (Many x) p (before ts r)
  pub counts : (k : ℕ) → plus w k ≡ plus v (total_size ts + k)
  -- the rule that repeats the item, at q
  pub rule : ℕ
  pub row : row_of rule ≡ Many x
  pub due : Due text rule q

pub before_none : (r : Raw) → r ≡ before [] r
before_none Breaks = refl
before_none (Yields us ends e) = refl

start_from : {text : List ℕ} {r x p e : ℕ} {ts : List Tree} (v : ℕ) (shape : Shape) (row : Row) (w : Raw) → Due text r p → row_of r ≡ Many x
    → ReadsRow webidl text (Many x) p w → Gives ts e ≡ shaped text row shape p w → Repeating text x p v [] p v
start_from v shape row Breaks u k d h = cc
start_from {text} {r} {x} {p} v shape row (Yields us ends q) u k d h = record {
  given = us;
  ends = ends;
  end = q;
  left = d;
  whole = λ r d. subst (λ z. ReadsRow webidl text (Many x) p z) (before_none r) d;
  counts = λ k. omega arith;
  rule = r;
  row = k;
  due = u;
}

-- at first
pub repeating_start : {text : List ℕ} {r x p : ℕ} (v : ℕ) → Due text r p → Many x ≡ row_of r → Repeating text x p v [] p v
repeating_start {text} {r} {x} {p} v d e = let h = at_row (sym e) d.reads in start_from v (shape_of r) (Many x) h.0 d (sym e) h.1 h.2

module _ {text : List ℕ} {x p v : ℕ} {ts : List Tree} {q w : ℕ} (h : Repeating text x p v ts q w) where
  -- an item is tried
  pub item_tried : IsTried text x q
  item_tried = tried_here h.due h.row (inl (refl, refl))

  -- and due where the table has an end
  pub item_due : {e : ℕ} → HasEnd text x q (Some e) → Due text x q
  item_due f = present item_tried f

  module _ {t : Tree} {e z : ℕ} (g : Builds text x t q w e z) where
    next_from : (us : List Tree) (ends : List ℕ) (r : Raw) → q ≢ e → ReadsRow webidl text (Many x) e r → Yields h.given h.ends h.end ≡ before us r
        → Repeating text x p v (ts ++ (t ∷ [])) e z
    next_from us ends Breaks n d k = cc
    next_from us ends (Yields os os_ends os_end) n d k = record {
      given = os;
      ends = os_ends;
      end = os_end;
      left = d;
      whole = λ r d. subst (λ z. ReadsRow webidl text (Many x) p z) (before_more ts t r) (h.whole (before (t ∷ []) r) (many_more g.reads (λ s. n (sym s)) d refl));
      counts = λ k. let a = h.counts (size t + k) in omega (arith, g.counts, a, size_append ts (t ∷ []));
      rule = h.rule;
      row = h.row;
      due = goes_on h.due h.row g.reads;
    }

    -- one more item
    pub repeating_next : Repeating text x p v (ts ++ (t ∷ [])) e z
    repeating_next = elim (of_many h.left) [
      | inl f ↦ absurd (let s = one_outcome f.0 g.reads refl in cc)
      | inr o ↦ elim o [
        | inl f ↦ absurd (let s = f.2 in cc)
        | inr m ↦ (let s = one_outcome m.3 g.reads refl in
            let j : m.1 ≡ e = cc in
            next_from m.0 [] m.2 (λ b. m.4 (j ∙ sym b)) (subst (λ y. ReadsRow webidl text (Many x) y m.2) j m.5) m.6)
      ]
    ]

    -- which takes a byte
    pub item_takes : q < e
    item_takes = elim (of_many h.left) [
      | inl f ↦ absurd (let s = one_outcome f.0 g.reads refl in cc)
      | inr o ↦ elim o [
        | inl f ↦ absurd (let s = f.2 in cc)
        | inr m ↦ (let s = one_outcome m.3 g.reads refl in
            let j : m.1 ≡ e = cc in
            let n : e ≢ q = λ b. m.4 (j ∙ b) in
            let l : q ≤ e = grows webidl text g.reads in omega arith)
      ]
    ]

  -- no more items
  pub repeating_end : {r e z : ℕ} → HasEnd text x q None → Many x ≡ row_of r → shape_of r ≡ Plain → Visits q w e z → Builds text r (Items (trees ts)) p v e z
  repeating_end {r} {e} {z} f row shape n =
      let d = h.whole (Yields [] [] q) (many_end (absent f) refl) in
      record {
        reads = by_row (subst (λ row. ReadsRow webidl text row p (before ts (Yields [] [] q))) row d) (rw (shape, sym row, n.same, append-nil ts) refl);
        counts = let a = h.counts 1 in omega (arith, n.counts, a, size_trees ts);
      }

pub fits_many_is : (F : ℕ → Type 0) (row : Row) (shape : Shape) {x : ℕ} → Many x ≡ row → fits_many F row shape → F x × (shape ≡ Plain)
fits_many_is F (Many y) Plain {x} e f = (let h : y ≡ x = cc in subst F h f, refl)
fits_many_is F (Many y) Silent e f = absurd f
fits_many_is F (Many y) Marked e f = absurd f
fits_many_is F (Many y) (Kept k) e f = absurd f
fits_many_is F (Many y) Line e f = absurd f
fits_many_is F (Many y) Joined e f = absurd f
fits_many_is F (Many y) Inner e f = absurd f
fits_many_is F (Seq xs) shape e f = absurd f
fits_many_is F (If xs k y) shape e f = absurd f
fits_many_is F (Bytes b) shape e f = absurd f
fits_many_is F (OneOf c) shape e f = absurd f
fits_many_is F (NotNext c) shape e f = absurd f
fits_many_is F (RunOf c) shape e f = absurd f
fits_many_is F (Past b) shape e f = absurd f
fits_many_is F (First ps) shape e f = absurd f
fits_many_is F (Opt y) shape e f = absurd f
fits_many_is F (ListOf y t) shape e f = absurd f
fits_many_is F (List1 y t) shape e f = absurd f
fits_many_is F (Tail y s) shape e f = absurd f
