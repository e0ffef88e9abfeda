-- The marking of all that is tried, cell by cell.
use Rattle.std.proofs.Common.{◌≡◌, ◌⊎◌, inl, inr, ℕ, ◌+◌, ◌-◌, ◌*◌, ◌/◌, ◌%◌, ◌<◌, ◌≤◌, List, length, refl, sym, subst, arith}
use Rattle.std.specs.Prelude.{◌↔◌}
use Rattle.std.proofs.lemmas.Bool.{cases_lt}
use Rattle.weedle_grammar.specs.written.Bound.{table_count}
use Rattle.weedle_grammar.specs.written.Table.Definitions.{DEFINITIONS}
use Rattle.weedle_rules.specs.Cells.{cell_number}
use Rattle.weedle_starts.specs.Tries.{SameAttempt, Tries, Tried, at_first, by}
use Rattle.weedle_refusal.specs.Marks.{HasBit, IsSet, IsMarked, IsClear, Adds, AreTried, IsMarking}
use Rattle.weedle_refusal.proofs.LaterFacts.{tries_in, tries_before}

-- a cell is of one rule and one place
same_cell : (n r p x q : ℕ) → r < table_count → x < table_count → p ≤ n → q ≤ n → cell_number n r p ≡ cell_number n x q → (r ≡ x) × (p ≡ q)
same_cell n r p x q l m a b e = (omega arith, omega arith)

-- a bit that is set is a mark
pub adds_bit : (last r p : ℕ) (old new : List ℕ) → HasBit last (length old) r p → length new ≡ length old → ((other : ℕ) → IsSet new other ↔ (IsSet old other ⊎ (other ≡ cell_number last r p))) → Adds last old new (SameAttempt r p)
adds_bit last r p old new i e s = record {
  many = e;
  are = λ x q j. (
    λ m. elim ((s (cell_number last x q)).0 m) [ inl k ↦ inl k | inr k ↦ inr (same_cell last x q r p j.low i.low j.within i.within k) ],
    λ m. (s (cell_number last x q)).1 (elim m [ inl k ↦ inl k | inr k ↦ inr (rw (k.0, k.1) refl) ]),
  );
}

-- of nothing that was set, what was added is marked
pub marking_start : (text : List ℕ) (start last : ℕ) (old new : List ℕ) → last ≡ length text → HasBit last (length old) DEFINITIONS start → ((cell : ℕ) → IsSet old cell → ⊥) → Adds last old new (SameAttempt DEFINITIONS start) → IsMarking text start new (64 * length new)
marking_start text start last old new e =
    let P : ℕ → Type 0 = λ n. HasBit n (length old) DEFINITIONS start → ((cell : ℕ) → IsSet old cell → ⊥) → Adds n old new (SameAttempt DEFINITIONS start) → IsMarking text start new (64 * length new) in
    subst P (sym e) (λ i none a. begin i none a)
  where
    begin : HasBit (length text) (length old) DEFINITIONS start → ((cell : ℕ) → IsSet old cell → ⊥) → Adds (length text) old new (SameAttempt DEFINITIONS start) → IsMarking text start new (64 * length new)
    begin i none a = record {
      inside = subst (λ n. HasBit (length text) n DEFINITIONS start) (sym a.many) i;
      first = (a.are DEFINITIONS start i).1 (inr (refl, refl));
      sound = λ r p j m. elim ((a.are r p (subst (λ n. HasBit (length text) n r p) a.many j)).0 m) [ inl k ↦ absurd (none (cell_number (length text) r p) k) | inr k ↦ at_first k ];
      closed = λ r p j l m x q t. absurd (omega (arith, j.laid));
    }

-- where no cell from this one on is set, all are closed
pub marking_skip : (text : List ℕ) (start : ℕ) (words : List ℕ) (cell from : ℕ) → IsMarking text start words cell → ((other : ℕ) → from ≤ other → other < cell → other / table_count ≤ length text → IsSet words other → ⊥) → IsMarking text start words from
marking_skip text start words cell from g none = record {
  inside = g.inside;
  first = g.first;
  sound = g.sound;
  closed = λ r p i l m x q t. elim (cases_lt (cell_number (length text) r p) cell) [
    | inl h ↦ absurd (none (cell_number (length text) r p) l h (let a = i.low in let b = i.within in omega arith) m)
    | inr h ↦ g.closed r p i h m x q t
  ];
}

-- the same where none of them is set, of a place or not
pub marking_clear : (text : List ℕ) (start : ℕ) (words : List ℕ) (cell from : ℕ) → IsClear words from cell → IsMarking text start words cell → IsMarking text start words from
marking_clear text start words cell from clear g = marking_skip text start words cell from g (λ other a b n s. clear other a b s)

-- a marked cell is closed by marking what it tries
pub marking_step : (text : List ℕ) (start : ℕ) (old new : List ℕ) (cell r p : ℕ) → IsMarking text start old (cell + 1) → HasBit (length text) (length old) r p → cell_number (length text) r p ≡ cell
    → IsMarked (length text) old r p → Adds (length text) old new (Tries text r p) → IsMarking text start new cell
marking_step text start old new cell r p g here e marked a = record {
  inside = subst (λ n. HasBit (length text) n DEFINITIONS start) (sym a.many) g.inside;
  first = (a.are DEFINITIONS start g.inside).1 (inl g.first);
  sound = λ r' p' i m. elim ((a.are r' p' (back r' p' i)).0 m) [ inl k ↦ g.sound r' p' (back r' p' i) k | inr t ↦ by (g.sound r p here marked) t ];
  closed = λ r' p' i l m x q t. closes r' p' (back r' p' i) l ((a.are r' p' (back r' p' i)).0 m) x q t;
}
  where
    back : (x q : ℕ) → HasBit (length text) (length new) x q → HasBit (length text) (length old) x q
    back x q i = subst (λ n. HasBit (length text) n x q) a.many i

    closes : (r' p' : ℕ) → HasBit (length text) (length old) r' p' → cell ≤ cell_number (length text) r' p' → IsMarked (length text) old r' p' ⊎ Tries text r p r' p'
        → (x q : ℕ) → Tries text r' p' x q → IsMarked (length text) new x q
    closes r' p' i l (inl m) x q t = elim (cases_lt cell (cell_number (length text) r' p')) [
      | inl h ↦ (a.are x q (tries_in text i t)).1 (inl (g.closed r' p' i (omega arith) m x q t))
      | inr h ↦ (
          let s = same_cell (length text) r' p' r p i.low here.low i.within here.within (omega arith) in
          (a.are x q (tries_in text i t)).1 (inr (subst (λ z. Tries text z p x q) s.0 (subst (λ z. Tries text r' z x q) s.1 t))))
    ]
    closes r' p' i l (inr k) x q t = absurd (let b : cell_number (length text) r' p' < cell_number (length text) r p = tries_before text r' p' here k in omega arith)

-- the rule and the place of a cell
pub cell_is : (n cell : ℕ) → cell / table_count ≤ n → cell_number n (cell % table_count) (n - cell / table_count) ≡ cell
cell_is n cell h = omega arith

pub cell_in : (last many cell : ℕ) → cell / table_count ≤ last → cell < 64 * many → HasBit last many (cell % table_count) (last - cell / table_count)
cell_in last many cell h l = let e = cell_is last cell h in record { low = omega arith; within = omega arith; laid = omega arith }

pub step_at : (text : List ℕ) (start : ℕ) (old new : List ℕ) (last cell : ℕ) → last ≡ length text → IsMarking text start old (cell + 1) → cell < 64 * length old → cell / table_count ≤ last → IsSet old cell
    → Adds last old new (Tries text (cell % table_count) (last - cell / table_count)) → IsMarking text start new cell
step_at text start old new last cell e g l =
    let P : ℕ → Type 0 = λ n. cell / table_count ≤ n → IsSet old cell → Adds n old new (Tries text (cell % table_count) (n - cell / table_count)) → IsMarking text start new cell in
    subst P (sym e) (λ w s a. marking_step text start old new cell (cell % table_count) (length text - cell / table_count) g (cell_in (length text) (length old) cell w l) (cell_is (length text) cell w)
    (subst (IsSet old) (sym (cell_is (length text) cell w)) s) a)

-- in the end all that is tried is marked
all_marked : (text : List ℕ) (start : ℕ) (words : List ℕ) → IsMarking text start words 0 → {x q : ℕ} → Tried text start x q → HasBit (length text) (length words) x q × IsMarked (length text) words x q
all_marked text start words g {x} {q} (at_first s) =
    let P : ℕ → ℕ → Type 0 = λ x q. HasBit (length text) (length words) x q × IsMarked (length text) words x q in
    subst (λ z. P z q) (sym s.0) (subst (λ z. P DEFINITIONS z) (sym s.1) (g.inside, g.first))
all_marked text start words g (by {r = r} {p = p} {x = x} {q = q} d t) =
    let h = all_marked text start words g d in
    (tries_in text h.0 t, g.closed r p h.0 (omega arith) h.1 x q t)

pub marking_done : (text : List ℕ) (start : ℕ) (words : List ℕ) (left : ℕ) → left ≤ 0 → IsMarking text start words left → AreTried text start words
marking_done text start words left h g =
    let e : left ≡ 0 = omega arith in
    let z = subst (λ k. IsMarking text start words k) e g in
    record {
      inside = λ x q t. (all_marked text start words z t).0;
      are = λ x q j. (z.sound x q j, λ t. (all_marked text start words z t).1);
    }

-- marked is tried, and back
pub tried_is : (text : List ℕ) (start last : ℕ) (words : List ℕ) (r p : ℕ) → last ≡ length text → AreTried text start words → HasBit last (length words) r p → IsMarked last words r p ↔ Tried text start r p
tried_is text start last words r p e a =
    let P : ℕ → Type 0 = λ n. HasBit n (length words) r p → IsMarked n words r p ↔ Tried text start r p in
    subst P (sym e) (a.are r p)
