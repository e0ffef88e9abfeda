-- What is read of weedle2's rules works out none of today's.
use Rattle.std.proofs.Common.{◌≡◌, ◌⊎◌, inl, inr, ℕ, ◌<◌, List, [], ◌∷◌, refl, sym, subst}
use Rattle.weedle_grammar.specs.written.Bound.{table_count}
use Rattle.weedle_grammar.specs.Rows.{Row, Bytes, OneOf, NotNext, Run, Past, Seq, First, Opt, Many, ListOf, List1, Tail, If}
use Rattle.weedle_grammar.specs.written.Table.{row_of}
use Rattle.weedle_rules.proofs.TableRows.{part_is, seq_part, first_part, if_part, if_last, opt_part, many_part, list_part, list_tail, list1_part, list1_tail, tail_part, tail_mark}
use Rattle.weedle_memo.specs.Entries.{Start, IsOwn}
use Rattle.weedle_memo.specs.Closure.{Memory}
use Rattle.weedle_memo.specs.Frames.{WaitsBy, Waits, AreWaiting}
use Rattle.weedle_memo.specs.declared.frame.Frame.{Frame}

below : {x y : ℕ} → x ≡ y → y < table_count → x < table_count
below e l = subst (λ z. z < table_count) (sym e) l

-- what a frame waits for
waits_own : (text : List ℕ) (row : Row) (f : Frame) (q : ℕ) {x : ℕ} → row_of f.rule ≡ row → WaitsBy text row f x q → f.rule < table_count → x < table_count
waits_own text (Seq parts) f q is w l = part_is parts f.part w.0.1 (seq_part l is f.part)
waits_own text (First parts) f q is w l = part_is parts f.part w.0.1 (first_part l is f.part)
waits_own text (If parts k y) f q is w l = elim w.1 [
  | inl v ↦ part_is parts f.part v.0.1 (if_part l is f.part)
  | inr v ↦ below v.1 (if_last l is)
]
waits_own text (Opt y) f q is w l = below w.0 (opt_part l is)
waits_own text (Many y) f q is w l = elim w [ inl v ↦ below v.1 (many_part l is) | inr v ↦ below v.1 l ]
waits_own text (ListOf y t) f q is w l = elim w [ inl v ↦ below v.1 (list_part l is) | inr v ↦ below v.1 (list_tail l is) ]
waits_own text (List1 y t) f q is w l = elim w [ inl v ↦ below v.1 (list1_part l is) | inr v ↦ below v.1 (list1_tail l is) ]
waits_own text (Tail y s) f q is w l = elim w [
  | inl v ↦ below v.1 (tail_mark l is)
  | inr v ↦ elim v [ inl u ↦ below u.1 (tail_part l is) | inr u ↦ below u.1 l ]
]
waits_own text (Bytes b) f q is w l = absurd w
waits_own text (OneOf c) f q is w l = absurd w
waits_own text (NotNext c) f q is w l = absurd w
waits_own text (Run c) f q is w l = absurd w
waits_own text (Past b) f q is w l = absurd w

-- the rule of the frame on top, of those that wait
top_low : (text : List ℕ) (m : Memory) (waiting : List Frame) (p : ℕ) {r : ℕ} → AreWaiting text m waiting r p → m.start.rule < table_count → r < table_count
top_low text m [] p w l = below w.0 l
top_low text m (f ∷ fs) p w l = waits_own text (row_of f.rule) f p refl w.1.onward (top_low text m fs f.place w.4 l)

pub top_own : (text : List ℕ) (m : Memory) (waiting : List Frame) (p : ℕ) {r : ℕ} → AreWaiting text m waiting r p → IsOwn m.start.rule r
top_own text m waiting p w = record { stays = λ l. top_low text m waiting p w l }

-- what it waits for
pub next_own : (text : List ℕ) (m : Memory) (waiting : List Frame) (f : Frame) (q : ℕ) {x k : ℕ} → AreWaiting text m waiting f.rule f.place → Waits text f x q k → IsOwn m.start.rule x
next_own text m waiting f q w n = record { stays = λ l. waits_own text (row_of f.rule) f q refl n.onward (top_low text m waiting f.place w l) }

-- the rule that is read
pub first_own : {first r : ℕ} → r ≡ first → IsOwn first r
first_own e = record { stays = λ l. below e l }

pub own_on : {s t : Start} (r : ℕ) → t ≡ s → IsOwn s.rule r → IsOwn t.rule r
own_on r e o = subst (λ (z : Start). IsOwn z.rule r) (sym e) o
