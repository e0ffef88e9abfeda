-- Steps of the reading.
use Rattle.std.proofs.Common.{◌≡◌, ℕ, ◌+◌, ◌-◌, ◌*◌, ◌<◌, ◌≤◌, List, [], ◌∷◌, ◌++◌, length, reverse, Option, refl, ap, sym, subst, ◌∙◌, arith}
use Rattle.std.proofs.lemmas.List.{reverse-append}
use Rattle.weedle_grammar.specs.Rows.{Row, Bytes, OneOf, NotNext, Run, Past, Seq, First, Opt, Many, ListOf, List1, Tail, If}
use Rattle.weedle_grammar.specs.written.Bound.{rule_count}
use Rattle.weedle_grammar.specs.written.Table.{row_of}
use Rattle.weedle_rules.specs.Cells.{HasEnd, turn_number}
use Rattle.weedle_rules.specs.written.Bound.{most_reads}
use Rattle.weedle_memo.specs.Entries.{Absent, Start}
use Rattle.weedle_memo.specs.Closure.{Memory, MetIf, AreClosed, Covered, CoveredStep, Extends}
use Rattle.weedle_memo.specs.Frames.{IsCovered, WaitsBy, Waits, IsOpen, IsStep, SameCell, IsState, IsDone, AreWaiting, weight}
use Rattle.weedle_memo.proofs.GrowthFacts.{covered_on}
use Rattle.weedle_memo.specs.declared.frame.Frame.{Frame}
use Rattle.weedle_memo.specs.declared.frame.Step.{Step}

-- a look at what it waits for
waits_looked : (text : List ℕ) (row : Row) (f : Frame) (x q k : ℕ) → WaitsBy text row f x q → WaitsBy text row (record f { count = k }) x q
waits_looked text (Bytes b) f x q k h = h
waits_looked text (OneOf c) f x q k h = h
waits_looked text (NotNext c) f x q k h = h
waits_looked text (Run c) f x q k h = h
waits_looked text (Past b) f x q k h = h
waits_looked text (Seq parts) f x q k h = h
waits_looked text (First parts) f x q k h = h
waits_looked text (Opt y) f x q k h = h
waits_looked text (Many y) f x q k h = h
waits_looked text (ListOf y t) f x q k h = h
waits_looked text (List1 y t) f x q k h = h
waits_looked text (Tail y t) f x q k h = h
waits_looked text (If parts l y) f x q k h = h

pub look_room : {text : List ℕ} {f : Frame} {x q : ℕ} → Waits text f x q 0 → f.count < most_reads
look_room w = let a = w.few in let b = w.part_few in omega arith

pub looked_open : {text : List ℕ} {f g : Frame} → IsOpen text f → g ≡ record f { count = f.count + 1 } → IsOpen text g
looked_open {text} {f} {g} o gi = subst (IsOpen text) (sym gi) (record { low = o.low; within = o.within; fits = o.fits })

pub looked_waits : {text : List ℕ} {f g : Frame} {x q : ℕ} → Waits text f x q 0 → g ≡ record f { count = f.count + 1 } → Waits text g x q 1
looked_waits {text} {f} {g} {x} {q} w gi = subst (λ (v : Frame). Waits text v x q 1) (sym gi) (record {
  onward = waits_looked text (row_of f.rule) f x q (f.count + 1) w.onward;
  before = w.before;
  low = w.low;
  within = w.within;
  few = omega (arith, w.few);
  some = omega arith;
  part_few = w.part_few;
})

-- what it tried stays known
looked_row : (text : List ℕ) (m : Memory) (row : Row) (f : Frame) (q k : ℕ) → Covered text m row f q → Covered text m row (record f { count = k }) q
looked_row text m (Bytes b) f q k h = h
looked_row text m (OneOf c) f q k h = h
looked_row text m (NotNext c) f q k h = h
looked_row text m (Run c) f q k h = h
looked_row text m (Past b) f q k h = h
looked_row text m (Seq parts) f q k h = h
looked_row text m (First parts) f q k h = h
looked_row text m (Opt y) f q k h = h
looked_row text m (Many y) f q k h = h
looked_row text m (ListOf y t) f q k h = h
looked_row text m (List1 y t) f q k h = h
looked_row text m (Tail y t) f q k h = h
looked_row text m (If parts l y) f q k h = h

pub looked_covered : (text : List ℕ) (m : Memory) (f g : Frame) (q : ℕ) → g ≡ record f { count = f.count + 1 } → Covered text m (row_of f.rule) f q → Covered text m (row_of g.rule) g q
looked_covered text m f g q gi h = subst (λ (v : Frame). Covered text m (row_of v.rule) v q) (sym gi) (looked_row text m (row_of f.rule) f q (f.count + 1) h)

-- the frame goes on
module _ {text : List ℕ} {m : Memory} {waiting : List Frame} {f g h : Frame} {t : Step} where
  pub state_same : IsOpen text f → Absent m.entries f.rule f.place → AreWaiting text m waiting f.rule f.place → g ≡ record f { count = f.count + 1 } → SameCell g h → IsStep text h t → CoveredStep text m h t → IsState text m waiting h t
  state_same o none others gi same turn tried =
      let r : h.rule ≡ f.rule = same.0 ∙ ap (λ (v : Frame). v.rule) gi in
      let p : h.place ≡ f.place = same.1 ∙ ap (λ (v : Frame). v.place) gi in
      record {
        opened = record { low = subst (λ z. z < rule_count) (sym r) o.low; within = subst (λ z. z ≤ length text) (sym p) o.within; fits = o.fits };
        turn = turn;
        absent = subst (λ z. Absent m.entries z h.place) (sym r) (subst (λ z. Absent m.entries f.rule z) (sym p) none);
        others = subst (λ z. AreWaiting text m waiting z h.place) (sym r) (subst (λ z. AreWaiting text m waiting f.rule z) (sym p) others);
        tried = tried;
      }

-- it waits, and a frame of what it waits for is next
module _ {text : List ℕ} {m : Memory} (old new : List Frame) {f g h : Frame} {t : Step} {x q : ℕ} where
  pub state_new : IsOpen text f → Waits text f x q 0 → Absent m.entries f.rule f.place → AreWaiting text m (reverse old) f.rule f.place → g ≡ record f { count = f.count + 1 } → new ≡ old ++ g ∷ []
      → Absent m.entries x q → IsOpen text h → (h.rule ≡ x) × (h.place ≡ q) → IsStep text h t → CoveredStep text m h t → Covered text m (row_of f.rule) f q → IsState text m (reverse new) h t
  state_new o w none others gi ni absent oh cell turn tried covered =
      let r : h.rule ≡ x = cell.0 in
      let p : h.place ≡ q = cell.1 in
      let top : AreWaiting text m (g ∷ reverse old) x q = (
        looked_open o gi,
        looked_waits w gi,
        subst (λ (v : Frame). Absent m.entries v.rule v.place) (sym gi) none,
        record { covered = looked_covered text m f g q gi covered },
        subst (λ (v : Frame). AreWaiting text m (reverse old) v.rule v.place) (sym gi) others,
      ) in
      let all = subst (λ z. AreWaiting text m z x q) (sym (ap reverse ni ∙ reverse-append old (g ∷ []))) top in
      record {
        opened = oh;
        turn = turn;
        absent = subst (λ z. Absent m.entries z h.place) (sym r) (subst (λ z. Absent m.entries x z) (sym p) absent);
        others = subst (λ z. AreWaiting text m (reverse new) z h.place) (sym r) (subst (λ z. AreWaiting text m (reverse new) x z) (sym p) all);
        tried = tried;
      }

lighter : (a b c d : ℕ) → a < b → a * 64 + (63 - c) < b * 64 + (63 - d)
lighter a b c d h = omega arith

pub falls_same : (text : List ℕ) {f g : Frame} (h : Frame) {x q : ℕ} → Waits text f x q 0 → g ≡ record f { count = f.count + 1 } → SameCell g h → weight text h < weight text f
falls_same text {f} {g} h w gi same =
    let r : h.rule ≡ f.rule = same.0 ∙ ap (λ (v : Frame). v.rule) gi in
    let p : h.place ≡ f.place = same.1 ∙ ap (λ (v : Frame). v.place) gi in
    let n : h.count ≡ f.count + 1 = same.2 ∙ ap (λ (v : Frame). v.count) gi in
    let room = look_room w in
    let c : turn_number (length text) h.rule h.place ≡ turn_number (length text) f.rule f.place = ap (λ z. turn_number (length text) z h.place) r ∙ ap (λ z. turn_number (length text) f.rule z) p in
    subst (λ z. z * 64 + (63 - h.count) < turn_number (length text) f.rule f.place * 64 + (63 - f.count)) (sym c) (subst (λ z. turn_number (length text) f.rule f.place * 64 + (63 - z) < turn_number (length text) f.rule f.place * 64 + (63 - f.count)) (sym n) (less (turn_number (length text) f.rule f.place) f.count room))
  where
    less : (a c : ℕ) → c < most_reads → a * 64 + (63 - (c + 1)) < a * 64 + (63 - c)
    less a c h = omega arith

pub falls_new : (text : List ℕ) {f : Frame} (h : Frame) {x q : ℕ} → Waits text f x q 0 → (h.rule ≡ x) × (h.place ≡ q) → weight text h < weight text f
falls_new text {f} h {x} {q} w cell =
    let c : turn_number (length text) h.rule h.place ≡ turn_number (length text) x q = ap (λ z. turn_number (length text) z h.place) cell.0 ∙ ap (λ z. turn_number (length text) x z) cell.1 in
    lighter (turn_number (length text) h.rule h.place) (turn_number (length text) f.rule f.place) h.count f.count (subst (λ z. z < turn_number (length text) f.rule f.place) (sym c) w.before)

-- more is known, of cells before
waiting_on : {m n : Memory} {c : ℕ} → Extends m n c → (waiting : List Frame) (r p : ℕ) → AreWaiting m.text m waiting r p → c ≤ turn_number (length m.text) r p → AreWaiting m.text n waiting r p
waiting_on e [] r p h l = (h.0 ∙ sym (ap (λ (v : Start). v.rule) e.start_is), h.1 ∙ sym (ap (λ (v : Start). v.place) e.start_is))
waiting_on {m} {n} {c} e (f ∷ fs) r p h l =
    let less : c < turn_number (length m.text) f.rule f.place = smaller _ _ _ l h.1.before in (
      h.0,
      h.1,
      e.leaves f.rule f.place less h.2,
      record { covered = covered_on m.text e f p h.3.covered },
      waiting_on e fs f.rule f.place h.4 (under _ _ less),
    )
  where
    smaller : (a b c : ℕ) → a ≤ b → b < c → a < c
    smaller a b c h k = omega arith

    under : (a b : ℕ) → a < b → a ≤ b
    under a b h = omega arith

under : (a b : ℕ) → a < b → a ≤ b
under a b h = omega arith

itself : (a : ℕ) → a ≤ a
itself a = omega arith

-- what holds of a frame, where more is known
module _ {m n : Memory} {c : ℕ} (e : Extends m n c) (f : Frame) where
  pub open_on : IsOpen m.text f → IsOpen n.text f
  open_on h = subst (λ z. IsOpen z f) (sym e.text_is) h

  pub waits_on : {x q k : ℕ} → Waits m.text f x q k → Waits n.text f x q k
  waits_on {x} {q} {k} h = subst (λ z. Waits z f x q k) (sym e.text_is) h

  pub row_covered_on : (q : ℕ) → Covered m.text m (row_of f.rule) f q → Covered n.text n (row_of f.rule) f q
  row_covered_on q h = subst (λ z. Covered z n (row_of f.rule) f q) (sym e.text_is) (covered_on m.text e f q h)

  pub end_on : {x q : ℕ} {o : Option ℕ} → HasEnd m.text x q o → HasEnd n.text x q o
  end_on {x} {q} {o} h = subst (λ z. HasEnd z x q o) (sym e.text_is) h

pub all_closed_on : {m n : Memory} {c : ℕ} → Extends m n c → AreClosed m.text m → AreClosed n.text n
all_closed_on {m} {n} e h = subst (λ z. AreClosed z n) (sym e.text_is) (e.closes h)

-- where nothing is known
pub none_closed : (text : List ℕ) (m : Memory) → m.entries ≡ [] → AreClosed text m
none_closed text m e i d l = let none : length m.entries ≡ 0 = ap length e in absurd (omega (arith, none))

-- it goes on behind a rule without parts
pub state_leaf : {m n : Memory} (waiting : List Frame) (f : Frame) {g h : Frame} {t : Step} {x q : ℕ} → IsOpen m.text f → Waits m.text f x q 0 → Absent m.entries f.rule f.place → AreWaiting m.text m waiting f.rule f.place
    → g ≡ record f { count = f.count + 1 } → Extends m n (turn_number (length m.text) x q) → SameCell g h → IsStep n.text h t → CoveredStep n.text n h t → IsState n.text n waiting h t
state_leaf {m} {n} waiting f {g} {h} {t} o w none others gi e same turn tried = subst (λ z. IsState z n waiting h t) (sym e.text_is) (
    state_same {text = m.text} {m = n} o (e.leaves f.rule f.place w.before none) (waiting_on e waiting f.rule f.place others (under _ _ w.before)) gi same
    (subst (λ z. IsStep z h t) e.text_is turn) (subst (λ z. CoveredStep z n h t) e.text_is tried))

-- it waits for a rule with parts, where nothing more is known
pub state_begun : {m n : Memory} (old new : List Frame) (f : Frame) {g h : Frame} {t : Step} {x q : ℕ} → n ≡ m → IsOpen m.text f → Waits m.text f x q 0 → Absent m.entries f.rule f.place → AreWaiting m.text m (reverse old) f.rule f.place
    → g ≡ record f { count = f.count + 1 } → new ≡ old ++ g ∷ [] → Absent m.entries x q → IsOpen n.text h → (h.rule ≡ x) × (h.place ≡ q) → IsStep n.text h t → CoveredStep n.text n h t → Covered m.text m (row_of f.rule) f q → IsState n.text n (reverse new) h t
state_begun {m} {n} old new f {g} {h} {t} {x} {q} e o w none others gi ni absent oh cell turn tried covered =
    let back : m ≡ n = sym e in
    state_new {text = n.text} {m = n} old new (subst (λ (z : Memory). IsOpen z.text f) back o) (subst (λ (z : Memory). Waits z.text f x q 0) back w) (subst (λ (z : Memory). Absent z.entries f.rule f.place) back none)
    (subst (λ (z : Memory). AreWaiting z.text z (reverse old) f.rule f.place) back others) gi ni (subst (λ (z : Memory). Absent z.entries x q) back absent) oh cell turn tried (subst (λ (z : Memory). Covered z.text z (row_of f.rule) f q) back covered)

pub closed_same : {m n : Memory} → n ≡ m → AreClosed m.text m → AreClosed n.text n
closed_same e h = subst (λ (z : Memory). AreClosed z.text z) (sym e) h

pub longer_same : {m n : Memory} → n ≡ m → length m.entries ≤ length n.entries
longer_same {m} {n} e = subst (λ (z : Memory). length m.entries ≤ length z.entries) (sym e) (itself _)

pub within_same : {m n : Memory} {q : ℕ} → n ≡ m → q ≤ length m.text → q ≤ length n.text
within_same {m} {n} {q} e h = subst (λ (z : Memory). q ≤ length z.text) (sym e) h

-- a frame is closed, and the one that waited for it goes on
module _ {m : Memory} {f : Frame} {o : Option ℕ} (left : List Frame) (parent : Frame) {waiting : List Frame} (d : IsDone m.text m (reverse waiting) f o) (is : waiting ≡ left ++ parent ∷ []) where
  stack_is : AreWaiting m.text m (parent ∷ reverse left) f.rule f.place
  stack_is = subst (λ z. AreWaiting m.text m z f.rule f.place) (ap reverse is ∙ reverse-append left (parent ∷ [])) d.others

  pub parent_waits : IsOpen m.text parent × Waits m.text parent f.rule f.place 1 × IsCovered m.text m parent f.place
  parent_waits = let w = stack_is in (w.0, w.1, w.3)

  pub state_after : {n : Memory} {h : Frame} {t : Step} → Extends m n (turn_number (length m.text) f.rule f.place) → SameCell parent h → IsStep n.text h t → CoveredStep n.text n h t → IsState n.text n (reverse left) h t
  state_after {n} {h} {t} e same turn tried =
      let v : AreWaiting m.text n (parent ∷ reverse left) f.rule f.place = waiting_on e (parent ∷ reverse left) f.rule f.place stack_is (itself _) in
      let r : h.rule ≡ parent.rule = same.0 in
      let p : h.place ≡ parent.place = same.1 in
      subst (λ z. IsState z n (reverse left) h t) (sym e.text_is) (record {
        opened = record { low = subst (λ z. z < rule_count) (sym r) v.0.low; within = subst (λ z. z ≤ length m.text) (sym p) v.0.within; fits = v.0.fits };
        turn = subst (λ z. IsStep z h t) e.text_is turn;
        absent = subst (λ z. Absent n.entries z h.place) (sym r) (subst (λ z. Absent n.entries parent.rule z) (sym p) v.2);
        others = subst (λ z. AreWaiting m.text n (reverse left) z h.place) (sym r) (subst (λ z. AreWaiting m.text n (reverse left) parent.rule z) (sym p) v.4);
        tried = subst (λ z. CoveredStep z n h t) e.text_is tried;
      })

-- the first frame is closed
module _ {m : Memory} {f : Frame} {o : Option ℕ} {waiting : List Frame} (d : IsDone m.text m (reverse waiting) f o) (is : waiting ≡ []) where
  first_cell : (f.rule ≡ m.start.rule) × (f.place ≡ m.start.place)
  first_cell = subst (λ z. AreWaiting m.text m (reverse z) f.rule f.place) is d.others

  pub first_is : (n : Memory) → n.start ≡ m.start → HasEnd m.text n.start.rule n.start.place o
  first_is n e = subst (λ (z : Start). HasEnd m.text z.rule z.place o) (sym e) (subst (λ z. HasEnd m.text z m.start.place o) first_cell.0 (subst (λ z. HasEnd m.text f.rule z o) first_cell.1 d.over.right))

  pub first_met : (n : Memory) → n.start ≡ m.start → MetIf n f.rule f.place o → MetIf n n.start.rule n.start.place o
  first_met n e h = subst (λ (z : Start). MetIf n z.rule z.place o) (sym e) (subst (λ z. MetIf n z m.start.place o) first_cell.0 (subst (λ z. MetIf n f.rule z o) first_cell.1 h))

-- a list of no elements
pub emptied : (xs : List Frame) → length xs ≡ 0 → xs ≡ []
emptied [] h = refl
emptied (x ∷ xs) h = absurd (omega arith)
