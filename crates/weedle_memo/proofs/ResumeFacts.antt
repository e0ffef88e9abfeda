-- What a frame comes to where what it waits for came.
use Rattle.std.proofs.Common.{◌≡◌, ◌≢◌, inl, inr, ℕ, ◌+◌, ◌<◌, ◌≤◌, List, [], ◌∷◌, length, drop, Option, Some, None, true, false, refl, ap, sym, subst, ◌∙◌, arith, get_or}
use Rattle.std.specs.Prelude.{slice_index}
use Rattle.weedle_grammar.specs.Rows.{Row, Seq, First, Opt, Many, ListOf, List1, Tail, If}
use Rattle.weedle_grammar.specs.written.Bound.{rule_count}
use Rattle.weedle_grammar.specs.written.Table.{webidl, row_of}
use Rattle.weedle_grammar.proofs.Takes.{takes}
use Rattle.weedle_grammar.proofs.Checked.{ranked}
use Rattle.weedle_rules.specs.Cells.{HasEnd, turn_number}
use Rattle.weedle_rules.specs.written.Bound.{most_reads}
use Rattle.weedle_rules.proofs.RowEnds.{RowEnds, turn_before, rule_ends, row_ends, ends_after, ends_inside, seq_ends, first_ends, opt_absent, opt_present, many_ends, many_fails, many_goes, list_ends, list_goes, list1_ends, list1_goes, tail_ends, tail_fails, tail_gives_back, tail_goes}
use Rattle.weedle_rules.proofs.PartEnds.{Along, along_start, along_before, along_step, along_fails, along_ends, Trying, trying_start, trying_before, first_fits, first_tries_on, first_fits_none, list_next_low, list1_next_low}
use Rattle.weedle_rules.proofs.FewReads.{seq_few, first_few, if_switch}
use Rattle.weedle_rules.proofs.ListFrom.{parts_from, past_end}
use Rattle.weedle_memo.specs.Frames.{IsPart, WaitsBy, Waits, IsOpen, IsOver}
use Rattle.weedle_memo.specs.declared.frame.Frame.{Frame}

-- what it waits for, by its row
pub onward_by : {text : List ℕ} {f : Frame} {x q k : ℕ} {row : Row} → row_of f.rule ≡ row → Waits text f x q k → WaitsBy text row f x q
onward_by {text} {f} {x} {q} e w = subst (λ row. WaitsBy text row f x q) e w.onward

-- it is over, where its row ends so
pub over : {text : List ℕ} {f : Frame} {x q : ℕ} {row : Row} {o : Option ℕ} → row_of f.rule ≡ row → Waits text f x q 1 → RowEnds webidl text row f.place o → IsOver text f o
over {text} {f} e w h =
    let few = w.few in
    let part_few = w.part_few in
    let some = w.some in
    record { right = rule_ends e h; looked = omega arith; few = omega arith }

-- a row Seq
module _ {text : List ℕ} {f : Frame} {x q : ℕ} {parts : List ℕ} (o : IsOpen text f) (is : row_of f.rule ≡ Seq parts) (w : Waits text f x q 1) where
  seq_along : Along webidl text takes f.rule f.place parts (x ∷ drop (f.part + 1) parts) q
  seq_along =
      let on = onward_by is w in
      subst (λ z. Along webidl text takes f.rule f.place parts z q) (parts_from parts f.part on.0.0 ∙ ap (λ z. z ∷ drop (f.part + 1) parts) (sym on.0.1)) on.1

  pub seq_none : HasEnd text x q None → IsOver text f None
  seq_none h = over is w (seq_ends webidl text parts f.place None (along_fails webidl text takes f.rule f.place x q parts (drop (f.part + 1) parts) seq_along h))

  pub seq_over : {g : Frame} {e n : ℕ} → HasEnd text x q (Some e) → n ≡ length parts → n ≤ f.part + 1 → g.rule ≡ f.rule → g.place ≡ f.place → g.count ≡ f.count → IsOver text g (Some e)
  seq_over {g} {e} {n} h many past gr gp gc =
      let a = along_step webidl text takes ranked f.rule f.place x q e parts (drop (f.part + 1) parts) seq_along h in
      let b = subst (λ z. Along webidl text takes f.rule f.place parts z e) (past_end parts (f.part + 1) (omega (arith, many, past))) a in
      let v = over is w (seq_ends webidl text parts f.place (Some e) (along_ends webidl text takes f.rule f.place e parts b)) in
      record {
        right = subst (λ z. HasEnd text z g.place (Some e)) (sym gr) (subst (λ z. HasEnd text f.rule z (Some e)) (sym gp) v.right);
        looked = omega (arith, v.looked, gc);
        few = omega (arith, v.few, gc);
      }

  pub seq_on : {g : Frame} {e n y : ℕ} → HasEnd text x q (Some e) → n ≡ length parts → f.part + 1 < n → y ≡ slice_index parts (f.part + 1) → y < rule_count
      → g.rule ≡ f.rule → g.place ≡ f.place → g.count ≡ f.count → g.part ≡ f.part + 1 → Waits text g y e 0
  seq_on {g} {e} {n} {y} h many more yi yl gr gp gc gn =
      let a = along_step webidl text takes ranked f.rule f.place x q e parts (drop (f.part + 1) parts) seq_along h in
      let l : f.part + 1 < length parts = omega (arith, many, more) in
      let b = subst (λ z. Along webidl text takes f.rule f.place parts z e) (parts_from parts (f.part + 1) l ∙ ap (λ z. z ∷ drop (f.part + 1 + 1) parts) (sym yi)) a in
      let k = along_before webidl text takes ranked f.rule f.place y e parts (drop (f.part + 1 + 1) parts) b yl in
      let few = seq_few o.low is in
      record {
        onward = subst (λ row. WaitsBy text row g y e) (sym is ∙ ap row_of (sym gr)) (
          (omega (arith, gn, l), yi ∙ ap (slice_index parts) (sym gn)),
          subst (λ z. Along webidl text takes z g.place parts (drop g.part parts) e) (sym gr) (subst (λ z. Along webidl text takes f.rule z parts (drop g.part parts) e) (sym gp) (subst (λ z. Along webidl text takes f.rule f.place parts (drop z parts) e) (sym gn) a)),
        );
        before = subst (λ z. turn_number (length text) y e < turn_number (length text) z g.place) (sym gr) (subst (λ z. turn_number (length text) y e < turn_number (length text) f.rule z) (sym gp) k);
        low = yl;
        within = a.within;
        few = omega (arith, w.few, gc, gn);
        some = omega arith;
        part_few = omega (arith, gn, l, few);
      }

-- the same end of the same cell
pub moved : {text : List ℕ} {x q y p : ℕ} {o : Option ℕ} → x ≡ y → q ≡ p → HasEnd text x q o → HasEnd text y p o
moved {text} {x} {q} {y} {p} {o} e d h = subst (λ z. HasEnd text z p o) e (subst (λ z. HasEnd text x z o) d h)

-- a frame of the same cell, that waits for another
pub waits_at : {text : List ℕ} (f : Frame) {g : Frame} {y e : ℕ} {row : Row} → row_of f.rule ≡ row → WaitsBy text row g y e → turn_number (length text) y e < turn_number (length text) f.rule f.place
    → y < rule_count → e ≤ length text → g.rule ≡ f.rule → g.place ≡ f.place → g.count ≤ g.part → g.part < most_reads → Waits text g y e 0
waits_at {text} f {g} {y} {e} is on k yl within gr gp few part_few = record {
  onward = subst (λ row. WaitsBy text row g y e) (sym is ∙ ap row_of (sym gr)) on;
  before = subst (λ z. turn_number (length text) y e < turn_number (length text) z g.place) (sym gr) (subst (λ z. turn_number (length text) y e < turn_number (length text) f.rule z) (sym gp) k);
  low = yl;
  within = within;
  few = omega arith;
  some = omega arith;
  part_few = part_few;
}

-- a row First
module _ {text : List ℕ} {f : Frame} {x q : ℕ} {parts : List ℕ} (o : IsOpen text f) (is : row_of f.rule ≡ First parts) (w : Waits text f x q 1) where
  first_trying : Trying webidl text takes f.rule parts (x ∷ drop (f.part + 1) parts) f.part f.place
  first_trying =
      let on = onward_by is w in
      subst (λ z. Trying webidl text takes f.rule parts z f.part f.place) (parts_from parts f.part on.0.0 ∙ ap (λ z. z ∷ drop (f.part + 1) parts) (sym on.0.1)) on.2

  pub first_some : {e : ℕ} → HasEnd text x q (Some e) → IsOver text f (Some e)
  first_some {e} h =
      let on = onward_by is w in
      over is w (first_ends webidl text parts f.place (Some e) (first_fits webidl text takes f.rule f.part f.place x e parts (drop (f.part + 1) parts) first_trying (moved refl on.1 h)))

  pub first_over : {g : Frame} {n : ℕ} → HasEnd text x q None → n ≡ length parts → n ≤ f.part + 1 → g.rule ≡ f.rule → g.place ≡ f.place → g.count ≡ f.count → IsOver text g None
  first_over {g} {n} h many past gr gp gc =
      let on = onward_by is w in
      let a = first_tries_on webidl text takes f.rule f.part f.place x parts (drop (f.part + 1) parts) first_trying (moved refl on.1 h) in
      let b = subst (λ z. Trying webidl text takes f.rule parts z (f.part + 1) f.place) (past_end parts (f.part + 1) (omega (arith, many, past))) a in
      let v = over is w (first_ends webidl text parts f.place None (first_fits_none webidl text takes f.rule (f.part + 1) f.place parts b)) in
      record {
        right = moved (sym gr) (sym gp) v.right;
        looked = omega (arith, v.looked, gc);
        few = omega (arith, v.few, gc);
      }

  pub first_on : {g : Frame} {n y : ℕ} → HasEnd text x q None → n ≡ length parts → f.part + 1 < n → y ≡ slice_index parts (f.part + 1) → y < rule_count
      → g.rule ≡ f.rule → g.place ≡ f.place → g.count ≡ f.count → g.part ≡ f.part + 1 → Waits text g y f.place 0
  first_on {g} {n} {y} h many more yi yl gr gp gc gn =
      let on = onward_by is w in
      let a = first_tries_on webidl text takes f.rule f.part f.place x parts (drop (f.part + 1) parts) first_trying (moved refl on.1 h) in
      let l : f.part + 1 < length parts = omega (arith, many, more) in
      let b = subst (λ z. Trying webidl text takes f.rule parts z (f.part + 1) f.place) (parts_from parts (f.part + 1) l ∙ ap (λ z. z ∷ drop (f.part + 1 + 1) parts) (sym yi)) a in
      let k = trying_before webidl text takes ranked f.rule (f.part + 1) f.place y parts (drop (f.part + 1 + 1) parts) b in
      let few = first_few o.low is in
      waits_at f is (
        (omega (arith, gn, l), yi ∙ ap (slice_index parts) (sym gn)),
        sym gp,
        subst (λ z. Trying webidl text takes z parts (drop g.part parts) g.part g.place) (sym gr) (subst (λ z. Trying webidl text takes f.rule parts (drop g.part parts) g.part z) (sym gp) (subst (λ z. Trying webidl text takes f.rule parts (drop z parts) z f.place) (sym gn) a)),
      ) k yl o.within gr gp (omega (arith, w.few, gc, gn)) (omega (arith, gn, l, few))

-- an option
module _ {text : List ℕ} {f : Frame} {x q y : ℕ} (is : row_of f.rule ≡ Opt y) (w : Waits text f x q 1) where
  pub opt_some : {e : ℕ} → HasEnd text x q (Some e) → IsOver text f (Some e)
  opt_some {e} h = let on = onward_by is w in over is w (opt_present webidl text y f.place e (moved on.0 on.1 h))

  pub opt_none : HasEnd text x q None → IsOver text f (Some f.place)
  opt_none h = let on = onward_by is w in over is w (opt_absent webidl text y f.place (moved on.0 on.1 h))

-- where the rule itself, or another, is read behind a first end
behind_cell : {text : List ℕ} {f : Frame} {y e z : ℕ} → IsOpen text f → HasEnd text y f.place (Some e) → z < rule_count → (e ≡ f.place → z < f.rule) → (turn_number (length text) z e < turn_number (length text) f.rule f.place) × (e ≤ length text)
behind_cell {text} {f} {y} {e} {z} o h zl low =
    let after = ends_after webidl text y f.place e h in
    let within = ends_inside webidl text y f.place e h o.within in
    (turn_before f.place e z f.rule (length text) after within zl low, within)

-- a repetition
module _ {text : List ℕ} {f : Frame} {x q y : ℕ} (o : IsOpen text f) (is : row_of f.rule ≡ Many y) (w : Waits text f x q 1) where
  many_first : f.part ≤ 0 → (x ≡ y) × (q ≡ f.place)
  many_first z = elim (onward_by is w) [ inl k ↦ (k.1, k.2) | inr k ↦ (let n = k.0 in absurd (omega arith)) ]

  pub many_last : {e : Option ℕ} → 0 < f.part → HasEnd text x q e → IsOver text f e
  many_last {e} l h = elim (onward_by is w) [
    | inl k ↦ (let n = k.0 in absurd (omega arith))
    | inr k ↦ over is w (many_goes webidl text y f.place q e k.3 k.2 (row_ends is (moved k.1 refl h)))
  ]

  pub many_none : f.part ≤ 0 → HasEnd text x q None → IsOver text f (Some f.place)
  many_none z h = let k = many_first z in over is w (many_ends webidl text y f.place (moved k.0 k.1 h))

  pub many_stays : {e : ℕ} → f.part ≤ 0 → e ≡ f.place → HasEnd text x q (Some e) → IsOver text f None
  many_stays {e} z s h = let k = many_first z in over is w (many_fails webidl text y f.place (subst (λ d. HasEnd text y f.place (Some d)) s (moved k.0 k.1 h)))

  pub many_on : {g : Frame} {e : ℕ} → f.part ≤ 0 → e ≢ f.place → HasEnd text x q (Some e) → g ≡ record f { part = 1; end = e } → Waits text g f.rule e 0
  many_on {g} {e} z n h gi =
      let k = many_first z in
      let d = moved k.0 k.1 h in
      let b = behind_cell {f = f} o d o.low (λ z. absurd (n z)) in
      let gr : g.rule ≡ f.rule = ap (λ (v : Frame). v.rule) gi in
      let gp : g.place ≡ f.place = ap (λ (v : Frame). v.place) gi in
      let gn : g.part ≡ 1 = ap (λ (v : Frame). v.part) gi in
      let gc : g.count ≡ f.count = ap (λ (v : Frame). v.count) gi in
      waits_at f is (inr (gn, sym gr, (λ z. n (z ∙ gp)), moved refl (sym gp) d)) b.0 o.low b.1 gr gp (omega (arith, w.few)) (omega arith)

-- a list
module _ {text : List ℕ} {f : Frame} {x q y t : ℕ} (o : IsOpen text f) (is : row_of f.rule ≡ ListOf y t) (w : Waits text f x q 1) where
  list_first : f.part ≤ 0 → (x ≡ y) × (q ≡ f.place)
  list_first z = elim (onward_by is w) [ inl k ↦ (k.1, k.2) | inr k ↦ (let n = k.0 in absurd (omega arith)) ]

  pub list_last : {e : Option ℕ} → 0 < f.part → HasEnd text x q e → IsOver text f e
  list_last {e} l h = elim (onward_by is w) [
    | inl k ↦ (let n = k.0 in absurd (omega arith))
    | inr k ↦ over is w (list_goes webidl text y t f.place q e k.2 (moved k.1 refl h))
  ]

  pub list_none : f.part ≤ 0 → HasEnd text x q None → IsOver text f (Some f.place)
  list_none z h = let k = list_first z in over is w (list_ends webidl text y t f.place (moved k.0 k.1 h))

  pub list_on : {g : Frame} {e : ℕ} → f.part ≤ 0 → HasEnd text x q (Some e) → g ≡ record f { part = 1; end = e } → t < rule_count → Waits text g t e 0
  list_on {g} {e} z h gi tl =
      let k = list_first z in
      let d = moved k.0 k.1 h in
      let b = behind_cell {f = f} o d tl (list_next_low webidl text takes ranked f.rule y t f.place e is d) in
      let gr : g.rule ≡ f.rule = ap (λ (v : Frame). v.rule) gi in
      let gp : g.place ≡ f.place = ap (λ (v : Frame). v.place) gi in
      let gn : g.part ≡ 1 = ap (λ (v : Frame). v.part) gi in
      let gc : g.count ≡ f.count = ap (λ (v : Frame). v.count) gi in
      waits_at f is (inr (gn, refl, moved refl (sym gp) d)) b.0 tl b.1 gr gp (omega (arith, w.few)) (omega arith)

-- a list of one item at least
module _ {text : List ℕ} {f : Frame} {x q y t : ℕ} (o : IsOpen text f) (is : row_of f.rule ≡ List1 y t) (w : Waits text f x q 1) where
  list1_first : f.part ≤ 0 → (x ≡ y) × (q ≡ f.place)
  list1_first z = elim (onward_by is w) [ inl k ↦ (k.1, k.2) | inr k ↦ (let n = k.0 in absurd (omega arith)) ]

  pub list1_last : {e : Option ℕ} → 0 < f.part → HasEnd text x q e → IsOver text f e
  list1_last {e} l h = elim (onward_by is w) [
    | inl k ↦ (let n = k.0 in absurd (omega arith))
    | inr k ↦ over is w (list1_goes webidl text y t f.place q e k.2 (moved k.1 refl h))
  ]

  pub list1_none : f.part ≤ 0 → HasEnd text x q None → IsOver text f None
  list1_none z h = let k = list1_first z in over is w (list1_ends webidl text y t f.place (moved k.0 k.1 h))

  pub list1_on : {g : Frame} {e : ℕ} → f.part ≤ 0 → HasEnd text x q (Some e) → g ≡ record f { part = 1; end = e } → t < rule_count → Waits text g t e 0
  list1_on {g} {e} z h gi tl =
      let k = list1_first z in
      let d = moved k.0 k.1 h in
      let b = behind_cell {f = f} o d tl (list1_next_low webidl text takes ranked f.rule y t f.place e is d) in
      let gr : g.rule ≡ f.rule = ap (λ (v : Frame). v.rule) gi in
      let gp : g.place ≡ f.place = ap (λ (v : Frame). v.place) gi in
      let gn : g.part ≡ 1 = ap (λ (v : Frame). v.part) gi in
      let gc : g.count ≡ f.count = ap (λ (v : Frame). v.count) gi in
      waits_at f is (inr (gn, refl, moved refl (sym gp) d)) b.0 tl b.1 gr gp (omega (arith, w.few)) (omega arith)

-- what follows separators
module _ {text : List ℕ} {f : Frame} {x q y s : ℕ} (o : IsOpen text f) (is : row_of f.rule ≡ Tail y s) (w : Waits text f x q 1) where
  tail_first : f.part ≤ 0 → (x ≡ s) × (q ≡ f.place)
  tail_first z = elim (onward_by is w) [
    | inl k ↦ (k.1, k.2)
    | inr r ↦ elim r [ inl k ↦ (let n = k.0 in absurd (omega arith)) | inr k ↦ (let n = k.0 in absurd (omega arith)) ]
  ]

  tail_second : f.part ≡ 1 → (x ≡ y) × (q ≢ f.place) × HasEnd text s f.place (Some q)
  tail_second z = elim (onward_by is w) [
    | inl k ↦ (let n = k.0 in absurd (omega arith))
    | inr r ↦ elim r [ inl k ↦ (k.1, k.2, k.3) | inr k ↦ (let n = k.0 in absurd (omega arith)) ]
  ]

  pub tail_last : {e : Option ℕ} → 1 < f.part → HasEnd text x q e → IsOver text f e
  tail_last {e} l h = elim (onward_by is w) [
    | inl k ↦ (let n = k.0 in absurd (omega arith))
    | inr r ↦ elim r [
      | inl k ↦ (let n = k.0 in absurd (omega arith))
      | inr k ↦ over is w (tail_goes webidl text y s f.place k.2.0 q e k.2.2 k.2.1 k.2.3 (row_ends is (moved k.1 refl h)))
    ]
  ]

  pub tail_none : f.part ≤ 1 → HasEnd text x q None → IsOver text f (Some f.place)
  tail_none z h = elim (onward_by is w) [
    | inl k ↦ over is w (tail_ends webidl text y s f.place (moved k.1 k.2 h))
    | inr r ↦ elim r [
      | inl k ↦ over is w (tail_gives_back webidl text y s f.place q k.3 k.2 (moved k.1 refl h))
      | inr k ↦ (let n = k.0 in absurd (omega arith))
    ]
  ]

  pub tail_stays : {e : ℕ} → f.part ≤ 1 → f.part ≢ 1 → e ≡ f.place → HasEnd text x q (Some e) → IsOver text f None
  tail_stays {e} l n st h = let k = tail_first (omega (arith, n)) in over is w (tail_fails webidl text y s f.place (subst (λ d. HasEnd text s f.place (Some d)) st (moved k.0 k.1 h)))

  pub tail_item : {g : Frame} {e : ℕ} → f.part ≤ 1 → f.part ≢ 1 → e ≢ f.place → HasEnd text x q (Some e) → g ≡ record f { part = 1; end = e } → y < rule_count → Waits text g y e 0
  tail_item {g} {e} l m n h gi yl =
      let k = tail_first (omega (arith, m)) in
      let d = moved k.0 k.1 h in
      let b = behind_cell {f = f} o d yl (λ z. absurd (n z)) in
      let gr : g.rule ≡ f.rule = ap (λ (v : Frame). v.rule) gi in
      let gp : g.place ≡ f.place = ap (λ (v : Frame). v.place) gi in
      let gn : g.part ≡ 1 = ap (λ (v : Frame). v.part) gi in
      let gc : g.count ≡ f.count = ap (λ (v : Frame). v.count) gi in
      waits_at f is (inr (inl (gn, refl, (λ z. n (z ∙ gp)), moved refl (sym gp) d))) b.0 yl b.1 gr gp (omega (arith, w.few)) (omega arith)

  pub tail_again : {g : Frame} {e : ℕ} → f.part ≡ 1 → HasEnd text x q (Some e) → g ≡ record f { part = 2; end = e } → Waits text g f.rule e 0
  tail_again {g} {e} m h gi =
      let k = tail_second m in
      let c = moved {q = q} k.0 refl h in
      let a = ends_after webidl text s f.place q k.2 in
      let i = ends_inside webidl text s f.place q k.2 o.within in
      let b = ends_after webidl text y q e c in
      let j = ends_inside webidl text y q e c i in
      let n = k.1 in
      let gr : g.rule ≡ f.rule = ap (λ (v : Frame). v.rule) gi in
      let gp : g.place ≡ f.place = ap (λ (v : Frame). v.place) gi in
      let gn : g.part ≡ 2 = ap (λ (v : Frame). v.part) gi in
      let gc : g.count ≡ f.count = ap (λ (v : Frame). v.count) gi in
      waits_at f is (inr (inr (gn, sym gr, (q, (λ z. n (z ∙ gp)), moved refl (sym gp) k.2, c)))) (turn_before f.place e f.rule f.rule (length text) (omega arith) j o.low (λ z. absurd (omega (arith, n)))) o.low j gr gp (omega (arith, w.few)) (omega arith)
