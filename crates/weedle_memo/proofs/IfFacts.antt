-- What a frame of a row with a condition comes to.
use Rattle.std.proofs.Common.{◌≡◌, ◌≢◌, ◌⊎◌, inl, inr, ℕ, ◌+◌, ◌<◌, ◌≤◌, List, [], ◌∷◌, length, drop, Bool, Option, Some, None, true, false, refl, ap, sym, subst, ◌∙◌, arith, get_or}
use Rattle.std.specs.Prelude.{slice_index, if◌then◌else◌, ◌==◌, not}
use Rattle.weedle_grammar.specs.Rows.{Row, If}
use Rattle.weedle_grammar.specs.Trees.{Gives}
use Rattle.weedle_grammar.specs.Meaning.{ReadsBy, is_present}
use Rattle.weedle_grammar.specs.written.Bound.{rule_count}
use Rattle.weedle_grammar.specs.written.Table.{webidl, row_of}
use Rattle.weedle_grammar.proofs.Takes.{takes}
use Rattle.weedle_grammar.proofs.Checked.{ranked}
use Rattle.weedle_rules.specs.Cells.{HasEnd, turn_number}
use Rattle.weedle_rules.specs.written.Bound.{most_reads}
use Rattle.weedle_rules.proofs.RowEnds.{turn_before, ends_after, ends_inside}
use Rattle.weedle_rules.proofs.ConditionEnds.{AlongIf, NoteEnds, if_start, if_before, if_step, if_along_fails, if_along_ends, if_ends_none, if_ends_absent, if_ends_present, if_next_low, present, note_at, note_low, note_high, note_more, chosen_here, chosen_other}
use Rattle.weedle_rules.proofs.FewReads.{if_switch}
use Rattle.weedle_rules.proofs.ListFrom.{parts_from, past_end}
use Rattle.weedle_memo.specs.Frames.{IsPart, WaitsBy, Waits, IsOpen, IsOver}
use Rattle.weedle_memo.proofs.ResumeFacts.{onward_by, over, moved, waits_at}
use Rattle.weedle_memo.specs.declared.frame.Frame.{Frame}

module _ {text : List ℕ} {f : Frame} {x q k y : ℕ} {parts : List ℕ} (o : IsOpen text f) (is : row_of f.rule ≡ If parts k y) (w : Waits text f x q 1) where
  pub if_last : {n : ℕ} {e : Option ℕ} → n ≡ length parts → n ≤ f.part → HasEnd text x q e → IsOver text f e
  if_last {n} {e} many past h = elim (onward_by is w).1 [
    | inl v ↦ (let l = v.0.0 in absurd (omega (arith, many, past)))
    | inr v ↦ over is w (if_ends_present webidl text parts k y f.place q e v.2 (moved v.1 refl h))
  ]

  pub if_here : {n : ℕ} → n ≡ length parts → f.part < n → IsPart parts f.part x × AlongIf webidl text takes f.rule k f.place parts (x ∷ drop (f.part + 1) parts) (note_at k f.part f.present) q
  if_here {n} many more = elim (onward_by is w).1 [
    | inl v ↦ (v.0, subst (λ z. AlongIf webidl text takes f.rule k f.place parts z (note_at k f.part f.present) q) (parts_from parts f.part v.0.0 ∙ ap (λ z. z ∷ drop (f.part + 1) parts) (sym v.0.1)) v.1)
    | inr v ↦ (let l = v.0 in absurd (omega (arith, many, more)))
  ]

  pub if_none : {n : ℕ} → n ≡ length parts → f.part < n → HasEnd text x q None → IsOver text f None
  if_none {n} many more h =
      let a = if_here many more in
      over is w (if_ends_none webidl text parts k y f.place (if_along_fails webidl text takes f.rule k f.place x q parts (drop (f.part + 1) parts) (note_at k f.part f.present) a.1 h))

  if_more : {n e : ℕ} {b : Bool} → n ≡ length parts → f.part < n → HasEnd text x q (Some e) → b ≡ (if f.part == k then not (e == f.end) else f.present)
      → AlongIf webidl text takes f.rule k f.place parts (drop (f.part + 1) parts) (note_at k (f.part + 1) b) e
  if_more {n} {e} {b} many more h chosen =
      let a = if_here many more in
      let sw = (if_switch o.low is).2 in
      let qe : q ≡ f.end = (onward_by is w).0 in
      let at : b ≡ (if f.part == k then not (e == q) else f.present) = chosen ∙ ap (λ z. if f.part == k then not (e == z) else f.present) (sym qe) in
      if_step webidl text takes ranked f.rule k f.place x q e parts (drop (f.part + 1) parts) (note_at k f.part f.present) (note_at k (f.part + 1) b) a.1 h
      (λ ts d. note_more webidl text k f.part f.present (is_present ts) b
      (λ s. chosen_here f.part k e q f.present b (is_present ts) s at
      (present webidl text takes ranked (get_or parts k 0) sw.x q e ts sw.row_is sw.shape_is sw.mark_is sw.takes_it (subst (λ z. ReadsBy webidl text z q (Gives ts e)) (a.0.1 ∙ ap (λ z. get_or parts z 0) s) d)))
      (λ s. chosen_other f.part k (not (e == q)) f.present b s at))

  pub if_on : {g : Frame} {n e z : ℕ} {b : Bool} → n ≡ length parts → f.part < n → HasEnd text x q (Some e) → b ≡ (if f.part == k then not (e == f.end) else f.present)
      → f.part + 1 < n → z ≡ slice_index parts (f.part + 1) → z < rule_count
      → g.rule ≡ f.rule → g.place ≡ f.place → g.count ≡ f.count → g.part ≡ f.part + 1 → g.end ≡ e → g.present ≡ b → Waits text g z e 0
  if_on {g} {n} {e} {z} {b} many more h chosen less zi zl gr gp gc gn ge gb =
      let a = if_more many more h chosen in
      let l : f.part + 1 < length parts = omega (arith, many, less) in
      let c = subst (λ v. AlongIf webidl text takes f.rule k f.place parts v (note_at k (f.part + 1) b) e) (parts_from parts (f.part + 1) l ∙ ap (λ v. v ∷ drop (f.part + 1 + 1) parts) (sym zi)) a in
      let before = if_before webidl text takes ranked f.rule k f.place z e parts (drop (f.part + 1 + 1) parts) (note_at k (f.part + 1) b) c zl in
      let few = (if_switch o.low is).0 in
      waits_at f is (
        sym ge,
        inl (
          (omega (arith, gn, l), zi ∙ ap (slice_index parts) (sym gn)),
          subst (λ v. AlongIf webidl text takes v k g.place parts (drop g.part parts) (note_at k g.part g.present) e) (sym gr) (
              subst (λ v. AlongIf webidl text takes f.rule k v parts (drop g.part parts) (note_at k g.part g.present) e) (sym gp) (
              subst (λ v. AlongIf webidl text takes f.rule k f.place parts (drop v parts) (note_at k v g.present) e) (sym gn) (
              subst (λ v. AlongIf webidl text takes f.rule k f.place parts (drop (f.part + 1) parts) (note_at k (f.part + 1) v) e) (sym gb) a))),
        ),
      ) before zl a.within gr gp (omega (arith, w.few, gc, gn)) (omega (arith, gn, l, few))

  pub if_done : {n e : ℕ} {b : Bool} → n ≡ length parts → f.part < n → HasEnd text x q (Some e) → b ≡ (if f.part == k then not (e == f.end) else f.present) → n ≤ f.part + 1
      → NoteEnds webidl text (inl k) parts f.place (Some e) b
  if_done {n} {e} {b} many more h chosen past =
      let a = if_more many more h chosen in
      let kl = (if_switch o.low is).1 in
      let none = past_end parts (f.part + 1) (omega (arith, many, past)) in
      let low = note_low k (f.part + 1) b (omega (arith, kl, many, past)) in
      let c = subst (λ v. AlongIf webidl text takes f.rule k f.place parts v (note_at k (f.part + 1) b) e) none a in
      let d = subst (λ v. AlongIf webidl text takes f.rule k f.place parts [] v e) low c in
      if_along_ends webidl text takes f.rule k f.place e parts b d

  pub if_then : {g : Frame} {n e : ℕ} {b : Bool} → n ≡ length parts → f.part < n → HasEnd text x q (Some e) → b ≡ (if f.part == k then not (e == f.end) else f.present)
      → n ≤ f.part + 1 → b ≡ true → y < rule_count
      → g.rule ≡ f.rule → g.place ≡ f.place → g.count ≡ f.count → g.part ≡ f.part + 1 → g.end ≡ e → Waits text g y e 0
  if_then {g} {n} {e} {b} many more h chosen past gave yl gr gp gc gn ge =
      let a = if_more many more h chosen in
      let m = subst (λ v. NoteEnds webidl text (inl k) parts f.place (Some e) v) gave (if_done many more h chosen past) in
      let low = if_next_low webidl text takes ranked f.rule k y f.place e parts is m a.after in
      let before = turn_before f.place e y f.rule (length text) a.after a.within yl low in
      let few = (if_switch o.low is).0 in
      waits_at f is (
        sym ge,
        inr (omega (arith, gn, many, past), refl, subst (λ v. NoteEnds webidl text (inl k) parts v (Some e) true) (sym gp) m),
      ) before yl a.within gr gp (omega (arith, w.few, gc, gn)) (omega (arith, gn, many, past, more, few))

  pub if_else : {g : Frame} {n e : ℕ} {b : Bool} → n ≡ length parts → f.part < n → HasEnd text x q (Some e) → b ≡ (if f.part == k then not (e == f.end) else f.present)
      → n ≤ f.part + 1 → b ≡ false → g.rule ≡ f.rule → g.place ≡ f.place → g.count ≡ f.count → IsOver text g (Some e)
  if_else {g} {n} {e} {b} many more h chosen past lacks gr gp gc =
      let m = subst (λ v. NoteEnds webidl text (inl k) parts f.place (Some e) v) lacks (if_done many more h chosen past) in
      let v = over is w (if_ends_absent webidl text parts k y f.place e m) in
      record {
        right = moved (sym gr) (sym gp) v.right;
        looked = omega (arith, v.looked, gc);
        few = omega (arith, v.few, gc);
      }
