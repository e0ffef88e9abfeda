-- What a frame at its start waits for.
use Rattle.std.proofs.Common.{◌≡◌, inl, inr, ℕ, ◌+◌, ◌-◌, ◌<◌, ◌≤◌, List, [], ◌∷◌, length, drop, Option, Some, None, true, false, refl, ap, sym, subst, ◌∙◌, arith, get_or}
use Rattle.std.specs.Prelude.{slice_index}
use Rattle.weedle_grammar.specs.Rows.{Row, Seq, First, Opt, Many, ListOf, List1, Tail, If}
use Rattle.weedle_grammar.specs.written.Bound.{rule_count}
use Rattle.weedle_grammar.specs.written.Table.{webidl, row_of}
use Rattle.weedle_grammar.proofs.Takes.{takes}
use Rattle.weedle_grammar.proofs.Checked.{ranked}
use Rattle.weedle_rules.specs.Cells.{HasEnd, turn_number}
use Rattle.weedle_rules.specs.written.Bound.{most_reads}
use Rattle.weedle_rules.proofs.PartEnds.{Along, along_start, along_before, Trying, trying_start, trying_before, opt_low, many_low, list_low, list1_low, tail_low}
use Rattle.weedle_rules.proofs.ConditionEnds.{AlongIf, if_start, if_before, note_at, note_high}
use Rattle.weedle_rules.proofs.FewReads.{seq_few, first_few, if_switch}
use Rattle.weedle_rules.proofs.ListFrom.{parts_from}
use Rattle.weedle_memo.specs.Frames.{IsPart, WaitsBy, Waits, IsOpen, IsFresh}
use Rattle.weedle_memo.specs.declared.frame.Frame.{Frame}

begins_by : {text : List ℕ} {f : Frame} {y : ℕ} {row : Row} → IsFresh text f → row_of f.rule ≡ row → WaitsBy text row f y f.place → turn_number (length text) y f.place < turn_number (length text) f.rule f.place → y < rule_count → Waits text f y f.place 0
begins_by {text} {f} {y} s is on k yl =
    let a = s.part_is in
    let b = s.count_is in
    record {
      onward = subst (λ row. WaitsBy text row f y f.place) (sym is) on;
      before = k;
      low = yl;
      within = s.opened.within;
      few = omega arith;
      some = omega arith;
      part_few = omega arith;
    }

lower : (text : List ℕ) (f : Frame) {y : ℕ} → y < f.rule → turn_number (length text) y f.place < turn_number (length text) f.rule f.place
lower text f h = omega arith

module _ {text : List ℕ} {f : Frame} (s : IsFresh text f) where
  pub seq_some : {parts : List ℕ} → row_of f.rule ≡ Seq parts → 0 < length parts
  seq_some is = (seq_few s.opened.low is).0

  pub first_some : {parts : List ℕ} → row_of f.rule ≡ First parts → 0 < length parts
  first_some is = (first_few s.opened.low is).0

  pub if_some : {parts : List ℕ} {k y : ℕ} → row_of f.rule ≡ If parts k y → 0 < length parts
  if_some is = let n = (if_switch s.opened.low is).1 in omega arith

  pub seq_begins : {parts : List ℕ} {y : ℕ} → row_of f.rule ≡ Seq parts → y ≡ slice_index parts 0 → y < rule_count → Waits text f y f.place 0
  seq_begins {parts} {y} is yi yl =
      let some = seq_some is in
      let a = along_start webidl text takes ranked f.rule f.place parts is s.opened.within in
      let b = subst (λ z. Along webidl text takes f.rule f.place parts z f.place) (parts_from parts 0 some ∙ ap (λ z. z ∷ drop 1 parts) (sym yi)) a in
      begins_by s is (
        (omega (arith, s.part_is, some), yi ∙ ap (slice_index parts) (sym s.part_is)),
        subst (λ z. Along webidl text takes f.rule f.place parts (drop z parts) f.place) (sym s.part_is) a,
      ) (along_before webidl text takes ranked f.rule f.place y f.place parts (drop 1 parts) b yl) yl

  pub first_begins : {parts : List ℕ} {y : ℕ} → row_of f.rule ≡ First parts → y ≡ slice_index parts 0 → y < rule_count → Waits text f y f.place 0
  first_begins {parts} {y} is yi yl =
      let some = first_some is in
      let a = trying_start webidl text takes ranked f.rule f.place parts is in
      let b = subst (λ z. Trying webidl text takes f.rule parts z 0 f.place) (parts_from parts 0 some ∙ ap (λ z. z ∷ drop 1 parts) (sym yi)) a in
      begins_by s is (
        (omega (arith, s.part_is, some), yi ∙ ap (slice_index parts) (sym s.part_is)),
        refl,
        subst (λ z. Trying webidl text takes f.rule parts (drop z parts) z f.place) (sym s.part_is) a,
      ) (trying_before webidl text takes ranked f.rule 0 f.place y parts (drop 1 parts) b) yl

  pub if_begins : {parts : List ℕ} {k l y : ℕ} → row_of f.rule ≡ If parts k l → y ≡ slice_index parts 0 → y < rule_count → Waits text f y f.place 0
  if_begins {parts} {k} {l} {y} is yi yl =
      let some = if_some is in
      let a = if_start webidl text takes ranked f.rule k l f.place parts is s.opened.within in
      let b = subst (λ z. AlongIf webidl text takes f.rule k f.place parts z (inl k) f.place) (parts_from parts 0 some ∙ ap (λ z. z ∷ drop 1 parts) (sym yi)) a in
      let z : k - 0 ≡ k = omega arith in
      let n : note_at k 0 f.present ≡ inl k = note_high k 0 f.present (omega arith) ∙ ap inl z in
      begins_by s is (
        sym s.end_is,
        inl (
          (omega (arith, s.part_is, some), yi ∙ ap (slice_index parts) (sym s.part_is)),
          subst (λ z. AlongIf webidl text takes f.rule k f.place parts (drop z parts) (note_at k z f.present) f.place) (sym s.part_is) (
              subst (λ z. AlongIf webidl text takes f.rule k f.place parts parts z f.place) (sym n) a),
        ),
      ) (if_before webidl text takes ranked f.rule k f.place y f.place parts (drop 1 parts) (inl k) b yl) yl

  pub opt_begins : {y : ℕ} → row_of f.rule ≡ Opt y → y < rule_count → Waits text f y f.place 0
  opt_begins {y} is yl = begins_by s is (refl, refl) (lower text f (opt_low webidl text takes ranked f.rule y is)) yl

  pub many_begins : {y : ℕ} → row_of f.rule ≡ Many y → y < rule_count → Waits text f y f.place 0
  many_begins {y} is yl = begins_by s is (inl (s.part_is, refl, refl)) (lower text f (many_low webidl text takes ranked f.rule y is)) yl

  pub list_begins : {y t : ℕ} → row_of f.rule ≡ ListOf y t → y < rule_count → Waits text f y f.place 0
  list_begins {y} {t} is yl = begins_by s is (inl (s.part_is, refl, refl)) (lower text f (list_low webidl text takes ranked f.rule y t is)) yl

  pub list1_begins : {y t : ℕ} → row_of f.rule ≡ List1 y t → y < rule_count → Waits text f y f.place 0
  list1_begins {y} {t} is yl = begins_by s is (inl (s.part_is, refl, refl)) (lower text f (list1_low webidl text takes ranked f.rule y t is)) yl

  pub tail_begins : {y t : ℕ} → row_of f.rule ≡ Tail y t → t < rule_count → Waits text f t f.place 0
  tail_begins {y} {t} is tl = begins_by s is (inl (s.part_is, refl, refl)) (lower text f (tail_low webidl text takes ranked f.rule y t is)) tl
