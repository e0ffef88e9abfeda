-- What fails where a rule is read, by its row.
use Rattle.std.proofs.Common.{◌≡◌, ◌≢◌, ◌⊎◌, inl, inr, ℕ, ◌+◌, ◌<◌, ◌≤◌, List, [], ◌∷◌, length, true, false, Option, Some, None, refl, sym, subst, ◌∙◌, ap, arith}
use Rattle.std.specs.Prelude.{MatchOption}
use Rattle.weedle_grammar.specs.Rows.{Row, Seq, First, Opt, Many, ListOf, List1, Tail}
use Rattle.weedle_grammar.specs.written.Table.{webidl, row_of}
use Rattle.weedle_grammar.specs.written.Bound.{rule_count}
use Rattle.weedle_grammar.specs.written.Table.Definitions.{DEFINITIONS}
use Rattle.weedle_rules.specs.Cells.{HasEnd, turn_number}
use Rattle.weedle_rules.specs.Outcomes.{EndsAt, FailsAt}
use Rattle.weedle_grammar.proofs.Takes.{takes}
use Rattle.weedle_grammar.proofs.Checked.{ranked}
use Rattle.weedle_rules.proofs.RowEnds.{turn_before, rule_ends, seq_ends, first_ends, opt_absent, opt_present, list_ends, list_goes, list1_ends, list1_goes, RowEnds, many_ends, many_fails, many_goes, tail_ends, tail_fails, tail_gives_back, tail_goes, ends_after, ends_inside}
use Rattle.weedle_rules.proofs.PartEnds.{Along, along_start, along_step, along_fails, along_ends, Trying, trying_start, first_fits, first_tries_on, first_fits_none}
use Rattle.weedle_rules.proofs.OutcomeFacts.{it_ends, it_fails}
use Rattle.weedle_starts.specs.Tries.{SameAttempt, TriesInTurn, TriesByChoice, TriesListed, RowTries, Tried, at_first, by, Leads, itself, on, TriesHere, has_no_parts, IsUnmet}
use Rattle.weedle_refusal.specs.Diagnosis.{IsUnmetBy, IsUnmetIn}
use Rattle.weedle_syntax.specs.Dialects.{start_of}
use Rattle.weedle_syntax.specs.declared.dialect.Dialect.{Dialect}
use Rattle.weedle_syntax.specs.declared.dialect.Dialect.TheVariants.{Weedle2, Today}
use Rattle.weedle_refusal.specs.Noted.{Notes, IsNoted}
use Rattle.weedle_refusal.specs.declared.diagnose.noted.Furthest.{Furthest}
use Rattle.weedle_refusal.proofs.AddingFacts.{Attempts}
use Rattle.weedle_starts.proofs.LaterFacts.{tries_later}
use Rattle.weedle_refusal.proofs.OutcomeFacts.{same_end, no_end, no_failure, never_so}
use Rattle.weedle_refusal.proofs.FailureFacts.{led_on}
use Rattle.weedle_refusal.proofs.NotingFacts.{nothing_noted, alike, failure_noted, Of, Left, set_out, go_on, finish, arrive}

-- what is known of a call's answer, once that is known
pub has_now : {text : List ℕ} {r p : ℕ} {o now : Option ℕ} → o ≡ now → HasEnd text r p o → HasEnd text r p now
has_now {text} {r} {p} e h = subst (HasEnd text r p) e h

-- what a rule tries is in the text, is a rule, and its cell comes before the rule's
pub row_before : (text : List ℕ) {r p x q : ℕ} {row : Row} → row_of r ≡ row → p ≤ length text → r < rule_count → RowTries text row r p x q → (q ≤ length text) × (x < rule_count) × (turn_number (length text) x q < turn_number (length text) r p)
row_before text {r} {p} {x} {q} is fits low t =
    let l = tries_later text r p fits low x q (subst (λ w. RowTries text w r p x q) (sym is) t) in
    (l.within, l.low, turn_before p q x r (length text) l.after l.within l.low l.smaller)

module _ (text : List ℕ) (r p : ℕ) {row : Row} (is : row_of r ≡ row) where
  -- a row with parts fails by what it tries
  unmet_by : (parts : has_no_parts row ≡ false) (x q : ℕ) → IsUnmetIn text r p x q → Of text (RowTries text row r p) x q
  unmet_by parts x q u = by_lead u.tried
    where
      by_lead : Leads text x q r p → Of text (RowTries text row r p) x q
      by_lead (itself s) = absurd (let a : has_no_parts row ≡ true = ap has_no_parts (sym is) ∙ ap (λ k. has_no_parts (row_of k)) (sym s.0) ∙ u.plain in let n : ⊥ = cc in n)
      by_lead (on {y = y} {z = z} t l) = (y, z, subst (λ w. RowTries text w r p y z) is t, record { plain = u.plain; tried = l; fails = u.fails })

  unmet_from : (x q : ℕ) → Of text (RowTries text row r p) x q → IsUnmetIn text r p x q
  unmet_from x q (y, z, t, u) = record { plain = u.plain; tried = on (subst (λ w. RowTries text w r p y z) (sym is) t) u.tried; fails = u.fails }

  pub by_its_row : {old new : Furthest} → has_no_parts row ≡ false → Notes text (Of text (RowTries text row r p)) old new → Notes text (IsUnmetIn text r p) old new
  by_its_row parts n = alike (IsUnmetIn text r p) n unmet_from (unmet_by parts)

  -- a row without parts fails by itself
  module _ (plain : has_no_parts row ≡ true) (none : (x q : ℕ) → RowTries text row r p x q → ⊥) where
    only_itself : (x q : ℕ) → Leads text x q r p → SameAttempt r p x q
    only_itself x q (itself s) = s
    only_itself x q (on {y = y} {z = z} t l) = absurd (none y z (subst (λ w. RowTries text w r p y z) is t))

    pub leaf_noted : {old new : Furthest} (o : Option ℕ) → p ≤ length text → r < rule_count → HasEnd text r p o → MatchOption o (IsNoted r p old new) (λ e. new ≡ old) → Notes text (IsUnmetIn text r p) old new
    leaf_noted None fits low h n = failure_noted text r p fits low (it_fails h) (λ x q l. (only_itself x q l).1) (λ l. ap has_no_parts is ∙ plain) n
    leaf_noted {old} (Some e) fits low h same = subst (Notes text (IsUnmetIn text r p) old) (sym same) (nothing_noted (IsUnmetIn text r p) old (λ x q u. (
        let s = only_itself x q u.tried in
        no_failure h (subst (λ k. FailsAt text r k) s.1 (subst (λ k. FailsAt text k q) s.0 u.fails)))))

-- a rule that can't begin with the byte there, where rules are noted as a whole
pub refused_noted : (text : List ℕ) (r p : ℕ) {old new : Furthest} → p ≤ length text → r < rule_count → HasEnd text r p None → TriesHere text r p → old.leaves ≡ false → IsNoted r p old new → Notes text (IsUnmetIn text r p) old new
refused_noted text r p fits low h here whole n = failure_noted text r p fits low (it_fails h) here (λ l. never_so (sym whole ∙ l)) n

module _ (text : List ℕ) {old : Furthest} where
  -- sequences
  pub turn_on : (rs : List ℕ) {now new : Furthest} {all : Attempts} {s q e : ℕ} → Left text old all now (TriesInTurn text (s ∷ rs) q) → Notes text (IsUnmetIn text s q) now new
      → HasEnd text s q (Some e) → Left text old all new (TriesInTurn text rs e)
  turn_on rs {s = s} {q = q} {e = e} g n h = go_on g s q (TriesInTurn text rs e) n (λ x z t. elim t [
    | inl i ↦ inl i
    | inr w ↦ inr (subst (λ y. TriesInTurn text rs y x z) (same_end h w.1) w.2)
  ]) (inl (refl, refl)) (λ x z t. inr (e, it_ends h, t))

  pub turn_fails : (rs : List ℕ) {now new : Furthest} {all : Attempts} {s q : ℕ} → Left text old all now (TriesInTurn text (s ∷ rs) q) → Notes text (IsUnmetIn text s q) now new
      → HasEnd text s q None → Notes text (Of text all) old new
  turn_fails rs {s = s} {q = q} g n h = finish g s q n (λ x z t. elim t [ inl i ↦ i | inr w ↦ absurd (no_end h w.1) ]) (inl (refl, refl))

  pub turn_ends : (q : ℕ) {now : Furthest} {all : Attempts} → Left text old all now (TriesInTurn text [] q) → Notes text (Of text all) old now
  turn_ends q g = arrive g (λ x z t. t)

  -- choices
  pub choice_on : (rs : List ℕ) {now new : Furthest} {all : Attempts} {s q : ℕ} → Left text old all now (TriesByChoice text (s ∷ rs) q) → Notes text (IsUnmetIn text s q) now new
      → HasEnd text s q None → Left text old all new (TriesByChoice text rs q)
  choice_on rs {s = s} {q = q} g n h = go_on g s q (TriesByChoice text rs q) n (λ x z t. elim t [ inl i ↦ inl i | inr w ↦ inr w.1 ]) (inl (refl, refl)) (λ x z t. inr (it_fails h, t))

  pub choice_fits : (rs : List ℕ) {now new : Furthest} {all : Attempts} {s q e : ℕ} → Left text old all now (TriesByChoice text (s ∷ rs) q) → Notes text (IsUnmetIn text s q) now new
      → HasEnd text s q (Some e) → Notes text (Of text all) old new
  choice_fits rs {s = s} {q = q} g n h = finish g s q n (λ x z t. elim t [ inl i ↦ i | inr w ↦ absurd (no_failure h w.0) ]) (inl (refl, refl))

  pub choice_ends : (q : ℕ) {now : Furthest} {all : Attempts} → Left text old all now (TriesByChoice text [] q) → Notes text (Of text all) old now
  choice_ends q g = arrive g (λ x z t. t)

  -- lists
  pub none_follows : {new : Furthest} {p y : ℕ} (t : ℕ) → Notes text (IsUnmetIn text y p) old new → HasEnd text y p None → Notes text (Of text (TriesListed text y t p)) old new
  none_follows {p = p} {y = y} t n h = finish (set_out text old (TriesListed text y t p)) y p n (λ x q t. elim t [ inl i ↦ i | inr w ↦ absurd (no_end h w.1) ]) (inl (refl, refl))

  pub one_follows : {now new : Furthest} {p y e : ℕ} (t : ℕ) → Notes text (IsUnmetIn text y p) old now → HasEnd text y p (Some e) → Notes text (IsUnmetIn text t e) now new → Notes text (Of text (TriesListed text y t p)) old new
  one_follows {p = p} {y = y} {e = e} t n h m = finish (go_on (set_out text old (TriesListed text y t p)) y p (SameAttempt t e) n (λ x q t. elim t [
    | inl i ↦ inl i
    | inr w ↦ inr (w.2.0, w.2.1 ∙ same_end h w.1)
  ]) (inl (refl, refl)) (λ x q i. inr (e, it_ends h, i))) t e m (λ x q i. i) (refl, refl)

  -- options
  pub opt_noted : {new : Furthest} (r p y : ℕ) → row_of r ≡ Opt y → Notes text (IsUnmetIn text y p) old new → Notes text (IsUnmetIn text r p) old new
  opt_noted r p y is n = by_its_row text r p is refl (finish (set_out text old (RowTries text (Opt y) r p)) y p n (λ x q t. t) (refl, refl))

-- a sequence that is being read
pub record Turning (text : List ℕ) (r p : ℕ) (parts : List ℕ) (old : Furthest) (rest : List ℕ) (at : ℕ) (now : Furthest) : Type 0 where
  pub along : Along webidl text takes r p parts rest at
  pub left : Left text old (TriesInTurn text parts p) now (TriesInTurn text rest at)

module _ (text : List ℕ) (r p : ℕ) (parts : List ℕ) (is : row_of r ≡ Seq parts) {old : Furthest} where
  pub turning : p ≤ length text → Turning text r p parts old parts p old
  turning l = record { along = along_start webidl text takes ranked r p parts is l; left = set_out text old (TriesInTurn text parts p) }

  module _ {x : ℕ} {rest : List ℕ} {at : ℕ} {now : Furthest} (g : Turning text r p parts old (x ∷ rest) at now) where
    pub part_before : p ≤ length text → r < rule_count → (at ≤ length text) × (x < rule_count) × (turn_number (length text) x at < turn_number (length text) r p)
    part_before fits low = row_before text is fits low (g.left.from x at (inl (refl, refl)))

    pub part_on : {new : Furthest} {e : ℕ} → Notes text (IsUnmetIn text x at) now new → HasEnd text x at (Some e) → Turning text r p parts old rest e new
    part_on {e = e} n h = record { along = along_step webidl text takes ranked r p x at e parts rest g.along h; left = turn_on text rest g.left n h }

    pub part_fails : HasEnd text x at None → HasEnd text r p None
    part_fails h = rule_ends is (seq_ends webidl text parts p None (along_fails webidl text takes r p x at parts rest g.along h))

    pub failed_noted : {new : Furthest} → Notes text (IsUnmetIn text x at) now new → HasEnd text x at None → Notes text (IsUnmetIn text r p) old new
    failed_noted n h = by_its_row text r p is refl (turn_fails text rest g.left n h)

  module _ {at : ℕ} {now : Furthest} (g : Turning text r p parts old [] at now) where
    pub parts_end : HasEnd text r p (Some at)
    parts_end = rule_ends is (seq_ends webidl text parts p (Some at) (along_ends webidl text takes r p at parts g.along))

    pub parts_noted : Notes text (IsUnmetIn text r p) old now
    parts_noted = by_its_row text r p is refl (turn_ends text at g.left)

-- a choice that is being tried
pub record Choosing (text : List ℕ) (r p : ℕ) (parts : List ℕ) (old : Furthest) (rest : List ℕ) (now : Furthest) : Type 0 where
  pub count : ℕ
  pub trying : Trying webidl text takes r parts rest count p
  pub left : Left text old (TriesByChoice text parts p) now (TriesByChoice text rest p)

module _ (text : List ℕ) (r p : ℕ) (parts : List ℕ) (is : row_of r ≡ First parts) {old : Furthest} where
  pub choosing : Choosing text r p parts old parts old
  choosing = record { count = 0; trying = trying_start webidl text takes ranked r p parts is; left = set_out text old (TriesByChoice text parts p) }

  module _ {x : ℕ} {rest : List ℕ} {now : Furthest} (g : Choosing text r p parts old (x ∷ rest) now) where
    pub choice_before : p ≤ length text → r < rule_count → (p ≤ length text) × (x < rule_count) × (turn_number (length text) x p < turn_number (length text) r p)
    choice_before fits low = row_before text is fits low (g.left.from x p (inl (refl, refl)))

    pub choice_goes_on : {new : Furthest} → Notes text (IsUnmetIn text x p) now new → HasEnd text x p None → Choosing text r p parts old rest new
    choice_goes_on n h = record { count = g.count + 1; trying = first_tries_on webidl text takes r g.count p x parts rest g.trying h; left = choice_on text rest g.left n h }

    pub chosen_end : {e : ℕ} → HasEnd text x p (Some e) → HasEnd text r p (Some e)
    chosen_end {e} h = rule_ends is (first_ends webidl text parts p (Some e) (first_fits webidl text takes r g.count p x e parts rest g.trying h))

    pub chosen_noted : {new : Furthest} {e : ℕ} → Notes text (IsUnmetIn text x p) now new → HasEnd text x p (Some e) → Notes text (IsUnmetIn text r p) old new
    chosen_noted n h = by_its_row text r p is refl (choice_fits text rest g.left n h)

  module _ {now : Furthest} (g : Choosing text r p parts old [] now) where
    pub none_chosen : HasEnd text r p None
    none_chosen = rule_ends is (first_ends webidl text parts p None (first_fits_none webidl text takes r g.count p parts g.trying))

    pub none_noted : Notes text (IsUnmetIn text r p) old now
    none_noted = by_its_row text r p is refl (choice_ends text p g.left)

-- options and lists of one kind and the other
module _ (text : List ℕ) {r p y : ℕ} where
  pub opt_before : row_of r ≡ Opt y → p ≤ length text → r < rule_count → (p ≤ length text) × (y < rule_count) × (turn_number (length text) y p < turn_number (length text) r p)
  opt_before is fits low = row_before text is fits low (refl, refl)

  module _ {t : ℕ} where
    pub list_before : row_of r ≡ ListOf y t → p ≤ length text → r < rule_count → (p ≤ length text) × (y < rule_count) × (turn_number (length text) y p < turn_number (length text) r p)
    list_before is fits low = row_before text is fits low (inl (refl, refl))

    pub list_next : {q : ℕ} → row_of r ≡ ListOf y t → p ≤ length text → r < rule_count → HasEnd text y p (Some q) → (q ≤ length text) × (t < rule_count) × (turn_number (length text) t q < turn_number (length text) r p)
    list_next {q} is fits low h = row_before text is fits low (inr (q, it_ends h, (refl, refl)))

    pub list1_before : row_of r ≡ List1 y t → p ≤ length text → r < rule_count → (p ≤ length text) × (y < rule_count) × (turn_number (length text) y p < turn_number (length text) r p)
    list1_before is fits low = row_before text is fits low (inl (refl, refl))

    pub list1_next : {q : ℕ} → row_of r ≡ List1 y t → p ≤ length text → r < rule_count → HasEnd text y p (Some q) → (q ≤ length text) × (t < rule_count) × (turn_number (length text) t q < turn_number (length text) r p)
    list1_next {q} is fits low h = row_before text is fits low (inr (q, it_ends h, (refl, refl)))

module _ (text : List ℕ) (r p y : ℕ) where
  pub opt_there : (e : ℕ) → row_of r ≡ Opt y → HasEnd text y p (Some e) → HasEnd text r p (Some e)
  opt_there e is h = rule_ends is (opt_present webidl text y p e h)

  pub opt_none : row_of r ≡ Opt y → HasEnd text y p None → HasEnd text r p (Some p)
  opt_none is h = rule_ends is (opt_absent webidl text y p h)

  module _ (t : ℕ) where
    pub list_more : {q : ℕ} {o : Option ℕ} → row_of r ≡ ListOf y t → HasEnd text y p (Some q) → HasEnd text t q o → HasEnd text r p o
    list_more {q} {o} is h k = rule_ends is (list_goes webidl text y t p q o h k)

    pub list_none : row_of r ≡ ListOf y t → HasEnd text y p None → HasEnd text r p (Some p)
    list_none is h = rule_ends is (list_ends webidl text y t p h)

    pub list1_more : {q : ℕ} {o : Option ℕ} → row_of r ≡ List1 y t → HasEnd text y p (Some q) → HasEnd text t q o → HasEnd text r p o
    list1_more {q} {o} is h k = rule_ends is (list1_goes webidl text y t p q o h k)

    pub list1_none : row_of r ≡ List1 y t → HasEnd text y p None → HasEnd text r p None
    list1_none is h = rule_ends is (list1_ends webidl text y t p h)

    pub list_noted : {old mid new : Furthest} {q : ℕ} → row_of r ≡ ListOf y t → Notes text (IsUnmetIn text y p) old mid → HasEnd text y p (Some q) → Notes text (IsUnmetIn text t q) mid new → Notes text (IsUnmetIn text r p) old new
    list_noted is n h m = by_its_row text r p is refl (one_follows text t n h m)

    pub list_none_noted : {old new : Furthest} → row_of r ≡ ListOf y t → Notes text (IsUnmetIn text y p) old new → HasEnd text y p None → Notes text (IsUnmetIn text r p) old new
    list_none_noted is n h = by_its_row text r p is refl (none_follows text t n h)

    pub list1_noted : {old mid new : Furthest} {q : ℕ} → row_of r ≡ List1 y t → Notes text (IsUnmetIn text y p) old mid → HasEnd text y p (Some q) → Notes text (IsUnmetIn text t q) mid new → Notes text (IsUnmetIn text r p) old new
    list1_noted is n h m = by_its_row text r p is refl (one_follows text t n h m)

    pub list1_none_noted : {old new : Furthest} → row_of r ≡ List1 y t → Notes text (IsUnmetIn text y p) old new → HasEnd text y p None → Notes text (IsUnmetIn text r p) old new
    list1_none_noted is n h = by_its_row text r p is refl (none_follows text t n h)

-- the rule itself is left, at another place
pub left_again : {text : List ℕ} {old now : Furthest} {all : Attempts} (r p : ℕ) {row : Row} → row_of r ≡ row → has_no_parts row ≡ false → Left text old all now (SameAttempt r p) → (new : Furthest) → Notes text (Of text (RowTries text row r p)) now new → Notes text (Of text all) old new
left_again {text} r p is parts g new n = finish g r p (by_its_row text r p is parts n) (λ y z s. s) (refl, refl)

-- a repetition that is being read
pub record Repeating (text : List ℕ) (r y p : ℕ) (old : Furthest) (at : ℕ) (now : Furthest) : Type 0 where
  pub after : p ≤ at
  pub within : at ≤ length text
  pub ends : (e : Option ℕ) → RowEnds webidl text (Many y) at e → RowEnds webidl text (Many y) p e
  pub onward : (new : Furthest) → Notes text (Of text (RowTries text (Many y) r at)) now new → Notes text (Of text (RowTries text (Many y) r p)) old new

module _ (text : List ℕ) (r y p : ℕ) (is : row_of r ≡ Many y) {old : Furthest} where
  pub repeating : p ≤ length text → Repeating text r y p old p old
  repeating l = record { after = omega arith; within = l; ends = λ e h. h; onward = λ new n. n }

  module _ {at : ℕ} {now : Furthest} (g : Repeating text r y p old at now) where
    pub item_before : r < rule_count → (at ≤ length text) × (y < rule_count) × (turn_number (length text) y at < turn_number (length text) r p)
    item_before low =
        let b = row_before text is g.within low (inl (refl, refl)) in
        let a = g.after in
        let l = b.2 in
        (b.0, b.1, omega arith)

    items_left : Left text now (RowTries text (Many y) r at) now (RowTries text (Many y) r at)
    items_left = set_out text now (RowTries text (Many y) r at)

    pub items_end : {new : Furthest} → Notes text (IsUnmetIn text y at) now new → HasEnd text y at None → Notes text (IsUnmetIn text r p) old new
    items_end {new} n h = by_its_row text r p is refl (g.onward new (finish items_left y at n (λ x q t. elim t [ inl i ↦ i | inr w ↦ absurd (no_end h w.1) ]) (inl (refl, refl))))

    pub items_stuck : {new : Furthest} {e : ℕ} → Notes text (IsUnmetIn text y at) now new → HasEnd text y at (Some e) → e ≡ at → Notes text (IsUnmetIn text r p) old new
    items_stuck {new} n h s = by_its_row text r p is refl (g.onward new (finish items_left y at n (λ x q t. elim t [ inl i ↦ i | inr w ↦ absurd (w.2 (same_end h w.1 ∙ s)) ]) (inl (refl, refl))))

    pub items_ended : HasEnd text y at None → HasEnd text r p (Some at)
    items_ended h = rule_ends is (g.ends (Some at) (many_ends webidl text y at h))

    pub items_broken : {e : ℕ} → HasEnd text y at (Some e) → e ≡ at → HasEnd text r p None
    items_broken h s = rule_ends is (g.ends None (many_fails webidl text y at (subst (λ z. HasEnd text y at (Some z)) s h)))

    pub items_further : {e : ℕ} → HasEnd text y at (Some e) → e ≢ at → (at < e) × (e ≤ length text)
    items_further {e} h d = let on = ends_after webidl text y at e h in (omega (arith, on, d), ends_inside webidl text y at e h g.within)

    pub items_on : {new : Furthest} {e : ℕ} → Notes text (IsUnmetIn text y at) now new → HasEnd text y at (Some e) → e ≢ at → Repeating text r y p old e new
    items_on {new} {e} n h d = record {
      after = let a = g.after in let b = (items_further h d).0 in omega arith;
      within = (items_further h d).1;
      ends = λ o m. g.ends o (many_goes webidl text y at e o h d m);
      onward = λ last k. g.onward last (left_again r e is refl (go_on items_left y at (SameAttempt r e) n (λ x q t. elim t [
        | inl i ↦ inl i
        | inr w ↦ inr (w.3.0, w.3.1 ∙ same_end h w.1)
      ]) (inl (refl, refl)) (λ x q i. inr (e, it_ends h, d, i))) last k);
    }

-- items behind separators that are being read
pub record Following (text : List ℕ) (r y s p : ℕ) (old : Furthest) (at : ℕ) (now : Furthest) : Type 0 where
  pub after : p ≤ at
  pub within : at ≤ length text
  pub ends : (e : Option ℕ) → RowEnds webidl text (Tail y s) at e → RowEnds webidl text (Tail y s) p e
  pub onward : (new : Furthest) → Notes text (Of text (RowTries text (Tail y s) r at)) now new → Notes text (Of text (RowTries text (Tail y s) r p)) old new

-- what is tried behind a separator
abbrev pub Behind : List ℕ → ℕ → ℕ → ℕ → Attempts
Behind text r y e x q = SameAttempt y e x q ⊎ ((z : ℕ) × EndsAt text y e z × SameAttempt r z x q)

module _ (text : List ℕ) (r y s p : ℕ) (is : row_of r ≡ Tail y s) {old : Furthest} where
  pub following : p ≤ length text → Following text r y s p old p old
  following l = record { after = omega arith; within = l; ends = λ e h. h; onward = λ new n. n }

  module _ {at : ℕ} {now : Furthest} (g : Following text r y s p old at now) where
    pub separator_before : r < rule_count → (at ≤ length text) × (s < rule_count) × (turn_number (length text) s at < turn_number (length text) r p)
    separator_before low =
        let b = row_before text is g.within low (inl (refl, refl)) in
        let a = g.after in
        let l = b.2 in
        (b.0, b.1, omega arith)

    pub item_after : {e : ℕ} → r < rule_count → HasEnd text s at (Some e) → e ≢ at → (e ≤ length text) × (y < rule_count) × (turn_number (length text) y e < turn_number (length text) r p)
    item_after {e} low h d =
        let b = row_before text is g.within low (inr (e, it_ends h, d, inl (refl, refl))) in
        let a = g.after in
        let l = b.2 in
        (b.0, b.1, omega arith)

    tail_left : Left text now (RowTries text (Tail y s) r at) now (RowTries text (Tail y s) r at)
    tail_left = set_out text now (RowTries text (Tail y s) r at)

    pub tail_end : {new : Furthest} → Notes text (IsUnmetIn text s at) now new → HasEnd text s at None → Notes text (IsUnmetIn text r p) old new
    tail_end {new} n h = by_its_row text r p is refl (g.onward new (finish tail_left s at n (λ x q t. elim t [ inl i ↦ i | inr w ↦ absurd (no_end h w.1) ]) (inl (refl, refl))))

    pub tail_stuck : {new : Furthest} {e : ℕ} → Notes text (IsUnmetIn text s at) now new → HasEnd text s at (Some e) → e ≡ at → Notes text (IsUnmetIn text r p) old new
    tail_stuck {new} n h z = by_its_row text r p is refl (g.onward new (finish tail_left s at n (λ x q t. elim t [ inl i ↦ i | inr w ↦ absurd (w.2 (same_end h w.1 ∙ z)) ]) (inl (refl, refl))))

    behind : {mid : Furthest} {e : ℕ} → Notes text (IsUnmetIn text s at) now mid → HasEnd text s at (Some e) → e ≢ at → Left text now (RowTries text (Tail y s) r at) mid (Behind text r y e)
    behind {e = e} n h d = go_on tail_left s at (Behind text r y e) n (λ x q t. elim t [
      | inl i ↦ inl i
      | inr w ↦ inr (subst (λ k. Behind text r y k x q) (same_end h w.1) w.3)
    ]) (inl (refl, refl)) (λ x q i. inr (e, it_ends h, d, i))

    pub tail_back : {mid new : Furthest} {e : ℕ} → Notes text (IsUnmetIn text s at) now mid → HasEnd text s at (Some e) → e ≢ at → Notes text (IsUnmetIn text y e) mid new → HasEnd text y e None → Notes text (IsUnmetIn text r p) old new
    tail_back {new = new} {e = e} n h d m k = by_its_row text r p is refl (g.onward new (finish (behind n h d) y e m (λ x q t. elim t [ inl i ↦ i | inr w ↦ absurd (no_end k w.1) ]) (inl (refl, refl))))

    pub tail_ended : HasEnd text s at None → HasEnd text r p (Some at)
    tail_ended h = rule_ends is (g.ends (Some at) (tail_ends webidl text y s at h))

    pub tail_broken : {e : ℕ} → HasEnd text s at (Some e) → e ≡ at → HasEnd text r p None
    tail_broken h z = rule_ends is (g.ends None (tail_fails webidl text y s at (subst (λ k. HasEnd text s at (Some k)) z h)))

    pub tail_gave_back : {e : ℕ} → HasEnd text s at (Some e) → e ≢ at → HasEnd text y e None → HasEnd text r p (Some at)
    tail_gave_back {e} h d k = rule_ends is (g.ends (Some at) (tail_gives_back webidl text y s at e h d k))

    pub tail_further : {e z : ℕ} → HasEnd text s at (Some e) → e ≢ at → HasEnd text y e (Some z) → (at < z) × (z ≤ length text)
    tail_further {e} {z} h d k =
        let on = ends_after webidl text s at e h in
        let more = ends_after webidl text y e z k in
        (omega (arith, on, more, d), ends_inside webidl text y e z k (ends_inside webidl text s at e h g.within))

    pub tail_on : {mid new : Furthest} {e z : ℕ} → Notes text (IsUnmetIn text s at) now mid → HasEnd text s at (Some e) → e ≢ at → Notes text (IsUnmetIn text y e) mid new → HasEnd text y e (Some z) → Following text r y s p old z new
    tail_on {e = e} {z = z} n h d m k = record {
      after = let a = g.after in let b = (tail_further h d k).0 in omega arith;
      within = (tail_further h d k).1;
      ends = λ o i. g.ends o (tail_goes webidl text y s at e z o h d k i);
      onward = λ last i. g.onward last (left_again r z is refl (go_on (behind n h d) y e (SameAttempt r z) m (λ x q t. elim t [
        | inl i ↦ inl i
        | inr w ↦ inr (w.2.0, w.2.1 ∙ same_end k w.1)
      ]) (inl (refl, refl)) (λ x q i. inr (z, it_ends k, i))) last i);
    }

-- where definitions are read, the two words for what is unmet are one
pub led_tried : (text : List ℕ) (start : ℕ) {x q r p : ℕ} → Tried text start r p → Leads text x q r p → Tried text start x q
led_tried text start {x} {q} {r} {p} t (itself s) = subst (λ k. Tried text start k q) (sym s.0) (subst (λ k. Tried text start r k) (sym s.1) t)
led_tried text start t (on m l) = led_tried text start (by t m) l

pub tried_led : (text : List ℕ) (start : ℕ) {x q : ℕ} → Tried text start x q → Leads text x q DEFINITIONS start
tried_led text start (at_first s) = itself s
tried_led text start (by d t) = led_on text (tried_led text start d) t

pub unmet_led : (text : List ℕ) (start x q : ℕ) → IsUnmet text start x q → IsUnmetIn text DEFINITIONS start x q
unmet_led text start x q u = record { plain = u.plain; tried = tried_led text start u.tried; fails = u.fails }

pub led_unmet : (text : List ℕ) (start x q : ℕ) → IsUnmetIn text DEFINITIONS start x q → IsUnmet text start x q
led_unmet text start x q u = record { plain = u.plain; tried = led_tried text start (at_first (refl, refl)) u.tried; fails = u.fails }

-- the same by the dialect's rules
pub is_unmet_by : (dialect : Dialect) (text : List ℕ) (start x q : ℕ) → IsUnmetIn text (start_of dialect) start x q → IsUnmetBy dialect text start x q
is_unmet_by Weedle2 text start x q u = led_unmet text start x q u
is_unmet_by Today text start x q u = u

pub by_unmet : (dialect : Dialect) (text : List ℕ) (start x q : ℕ) → IsUnmetBy dialect text start x q → IsUnmetIn text (start_of dialect) start x q
by_unmet Weedle2 text start x q u = unmet_led text start x q u
by_unmet Today text start x q u = u
