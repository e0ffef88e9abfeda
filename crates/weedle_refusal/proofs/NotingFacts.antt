-- Notes that are put together from those of one part after another.
use Rattle.std.proofs.Common.{◌≡◌, ◌⊎◌, inl, inr, ℕ, ◌<◌, ◌≤◌, List, length, true, refl, sym, subst, ◌∙◌, arith}
use Rattle.weedle_grammar.specs.written.Bound.{rule_count}
use Rattle.weedle_grammar.specs.written.Table.{row_of}
use Rattle.weedle_rules.specs.Outcomes.{FailsAt}
use Rattle.weedle_starts.specs.Tries.{SameAttempt, TriesHere, has_no_parts}
use Rattle.weedle_refusal.specs.Diagnosis.{IsUnmetIn}
use Rattle.weedle_refusal.specs.Noted.{IsPartOf, Notes, IsNoted}
use Rattle.weedle_refusal.specs.declared.diagnose.noted.Furthest.{Furthest}
use Rattle.weedle_refusal.proofs.AddingFacts.{Attempts}
use Rattle.weedle_refusal.proofs.FailureFacts.{some_fails}

-- where nothing fails, nothing is noted
pub nothing_noted : {text : List ℕ} (P : Attempts) (now : Furthest) → ((x q : ℕ) → P x q → ⊥) → Notes text P now now
nothing_noted P now none = record {
  forward = omega arith;
  furthest = λ x q h. absurd (none x q h);
  some = inl refl;
  sound = λ y h. inl (refl, h);
  complete = λ x h. absurd (none x now.place h);
  kept = λ e y h. h;
  same = refl;
  plain = λ l h. h;
}

wider : {text : List ℕ} {P Q : Attempts} {y p : ℕ} → ((x q : ℕ) → P x q → Q x q) → IsPartOf text P y p → IsPartOf text Q y p
wider to i = record { low = i.low; fails = i.fails; all = λ x q u. to x q (i.all x q u) }

-- the same of what is as much
pub alike : {text : List ℕ} {P : Attempts} (Q : Attempts) {old new : Furthest} → Notes text P old new → ((x q : ℕ) → P x q → Q x q) → ((x q : ℕ) → Q x q → P x q) → Notes text Q old new
alike Q {old} {new} n to from = record {
  forward = n.forward;
  furthest = λ x q h. n.furthest x q (from x q h);
  some = elim n.some [ inl e ↦ inl e | inr (x, h) ↦ inr (x, to x new.place h) ];
  sound = λ y h. elim (n.sound y h) [ inl k ↦ inl k | inr k ↦ inr (wider to k) ];
  complete = λ x h. n.complete x (from x new.place h);
  kept = n.kept;
  same = n.same;
  plain = n.plain;
}

-- first some, and then others
pub joined : {text : List ℕ} {P Q : Attempts} (R : Attempts) {old mid new : Furthest} → Notes text P old mid → Notes text Q mid new → ((x q : ℕ) → R x q → P x q ⊎ Q x q) → ((x q : ℕ) → P x q → R x q) → ((x q : ℕ) → Q x q → R x q) → Notes text R old new
joined {text} {P} {Q} R {old} {mid} {new} a b to first second =
    let l = a.forward in
    let m = b.forward in
    record {
      forward = omega arith;
      furthest = λ x q h. elim (to x q h) [ inl k ↦ (let f = a.furthest x q k in omega arith) | inr k ↦ b.furthest x q k ];
      some = elim b.some [
        | inl e ↦ elim a.some [ inl d ↦ inl (e ∙ d) | inr (x, h) ↦ inr (x, first x new.place (subst (P x) (sym e) h)) ]
        | inr (x, h) ↦ inr (x, second x new.place h)
      ];
      sound = λ y h. elim (b.sound y h) [
        | inl (e, k) ↦ elim (a.sound y k) [ inl (d, i) ↦ inl (e ∙ d, i) | inr i ↦ inr (wider first (subst (IsPartOf text P y) (sym e) i)) ]
        | inr k ↦ inr (wider second k)
      ];
      complete = λ x h. elim (to x new.place h) [
        | inl i ↦ (
            let far = a.furthest x new.place i in
            let f : new.place ≡ mid.place = omega arith in
            let c = a.complete x (subst (P x) f i) in
            (c.0, b.kept f c.0 c.1, subst (λ z. IsUnmetIn text c.0 z x z) (sym f) c.2))
        | inr i ↦ b.complete x i
      ];
      kept = λ e y h. (
          let d : mid.place ≡ old.place = omega arith in
          let f : new.place ≡ mid.place = omega arith in
          b.kept f y (a.kept d y h));
      same = b.same ∙ a.same;
      plain = λ k h. b.plain (a.same ∙ k) (a.plain k h);
    }

-- a rule that fails, where all that it tries is tried at the place itself
pub failure_noted : (text : List ℕ) (r p : ℕ) {old new : Furthest} → p ≤ length text → r < rule_count → FailsAt text r p → TriesHere text r p → (old.leaves ≡ true → has_no_parts (row_of r) ≡ true) → IsNoted r p old new → Notes text (IsUnmetIn text r p) old new
failure_noted text r p {old} {new} fits low fails here plain (inl (before, same)) = subst (Notes text (IsUnmetIn text r p) old) (sym same) (record {
  forward = omega arith;
  furthest = λ x q u. (let e : q ≡ p = here x q u.tried in omega arith);
  some = inl refl;
  sound = λ y h. inl (refl, h);
  complete = λ x u. absurd (let e : old.place ≡ p = here x old.place u.tried in omega arith);
  kept = λ e y h. h;
  same = refl;
  plain = λ l h. h;
})
failure_noted text r p {old} {new} fits low fails here plain (inr m) =
    let at : new.place ≡ p = m.at in
    let reached = m.reached in
    let u = some_fails text r p fits low fails in
    let there : u.1 ≡ p = here u.0 u.1 u.2.tried in
    record {
      forward = omega arith;
      furthest = λ x q u. (let e : q ≡ p = here x q u.tried in omega arith);
      some = inr (u.0, subst (IsUnmetIn text r p u.0) (there ∙ sym at) u.2);
      sound = λ y h. elim ((m.are y).0 h) [
        | inl (e, k) ↦ inl (at ∙ e, k)
        | inr e ↦ inr (subst (λ z. IsPartOf text (IsUnmetIn text r p) z new.place) (sym e) (subst (IsPartOf text (IsUnmetIn text r p) r) (sym at) (record { low = low; fails = fails; all = λ x q u. u })))
      ];
      complete = λ x u. (r, (m.are r).1 (inr refl), subst (λ z. IsUnmetIn text r z x new.place) (sym at) u);
      kept = λ e y h. (m.are y).1 (inl (sym at ∙ e, h));
      same = m.same;
      plain = λ l h y k. elim ((m.are y).0 k) [ inl (e, i) ↦ h y i | inr e ↦ subst (λ z. has_no_parts (row_of z) ≡ true) (sym e) (plain l) ];
    }

-- what fails where these rules are read at these places
abbrev pub Of : List ℕ → Attempts → Attempts
Of text attempts x q = (y : ℕ) × (z : ℕ) × attempts y z × IsUnmetIn text y z x q

pub same_unmet : (text : List ℕ) (r p y z x q : ℕ) → SameAttempt r p y z → IsUnmetIn text y z x q → IsUnmetIn text r p x q
same_unmet text r p y z x q s u = subst (λ k. IsUnmetIn text k p x q) s.0 (subst (λ k. IsUnmetIn text y k x q) s.1 u)

-- of all that is to be read, the rest isn't yet
pub record Left (text : List ℕ) (old : Furthest) (all : Attempts) (now : Furthest) (rest : Attempts) : Type 0 where
  pub onward : (new : Furthest) → Notes text (Of text rest) now new → Notes text (Of text all) old new
  pub from : (x q : ℕ) → rest x q → all x q

pub set_out : (text : List ℕ) (old : Furthest) (all : Attempts) → Left text old all old all
set_out text old all = record { onward = λ new h. h; from = λ x q h. h }

module _ {text : List ℕ} {old now : Furthest} {all rest : Attempts} (g : Left text old all now rest) where
  -- one of them is read
  pub go_on : {new : Furthest} (r p : ℕ) (rest' : Attempts) → Notes text (IsUnmetIn text r p) now new → ((y z : ℕ) → rest y z → SameAttempt r p y z ⊎ rest' y z) → rest r p → ((y z : ℕ) → rest' y z → rest y z) → Left text old all new rest'
  go_on r p rest' n to head back = record {
    onward = λ last h. g.onward last (joined (Of text rest) n h (λ x q w. elim (to w.0 w.1 w.2) [ inl s ↦ inl (same_unmet text r p w.0 w.1 x q s w.3) | inr k ↦ inr (w.0, w.1, k, w.3) ]) (λ x q u. (r, p, head, u)) (λ x q w. (w.0, w.1, back w.0 w.1 w.2, w.3)));
    from = λ x q h. g.from x q (back x q h);
  }

  -- it is the last
  pub finish : {new : Furthest} (r p : ℕ) → Notes text (IsUnmetIn text r p) now new → ((y z : ℕ) → rest y z → SameAttempt r p y z) → rest r p → Notes text (Of text all) old new
  finish {new} r p n to head = g.onward new (alike (Of text rest) n (λ x q u. (r, p, head, u)) (λ x q w. same_unmet text r p w.0 w.1 x q (to w.0 w.1 w.2) w.3))

  -- none is left
  pub arrive : ((y z : ℕ) → rest y z → ⊥) → Notes text (Of text all) old now
  arrive none = g.onward now (nothing_noted (Of text rest) now (λ x q w. none w.0 w.1 w.2))

  -- as much is left
  pub as_left : (rest' : Attempts) → ((y z : ℕ) → rest y z → rest' y z) → ((y z : ℕ) → rest' y z → rest y z) → Left text old all now rest'
  as_left rest' to back = record {
    onward = λ last h. g.onward last (alike (Of text rest) h (λ x q w. (w.0, w.1, back w.0 w.1 w.2, w.3)) (λ x q w. (w.0, w.1, to w.0 w.1 w.2, w.3)));
    from = λ x q h. g.from x q (back x q h);
  }
