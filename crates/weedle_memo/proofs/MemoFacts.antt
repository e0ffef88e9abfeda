-- What is known of a text answers what is asked of what is read.
use Rattle.std.proofs.Common.{◌≡◌, inl, inr, ℕ, List, Option, Some, None, refl, sym, subst, ap, length, ◌∙◌, get_or}
use Rattle.weedle_grammar.specs.Rows.{Row, Bytes, OneOf, NotNext, Run, Past, Seq, First, Opt, Many, ListOf, List1, Tail, If}
use Rattle.weedle_grammar.specs.Trees.{Outcome, Fails, Gives}
use Rattle.weedle_grammar.specs.Laws.{HasOneOutcome}
use Rattle.weedle_grammar.specs.written.Table.{row_of, Reads}
use Rattle.weedle_grammar.specs.written.Table.Definitions.{DEFINITIONS}
use Rattle.weedle_rules.specs.Cells.{HasEnd, end_of}
use Rattle.weedle_rules.specs.Outcomes.{EndsAt, FailsAt}
use Rattle.weedle_rules.proofs.OutcomeFacts.{it_fails, not_both}
use Rattle.weedle_starts.specs.Tries.{SameAttempt, RowTries, Tries}
use Rattle.weedle_memo.specs.Tables.{option_of, Lacks, Stays}
use Rattle.weedle_memo.specs.Entries.{Reading, MemoEntry, Absent, IsAsked}
use Rattle.weedle_memo.specs.Wanted.{WantedFrom, Wanted, at_first, by}
use Rattle.weedle_memo.specs.Closure.{Memory, memory_of, Met, stored, passed, MetIf, IsClosed, AreClosed, IsMemo, IsDefinitions}

same_some : {a b : ℕ} → Some a ≡ Some b → a ≡ b
same_some h = cc

never_here : {text : List ℕ} {z y p x q e : ℕ} → z ≡ y → FailsAt text y p → SameAttempt z p x q → EndsAt text x q e → ⊥
never_here {text} {z} {y} {p} {x} {q} {e} s f t d = not_both f (subst (λ r. EndsAt text r p e) (t.0 ∙ s) (subst (λ r. EndsAt text x r e) t.1 d))

never_ends : {text : List ℕ} {z y p e : ℕ} → z ≡ y → FailsAt text y p → EndsAt text z p e → ⊥
never_ends {text} {z} {y} {p} {e} s f d = not_both f (subst (λ r. EndsAt text r p e) s d)

-- a rule that goes without something tries nothing that is read
nothing_read : (text : List ℕ) (row : Row) (r p x q e y : ℕ) → option_of row ≡ Some y → FailsAt text y p → RowTries text row r p x q → EndsAt text x q e → ⊥
nothing_read text (Opt z) r p x q e y o f t d = never_here (same_some o) f t d
nothing_read text (Many z) r p x q e y o f t d = elim t [ inl s ↦ never_here (same_some o) f s d | inr s ↦ never_ends (same_some o) f s.1 ]
nothing_read text (ListOf z u) r p x q e y o f t d = elim t [ inl s ↦ never_here (same_some o) f s d | inr s ↦ never_ends (same_some o) f s.1 ]
nothing_read text (Tail z u) r p x q e y o f t d = elim t [ inl s ↦ never_here (same_some o) f s d | inr s ↦ never_ends (same_some o) f s.1 ]
nothing_read text (Bytes b) r p x q e y o f t d = cc
nothing_read text (OneOf c) r p x q e y o f t d = cc
nothing_read text (NotNext c) r p x q e y o f t d = cc
nothing_read text (Run c) r p x q e y o f t d = cc
nothing_read text (Past b) r p x q e y o f t d = cc
nothing_read text (Seq parts) r p x q e y o f t d = cc
nothing_read text (First parts) r p x q e y o f t d = cc
nothing_read text (List1 z u) r p x q e y o f t d = cc
nothing_read text (If parts k l) r p x q e y o f t d = cc

-- what a known rule tries, and what is read there, is known
tried_met : (m : Memory) → AreClosed m.text m → {u v : ℕ} → Met m u v → (x q e : ℕ) → Tries m.text u v x q → EndsAt m.text x q e → Met m x q
tried_met m are {u} {v} (stored k) x q e t d =
    let n : MemoEntry = record { rule = u; place = v; end = None } in
    let c = are k.index n k.low in
    subst (λ z. IsClosed m.text m z v) (k.rule_is n) (subst (λ z. IsClosed m.text m (get_or m.entries k.index n).rule z) (k.place_is n) c) x q e t d
tried_met m are {u} {v} (passed s) x q e t d = absurd (nothing_read m.text (row_of u) u v x q e s.option s.is (it_fails s.fails) t d)

-- so all that the reading of the text reads is known
wanted_known : (m : Memory) (f s : ℕ) → AreClosed m.text m → ((e : ℕ) → EndsAt m.text f s e → Met m f s) → {r p e : ℕ} → WantedFrom m.text f s r p → EndsAt m.text r p e → Met m r p
wanted_known m f s are first {r} {p} {e} (at_first same) d =
    let k = first e (subst (λ z. EndsAt m.text z s e) same.0 (subst (λ z. EndsAt m.text r z e) same.1 d)) in
    subst (λ z. Met m z p) (sym same.0) (subst (λ z. Met m f z) (sym same.1) k)
wanted_known m f s are first {r} {p} {e} (by h g t) d = tried_met m are (wanted_known m f s are first h g) r p e t d

first_known : (m : Memory) (f s : ℕ) (end : Option ℕ) → HasEnd m.text f s end → MetIf m f s end → (e : ℕ) → EndsAt m.text f s e → Met m f s
first_known m f s (Some v) h k e d = k
first_known m f s None h k e d = absurd (not_both (it_fails h) d)

-- what isn't known isn't read
unknown : (m : Memory) (r p : ℕ) → Absent m.entries r p → (Lacks m.words m.text r p → ⊥) → Met m r p → ⊥
unknown m r p none has (stored k) = let n : MemoEntry = record { rule = r; place = p; end = None } in none k.index n k.low (k.rule_is n) (k.place_is n)
unknown m r p none has (passed s) = has s.lacks

fails_here : (m : Memory) (r p : ℕ) (o : Outcome) → Reads m.text r p o → ((e : ℕ) → EndsAt m.text r p e → Met m r p) → (Met m r p → ⊥) → HasEnd m.text r p None
fails_here m r p Fails d k none = record { outcome = Fails; reads = d; is = refl }
fails_here m r p (Gives ts q) d k none = absurd (none (k q (ts, d)))

pub asked_right : (s : Reading) (end : Option ℕ) (r p : ℕ) (e : Option ℕ) → IsMemo s end → WantedFrom s.text s.start.rule s.start.place r p → HasOneOutcome s.text r p → IsAsked s.words s.text s.known r p e → HasEnd s.text r p e
asked_right s end r p e f w one (inl h) = h
asked_right s end r p e f w one (inr (none, absent, has)) =
    let m = memory_of s in
    let h = fails_here m r p one.0 one.1 (λ q d. wanted_known m s.start.rule s.start.place f.closed (first_known m s.start.rule s.start.place end f.ends f.first) w d) (unknown m r p absent has) in
    record { outcome = h.outcome; reads = h.reads; is = none ∙ h.is }

-- of the definitions at the front
module _ (s : Reading) (end : Option ℕ) (f : IsDefinitions s end) where
  pub definitions_end : HasEnd s.text DEFINITIONS 0 end
  definitions_end = subst (λ z. HasEnd s.text z.rule z.place end) f.start_is f.is_memo.ends

  pub wanted_right : (r p : ℕ) (e : Option ℕ) → Wanted s.text r p → HasOneOutcome s.text r p → IsAsked s.words s.text s.known r p e → HasEnd s.text r p e
  wanted_right r p e w one a = asked_right s end r p e f.is_memo (subst (λ z. WantedFrom s.text z.rule z.place r p) (sym f.start_is) w) one a
