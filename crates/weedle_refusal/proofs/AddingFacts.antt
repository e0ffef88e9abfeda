-- Marks that are added one after another, until all that is tried is marked.
use Rattle.std.proofs.Common.{◌≡◌, ◌≢◌, ◌⊎◌, inl, inr, ℕ, List, [], ◌∷◌, length, Some, None, refl, sym, subst, ◌∙◌}
use Rattle.weedle_grammar.specs.Rows.{Row, Opt, Many, Tail}
use Rattle.weedle_grammar.specs.written.Table.{row_of}
use Rattle.weedle_rules.specs.Cells.{HasEnd}
use Rattle.weedle_rules.specs.Outcomes.{EndsAt}
use Rattle.weedle_starts.specs.Tries.{SameAttempt, TriesInTurn, TriesByChoice, TriesListed, RowTries, Tries}
use Rattle.weedle_refusal.specs.Marks.{HasBit, IsMarked, Adds}
use Rattle.weedle_rules.proofs.OutcomeFacts.{it_ends, it_fails}
use Rattle.weedle_refusal.proofs.OutcomeFacts.{same_end, no_end, no_failure}

abbrev pub Attempts : Type 1
Attempts = ℕ → ℕ → Type 0

-- of all that is to be marked only the rest isn't yet
pub record Going (last : ℕ) (old now : List ℕ) (all rest : Attempts) : Type 0 where
  pub many : length now ≡ length old
  pub onward : (x q : ℕ) → rest x q → all x q
  pub left : (x q : ℕ) → HasBit last (length old) x q → all x q → IsMarked last now x q ⊎ rest x q
  pub kept : (x q : ℕ) → HasBit last (length old) x q → IsMarked last old x q → IsMarked last now x q
  pub sound : (x q : ℕ) → HasBit last (length old) x q → IsMarked last now x q → IsMarked last old x q ⊎ all x q

pub set_out : (last : ℕ) (old : List ℕ) (all : Attempts) → Going last old old all all
set_out last old all = record { many = refl; onward = λ x q t. t; left = λ x q i t. inr t; kept = λ x q i m. m; sound = λ x q i m. inl m }

module _ {last : ℕ} {old now : List ℕ} {all rest : Attempts} (g : Going last old now all rest) where
  pub arrive : ((x q : ℕ) → rest x q → ⊥) → Adds last old now all
  arrive f = record {
    many = g.many;
    are = λ x q i. (
      g.sound x q i,
      λ s. elim s [
        | inl m ↦ g.kept x q i m
        | inr t ↦ elim (g.left x q i t) [ inl m ↦ m | inr r ↦ absurd (f x q r) ]
      ],
    );
  }

  pub go_on : {new : List ℕ} {more : Attempts} (rest' : Attempts) → Adds last now new more → ((x q : ℕ) → more x q → rest x q) → ((x q : ℕ) → rest' x q → rest x q)
      → ((x q : ℕ) → rest x q → more x q ⊎ rest' x q) → Going last old new all rest'
  go_on {new} {more} rest' a from from' to =
      let has : (x q : ℕ) → HasBit last (length old) x q → HasBit last (length now) x q = λ x q i. subst (λ n. HasBit last n x q) (sym g.many) i in
      record {
        many = a.many ∙ g.many;
        onward = λ x q t. g.onward x q (from' x q t);
        left = λ x q i t. elim (g.left x q i t) [
          | inl m ↦ inl ((a.are x q (has x q i)).1 (inl m))
          | inr r ↦ elim (to x q r) [ inl m ↦ inl ((a.are x q (has x q i)).1 (inr m)) | inr r' ↦ inr r' ]
        ];
        kept = λ x q i m. (a.are x q (has x q i)).1 (inl (g.kept x q i m));
        sound = λ x q i m. elim ((a.are x q (has x q i)).0 m) [ inl n ↦ g.sound x q i n | inr n ↦ inr (g.onward x q (from x q n)) ];
      }

abbrev pub Nothing : Attempts
Nothing x q = ⊥

pub finish : {last : ℕ} {old now new : List ℕ} {all rest more : Attempts} → Going last old now all rest → Adds last now new more → ((x q : ℕ) → more x q → rest x q) → ((x q : ℕ) → rest x q → more x q) → Adds last old new all
finish g a from to = arrive (go_on g Nothing a from (λ x q t. absurd t) (λ x q t. inl (to x q t))) (λ x q t. t)

-- by a rule's row
pub by_its_row : {last : ℕ} (r p : ℕ) (text : List ℕ) {old new : List ℕ} {row : Row} → row_of r ≡ row → Adds last old new (RowTries text row r p) → Adds last old new (Tries text r p)
by_its_row {last} r p text {old} {new} e a = subst (λ w. Adds last old new (RowTries text w r p)) (sym e) a

-- what is tried behind a separator
abbrev Behind : List ℕ → ℕ → ℕ → ℕ → Attempts
Behind text r y e x q = SameAttempt y e x q ⊎ ((z : ℕ) × EndsAt text y e z × SameAttempt r z x q)

module _ {last : ℕ} (text : List ℕ) {old : List ℕ} where
  -- sequences
  pub turn_on : (rs : List ℕ) {now new : List ℕ} {all : Attempts} {s q e : ℕ} → Going last old now all (TriesInTurn text (s ∷ rs) q) → Adds last now new (SameAttempt s q)
      → HasEnd text s q (Some e) → Going last old new all (TriesInTurn text rs e)
  turn_on rs {e = e} g a h = go_on g (TriesInTurn text rs e) a (λ x z i. inl i) (λ x z t. inr (e, it_ends h, t)) (λ x z t. elim t [
    | inl i ↦ inl i
    | inr w ↦ inr (subst (λ y. TriesInTurn text rs y x z) (same_end h w.1) w.2)
  ])

  pub turn_fails : (rs : List ℕ) {now new : List ℕ} {all : Attempts} {s q : ℕ} → Going last old now all (TriesInTurn text (s ∷ rs) q) → Adds last now new (SameAttempt s q)
      → HasEnd text s q None → Adds last old new all
  turn_fails rs g a h = finish g a (λ x z i. inl i) (λ x z t. elim t [ inl i ↦ i | inr w ↦ absurd (no_end h w.1) ])

  pub turn_ends : (q : ℕ) {now : List ℕ} {all : Attempts} → Going last old now all (TriesInTurn text [] q) → Adds last old now all
  turn_ends q g = arrive g (λ x z t. t)

  pub turn_head : (rs : List ℕ) (s q : ℕ) {now : List ℕ} {all : Attempts} → Going last old now all (TriesInTurn text (s ∷ rs) q) → all s q
  turn_head rs s q g = g.onward s q (inl (refl, refl))

  -- choices
  pub choice_on : (rs : List ℕ) {now new : List ℕ} {all : Attempts} {s q : ℕ} → Going last old now all (TriesByChoice text (s ∷ rs) q) → Adds last now new (SameAttempt s q)
      → HasEnd text s q None → Going last old new all (TriesByChoice text rs q)
  choice_on rs {q = q} g a h = go_on g (TriesByChoice text rs q) a (λ x z i. inl i) (λ x z t. inr (it_fails h, t)) (λ x z t. elim t [ inl i ↦ inl i | inr w ↦ inr w.1 ])

  pub choice_fits : (rs : List ℕ) {now new : List ℕ} {all : Attempts} {s q e : ℕ} → Going last old now all (TriesByChoice text (s ∷ rs) q) → Adds last now new (SameAttempt s q)
      → HasEnd text s q (Some e) → Adds last old new all
  choice_fits rs g a h = finish g a (λ x z i. inl i) (λ x z t. elim t [ inl i ↦ i | inr w ↦ absurd (no_failure h w.0) ])

  pub choice_ends : (q : ℕ) {now : List ℕ} {all : Attempts} → Going last old now all (TriesByChoice text [] q) → Adds last old now all
  choice_ends q g = arrive g (λ x z t. t)

  pub choice_head : (rs : List ℕ) (s q : ℕ) {now : List ℕ} {all : Attempts} → Going last old now all (TriesByChoice text (s ∷ rs) q) → all s q
  choice_head rs s q g = g.onward s q (inl (refl, refl))

  -- lists
  pub none_follows : {new : List ℕ} {p y : ℕ} (t : ℕ) → Adds last old new (SameAttempt y p) → HasEnd text y p None → Adds last old new (TriesListed text y t p)
  none_follows {p = p} {y = y} t a h = finish (set_out last old (TriesListed text y t p)) a (λ x q i. inl i) (λ x q t. elim t [ inl i ↦ i | inr w ↦ absurd (no_end h w.1) ])

  pub one_follows : {now new : List ℕ} {p y e : ℕ} (t : ℕ) → Adds last old now (SameAttempt y p) → HasEnd text y p (Some e) → Adds last now new (SameAttempt t e) → Adds last old new (TriesListed text y t p)
  one_follows {p = p} {y = y} {e = e} t a h b = finish (go_on (set_out last old (TriesListed text y t p)) (SameAttempt t e) a (λ x q i. inl i) (λ x q i. inr (e, it_ends h, i)) (λ x q t. elim t [
    | inl i ↦ inl i
    | inr w ↦ inr (w.2.0, w.2.1 ∙ same_end h w.1)
  ])) b (λ x q i. i) (λ x q i. i)

  module _ (r : ℕ) {p y : ℕ} where
    -- options
    pub opt_added : {new : List ℕ} → row_of r ≡ Opt y → Adds last old new (SameAttempt y p) → Adds last old new (Tries text r p)
    opt_added e a = by_its_row r p text e a

    -- repetitions
    pub many_ended : {new : List ℕ} → row_of r ≡ Many y → Adds last old new (SameAttempt y p) → HasEnd text y p None → Adds last old new (Tries text r p)
    many_ended e a h = by_its_row r p text e (finish (set_out last old (RowTries text (Many y) r p)) a (λ x q i. inl i) (λ x q t. elim t [ inl i ↦ i | inr w ↦ absurd (no_end h w.1) ]))

    pub many_stuck : {new : List ℕ} {e : ℕ} → row_of r ≡ Many y → Adds last old new (SameAttempt y p) → HasEnd text y p (Some e) → e ≡ p → Adds last old new (Tries text r p)
    many_stuck e a h s = by_its_row r p text e (finish (set_out last old (RowTries text (Many y) r p)) a (λ x q i. inl i) (λ x q t. elim t [ inl i ↦ i | inr w ↦ absurd (w.2 (same_end h w.1 ∙ s)) ]))

    pub many_went_on : {now new : List ℕ} {e : ℕ} → row_of r ≡ Many y → Adds last old now (SameAttempt y p) → HasEnd text y p (Some e) → e ≢ p → Adds last now new (SameAttempt r e) → Adds last old new (Tries text r p)
    many_went_on {e = e} is a h n b = by_its_row r p text is (finish (go_on (set_out last old (RowTries text (Many y) r p)) (SameAttempt r e) a (λ x q i. inl i) (λ x q i. inr (e, it_ends h, n, i)) (λ x q t. elim t [
      | inl i ↦ inl i
      | inr w ↦ inr (w.3.0, w.3.1 ∙ same_end h w.1)
    ])) b (λ x q i. i) (λ x q i. i))

    -- items behind separators
    pub tail_ended : {new : List ℕ} {s : ℕ} → row_of r ≡ Tail y s → Adds last old new (SameAttempt s p) → HasEnd text s p None → Adds last old new (Tries text r p)
    tail_ended {s = s} e a h = by_its_row r p text e (finish (set_out last old (RowTries text (Tail y s) r p)) a (λ x q i. inl i) (λ x q t. elim t [ inl i ↦ i | inr w ↦ absurd (no_end h w.1) ]))

    pub tail_stuck : {new : List ℕ} {s e : ℕ} → row_of r ≡ Tail y s → Adds last old new (SameAttempt s p) → HasEnd text s p (Some e) → e ≡ p → Adds last old new (Tries text r p)
    tail_stuck {s = s} e a h z = by_its_row r p text e (finish (set_out last old (RowTries text (Tail y s) r p)) a (λ x q i. inl i) (λ x q t. elim t [ inl i ↦ i | inr w ↦ absurd (w.2 (same_end h w.1 ∙ z)) ]))

    behind : {now : List ℕ} {s e : ℕ} → Adds last old now (SameAttempt s p) → HasEnd text s p (Some e) → e ≢ p → Going last old now (RowTries text (Tail y s) r p) (Behind text r y e)
    behind {s = s} {e = e} a h n = go_on (set_out last old (RowTries text (Tail y s) r p)) (Behind text r y e) a (λ x q i. inl i) (λ x q i. inr (e, it_ends h, n, i)) (λ x q t. elim t [
      | inl i ↦ inl i
      | inr w ↦ inr (subst (λ k. Behind text r y k x q) (same_end h w.1) w.3)
    ])

    pub tail_gave_back : {now new : List ℕ} {s e : ℕ} → row_of r ≡ Tail y s → Adds last old now (SameAttempt s p) → HasEnd text s p (Some e) → e ≢ p → Adds last now new (SameAttempt y e) → HasEnd text y e None
        → Adds last old new (Tries text r p)
    tail_gave_back is a h n b m = by_its_row r p text is (finish (behind a h n) b (λ x q i. inl i) (λ x q t. elim t [ inl i ↦ i | inr w ↦ absurd (no_end m w.1) ]))

    pub tail_went_on : {now then new : List ℕ} {s e z : ℕ} → row_of r ≡ Tail y s → Adds last old now (SameAttempt s p) → HasEnd text s p (Some e) → e ≢ p → Adds last now then (SameAttempt y e) → HasEnd text y e (Some z)
        → Adds last then new (SameAttempt r z) → Adds last old new (Tries text r p)
    tail_went_on {z = z} is a h n b m c = by_its_row r p text is (finish (go_on (behind a h n) (SameAttempt r z) b (λ x q i. inl i) (λ x q i. inr (z, it_ends m, i)) (λ x q t. elim t [
      | inl i ↦ inl i
      | inr w ↦ inr (w.2.0, w.2.1 ∙ same_end m w.1)
    ])) c (λ x q i. i) (λ x q i. i))
