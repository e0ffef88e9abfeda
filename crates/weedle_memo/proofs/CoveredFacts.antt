-- What is known of all that a frame tried.
use Rattle.std.proofs.Common.{◌≡◌, ◌≢◌, ◌⊎◌, inl, inr, ℕ, ◌+◌, ◌<◌, ◌≤◌, List, [], ◌∷◌, ◌++◌, length, drop, get_or, Bool, Option, Some, None, true, false, refl, ap, sym, subst, ◌∙◌, arith}
use Rattle.std.specs.Prelude.{slice_index}
use Rattle.std.proofs.Math.ListN.{get_or-append}
use Rattle.std.proofs.Math.Seq.{get_or-append_seam}
use Rattle.std.proofs.lemmas.List.{length-append}
use Rattle.std.proofs.lemmas.Bool.{cases_lt}
use Rattle.weedle_grammar.specs.Rows.{Row, Bytes, OneOf, NotNext, Run, Past, Seq, First, Opt, Many, ListOf, List1, Tail, If}
use Rattle.weedle_grammar.specs.written.Table.{row_of}
use Rattle.weedle_rules.specs.Cells.{HasEnd}
use Rattle.weedle_rules.specs.Outcomes.{EndsAt, FailsAt}
use Rattle.weedle_rules.proofs.OutcomeFacts.{it_ends, it_fails, has_end, one_end, not_both}
use Rattle.weedle_rules.proofs.ListFrom.{parts_from, past_end}
use Rattle.weedle_starts.specs.Tries.{SameAttempt, TriesInTurn, TriesByChoice, RowTries, Tries}
use Rattle.weedle_memo.specs.Frames.{IsPart, WaitsBy, Waits, IsOpen, IsFresh}
use Rattle.weedle_memo.specs.Closure.{Memory, Met, MetIf, IsClosed, AreClosed, CoveredIn, CoveredFirst, Covered}
use Rattle.weedle_memo.proofs.ResumeFacts.{onward_by, moved}
use Rattle.weedle_memo.specs.declared.frame.Frame.{Frame}

-- by its row
pub closed_by : (text : List ℕ) (known : Memory) (f : Frame) {row : Row} → row_of f.rule ≡ row → ((x q e : ℕ) → RowTries text row f.rule f.place x q → EndsAt text x q e → Met known x q)
    → IsClosed text known f.rule f.place
closed_by text known f {row} is h x q e t d = h x q e (subst (λ row. RowTries text row f.rule f.place x q) is t) d

pub covered_by : (text : List ℕ) (known : Memory) (f : Frame) {row : Row} (q : ℕ) → row_of f.rule ≡ row → Covered text known (row_of f.rule) f q → Covered text known row f q
covered_by text known f {row} q is k = subst (λ row. Covered text known row f q) is k

pub covered_of : (text : List ℕ) (known : Memory) (f g : Frame) {row : Row} (q : ℕ) → row_of f.rule ≡ row → g.rule ≡ f.rule → Covered text known row g q → Covered text known (row_of g.rule) g q
covered_of text known f g {row} q is gr k = subst (λ row. Covered text known row g q) (sym is ∙ ap row_of (sym gr)) k

at : {known : Memory} {x q y p : ℕ} → y ≡ x → p ≡ q → Met known x q → Met known y p
at {known} {x} {q} {y} {p} e d h = subst (λ z. Met known z p) (sym e) (subst (λ z. Met known x z) (sym d) h)

-- an attempt at a cell whose outcome came
pub attempted : {text : List ℕ} {known : Memory} {x q y z e : ℕ} (o : Option ℕ) → HasEnd text x q o → MetIf known x q o → SameAttempt x q y z → EndsAt text y z e → Met known y z
attempted {text} {known} {x} {q} {y} {z} {e} (Some v) h k s d = at s.0 s.1 k
attempted {text} {known} {x} {q} {y} {z} {e} None h k s d = absurd (not_both (it_fails h) (subst (λ r. EndsAt text r q e) s.0 (subst (λ r. EndsAt text y r e) s.1 d)))

module _ {text : List ℕ} {known : Memory} {parts rest : List ℕ} {p x q : ℕ} where
  pub in_step : {v : ℕ} → CoveredIn text known parts p (x ∷ rest) q → HasEnd text x q (Some v) → Met known x q → CoveredIn text known parts p rest v
  in_step {v} k h m = record {
    still = λ y z e t d. elim (k.still y z e t d) [
      | inl w ↦ inl w
      | inr w ↦ elim w [
        | inl s ↦ inl (at s.0 s.1 m)
        | inr u ↦ inr (subst (λ r. TriesInTurn text rest r y z) (one_end (it_ends h) u.1) u.2)
      ]
    ];
  }

  pub in_fails : CoveredIn text known parts p (x ∷ rest) q → HasEnd text x q None → (y z e : ℕ) → TriesInTurn text parts p y z → EndsAt text y z e → Met known y z
  in_fails k h y z e t d = elim (k.still y z e t d) [
    | inl w ↦ w
    | inr w ↦ elim w [
      | inl s ↦ attempted None h tt s d
      | inr u ↦ absurd (not_both (it_fails h) u.1)
    ]
  ]

pub in_ends : {text : List ℕ} {known : Memory} {parts : List ℕ} {p q : ℕ} → CoveredIn text known parts p [] q → (y z e : ℕ) → TriesInTurn text parts p y z → EndsAt text y z e → Met known y z
in_ends k y z e t d = elim (k.still y z e t d) [ inl w ↦ w | inr w ↦ absurd w ]

-- a row Seq
module _ {text : List ℕ} (known : Memory) {f : Frame} {x q : ℕ} {parts : List ℕ} (is : row_of f.rule ≡ Seq parts) (w : Waits text f x q 1) (covered : Covered text known (row_of f.rule) f q) where
  seq_covered : CoveredIn text known parts f.place (x ∷ drop (f.part + 1) parts) q
  seq_covered =
      let on = onward_by is w in
      subst (λ z. CoveredIn text known parts f.place z q) (parts_from parts f.part on.0.0 ∙ ap (λ z. z ∷ drop (f.part + 1) parts) (sym on.0.1)) (covered_by text known f q is covered)

  pub seq_none_covered : HasEnd text x q None → IsClosed text known f.rule f.place
  seq_none_covered h = closed_by text known f is (in_fails seq_covered h)

  pub seq_over_covered : {e n : ℕ} → HasEnd text x q (Some e) → Met known x q → n ≡ length parts → n ≤ f.part + 1 → IsClosed text known f.rule f.place
  seq_over_covered {e} {n} h m many past = closed_by text known f is (in_ends {q = e} (subst (λ z. CoveredIn text known parts f.place z e) (past_end parts (f.part + 1) (omega (arith, many, past))) (in_step seq_covered h m)))

  pub seq_on_covered : (g : Frame) (e : ℕ) → g.rule ≡ f.rule → g.place ≡ f.place → HasEnd text x q (Some e) → Met known x q → g.part ≡ f.part + 1 → Covered text known (row_of g.rule) g e
  seq_on_covered g e gr gp h m gn = covered_of text known f g e is gr (subst (λ z. CoveredIn text known parts z (drop g.part parts) e) (sym gp) (subst (λ z. CoveredIn text known parts f.place (drop z parts) e) (sym gn) (in_step seq_covered h m)))

-- a row First
module _ {text : List ℕ} (known : Memory) {f : Frame} {x q : ℕ} {parts : List ℕ} (is : row_of f.rule ≡ First parts) (w : Waits text f x q 1) (covered : Covered text known (row_of f.rule) f q) where
  first_covered : CoveredFirst text parts f.place (x ∷ drop (f.part + 1) parts)
  first_covered =
      let on = onward_by is w in
      subst (λ z. CoveredFirst text parts f.place z) (parts_from parts f.part on.0.0 ∙ ap (λ z. z ∷ drop (f.part + 1) parts) (sym on.0.1)) (covered_by text known f q is covered)

  first_next : HasEnd text x q None → CoveredFirst text parts f.place (drop (f.part + 1) parts)
  first_next h =
      let on = onward_by is w in
      record {
        still = λ y z e t d. elim (first_covered.still y z e t d) [
          | inl s ↦ absurd (not_both (it_fails (moved refl on.1 h)) (subst (λ r. EndsAt text r f.place e) s.0 (subst (λ r. EndsAt text y r e) s.1 d)))
          | inr u ↦ u.1
        ];
      }

  pub first_some_covered : {v : ℕ} → HasEnd text x q (Some v) → Met known x q → IsClosed text known f.rule f.place
  first_some_covered {v} h m =
      let on = onward_by is w in
      closed_by text known f is (λ y z e t d. elim (first_covered.still y z e t d) [
        | inl s ↦ at s.0 (s.1 ∙ sym on.1) m
        | inr u ↦ absurd (not_both u.0 (it_ends (moved refl on.1 h)))
      ])

  pub first_over_covered : {n : ℕ} → HasEnd text x q None → n ≡ length parts → n ≤ f.part + 1 → IsClosed text known f.rule f.place
  first_over_covered {n} h many past =
      closed_by text known f is (λ y z e t d. absurd (subst (λ l. TriesByChoice text l f.place y z) (past_end parts (f.part + 1) (omega (arith, many, past))) ((first_next h).still y z e t d)))

  pub first_on_covered : (g : Frame) (v : ℕ) → g.rule ≡ f.rule → g.place ≡ f.place → HasEnd text x q None → g.part ≡ f.part + 1 → Covered text known (row_of g.rule) g v
  first_on_covered g v gr gp h gn = covered_of text known f g v is gr (subst (λ z. CoveredFirst text parts z (drop g.part parts)) (sym gp) (subst (λ z. CoveredFirst text parts f.place (drop z parts)) (sym gn) (first_next h)))

-- an option
module _ {text : List ℕ} (known : Memory) {f : Frame} {x q y : ℕ} (o : Option ℕ) (is : row_of f.rule ≡ Opt y) (w : Waits text f x q 1) (h : HasEnd text x q o) (m : MetIf known x q o) where
  pub opt_covered : IsClosed text known f.rule f.place
  opt_covered =
      let on = onward_by is w in
      closed_by text known f is (λ u z e t d. attempted o h m (t.0 ∙ sym on.0, t.1 ∙ sym on.1) d)

-- an end behind which the rule itself was read, or not
module _ {text : List ℕ} (known : Memory) {f : Frame} {x q y : ℕ} (o : Option ℕ) (is : row_of f.rule ≡ Many y) (w : Waits text f x q 1) (covered : Covered text known (row_of f.rule) f q) (h : HasEnd text x q o) (m : MetIf known x q o) where
  pub many_last_covered : 0 < f.part → IsClosed text known f.rule f.place
  many_last_covered l = elim (onward_by is w) [
    | inl k ↦ (let n = k.0 in absurd (omega arith))
    | inr k ↦ closed_by text known f is (λ u z e t d. elim t [
      | inl s ↦ at s.0 s.1 (covered_by text known f q is covered l)
      | inr s ↦ attempted o h m (s.3.0 ∙ sym k.1, s.3.1 ∙ one_end (it_ends k.3) s.1) d
    ])
  ]

  pub many_first_covered : f.part ≤ 0 → ((v : ℕ) → o ≡ Some v → v ≡ f.place) → IsClosed text known f.rule f.place
  many_first_covered l stays = elim (onward_by is w) [
    | inl k ↦ closed_by text known f is (λ u z e t d. elim t [
      | inl s ↦ attempted o h m (s.0 ∙ sym k.1, s.1 ∙ sym k.2) d
      | inr s ↦ absurd (s.2 (ends_here o (moved k.1 k.2 h) stays s.1))
    ])
    | inr k ↦ (let n = k.0 in absurd (omega arith))
  ]
    where
      ends_here : (o : Option ℕ) → HasEnd text y f.place o → ((v : ℕ) → o ≡ Some v → v ≡ f.place) → {e : ℕ} → EndsAt text y f.place e → e ≡ f.place
      ends_here None h s d = absurd (not_both (it_fails h) d)
      ends_here (Some v) h s d = one_end (it_ends h) d ∙ s v refl

pub many_on_covered : {text : List ℕ} (known : Memory) {f : Frame} (g : Frame) {x q y : ℕ} (v : ℕ) → row_of f.rule ≡ Many y → Waits text f x q 1 → f.part ≤ 0 → Met known x q → g.rule ≡ f.rule → g.place ≡ f.place → Covered text known (row_of g.rule) g v
many_on_covered {text} known {f} g {x} {q} {y} v is w l m gr gp = elim (onward_by is w) [
  | inl k ↦ covered_of text known f g v is gr (λ z. at (sym k.1) (gp ∙ sym k.2) m)
  | inr k ↦ (let n = k.0 in absurd (omega arith))
]

module _ {text : List ℕ} (known : Memory) {f : Frame} {x q y t : ℕ} (o : Option ℕ) (is : row_of f.rule ≡ ListOf y t) (w : Waits text f x q 1) (covered : Covered text known (row_of f.rule) f q) (h : HasEnd text x q o) (m : MetIf known x q o) where
  pub list_last_covered : 0 < f.part → IsClosed text known f.rule f.place
  list_last_covered l = elim (onward_by is w) [
    | inl k ↦ (let n = k.0 in absurd (omega arith))
    | inr k ↦ closed_by text known f is (λ u z e a d. elim a [
      | inl s ↦ at s.0 s.1 (covered_by text known f q is covered l)
      | inr (v, b, s) ↦ attempted o h m (s.0 ∙ sym k.1, s.1 ∙ one_end (it_ends k.2) b) d
    ])
  ]

  pub list_first_covered : f.part ≤ 0 → o ≡ None → IsClosed text known f.rule f.place
  list_first_covered l none = elim (onward_by is w) [
    | inl k ↦ closed_by text known f is (λ u z e a d. elim a [
      | inl s ↦ attempted o h m (s.0 ∙ sym k.1, s.1 ∙ sym k.2) d
      | inr (v, b, s) ↦ absurd (not_both (it_fails (subst (λ r. HasEnd text y f.place r) none (moved k.1 k.2 h))) b)
    ])
    | inr k ↦ (let n = k.0 in absurd (omega arith))
  ]

pub list_on_covered : {text : List ℕ} (known : Memory) {f : Frame} (g : Frame) {x q y t : ℕ} (v : ℕ) → row_of f.rule ≡ ListOf y t → Waits text f x q 1 → f.part ≤ 0 → Met known x q → g.rule ≡ f.rule → g.place ≡ f.place → Covered text known (row_of g.rule) g v
list_on_covered {text} known {f} g {x} {q} {y} {t} v is w l m gr gp = elim (onward_by is w) [
  | inl k ↦ covered_of text known f g v is gr (λ z. at (sym k.1) (gp ∙ sym k.2) m)
  | inr k ↦ (let n = k.0 in absurd (omega arith))
]

module _ {text : List ℕ} (known : Memory) {f : Frame} {x q y t : ℕ} (o : Option ℕ) (is : row_of f.rule ≡ List1 y t) (w : Waits text f x q 1) (covered : Covered text known (row_of f.rule) f q) (h : HasEnd text x q o) (m : MetIf known x q o) where
  pub list1_last_covered : 0 < f.part → IsClosed text known f.rule f.place
  list1_last_covered l = elim (onward_by is w) [
    | inl k ↦ (let n = k.0 in absurd (omega arith))
    | inr k ↦ closed_by text known f is (λ u z e a d. elim a [
      | inl s ↦ at s.0 s.1 (covered_by text known f q is covered l)
      | inr (v, b, s) ↦ attempted o h m (s.0 ∙ sym k.1, s.1 ∙ one_end (it_ends k.2) b) d
    ])
  ]

  pub list1_first_covered : f.part ≤ 0 → o ≡ None → IsClosed text known f.rule f.place
  list1_first_covered l none = elim (onward_by is w) [
    | inl k ↦ closed_by text known f is (λ u z e a d. elim a [
      | inl s ↦ attempted o h m (s.0 ∙ sym k.1, s.1 ∙ sym k.2) d
      | inr (v, b, s) ↦ absurd (not_both (it_fails (subst (λ r. HasEnd text y f.place r) none (moved k.1 k.2 h))) b)
    ])
    | inr k ↦ (let n = k.0 in absurd (omega arith))
  ]

pub list1_on_covered : {text : List ℕ} (known : Memory) {f : Frame} (g : Frame) {x q y t : ℕ} (v : ℕ) → row_of f.rule ≡ List1 y t → Waits text f x q 1 → f.part ≤ 0 → Met known x q → g.rule ≡ f.rule → g.place ≡ f.place → Covered text known (row_of g.rule) g v
list1_on_covered {text} known {f} g {x} {q} {y} {t} v is w l m gr gp = elim (onward_by is w) [
  | inl k ↦ covered_of text known f g v is gr (λ z. at (sym k.1) (gp ∙ sym k.2) m)
  | inr k ↦ (let n = k.0 in absurd (omega arith))
]

module _ {text : List ℕ} (known : Memory) {f : Frame} {x q y s : ℕ} (o : Option ℕ) (is : row_of f.rule ≡ Tail y s) (w : Waits text f x q 1) (covered : Covered text known (row_of f.rule) f q) (h : HasEnd text x q o) (m : MetIf known x q o) where
  pub tail_last_covered : 1 < f.part → IsClosed text known f.rule f.place
  tail_last_covered l = elim (onward_by is w) [
    | inl k ↦ (let n = k.0 in absurd (omega arith))
    | inr r ↦ elim r [
      | inl k ↦ (let n = k.0 in absurd (omega arith))
      | inr k ↦ (
          let had = covered_by text known f q is covered in
          let item = had.1 l in
          closed_by text known f is (λ u z e a d. elim a [
            | inl i ↦ at i.0 i.1 (had.0 (omega arith))
            | inr (v, b, n, c) ↦ elim c [
              | inl i ↦ at i.0 (i.1 ∙ one_end item.1 b) item.2
              | inr (v', b', i) ↦ (
                  let same : v ≡ k.2.0 = one_end (it_ends k.2.2) b in
                  attempted o h m (i.0 ∙ sym k.1, i.1 ∙ one_end (it_ends k.2.3) (subst (λ r. EndsAt text y r v') same b')) d)
            ]
          ]))
    ]
  ]

  -- the item behind a separator fails, or there is no separator
  pub tail_none_covered : f.part ≤ 1 → o ≡ None → IsClosed text known f.rule f.place
  tail_none_covered l none = elim (onward_by is w) [
    | inl k ↦ closed_by text known f is (λ u z e a d. elim a [
      | inl i ↦ attempted o h m (i.0 ∙ sym k.1, i.1 ∙ sym k.2) d
      | inr (v, b, n, c) ↦ absurd (not_both (it_fails (subst (λ r. HasEnd text s f.place r) none (moved k.1 k.2 h))) b)
    ])
    | inr r ↦ elim r [
      | inl k ↦ (
          let had = covered_by text known f q is covered in
          let fails : FailsAt text y q = it_fails (subst (λ r. HasEnd text y q r) none (moved k.1 refl h)) in
          closed_by text known f is (λ u z e a d. elim a [
            | inl i ↦ at i.0 i.1 (had.0 (let n = k.0 in omega arith))
            | inr (v, b, n, c) ↦ (
                let same : v ≡ q = one_end (it_ends k.3) b in
                elim c [
                  | inl i ↦ attempted o h m (i.0 ∙ sym k.1, i.1 ∙ same) d
                  | inr (v', b', i) ↦ absurd (not_both fails (subst (λ r. EndsAt text y r v') same b'))
                ])
          ]))
      | inr k ↦ (let n = k.0 in absurd (omega arith))
    ]
  ]

  -- a separator that takes nothing
  pub tail_stays_covered : {v : ℕ} → f.part ≤ 1 → f.part ≢ 1 → o ≡ Some v → v ≡ f.place → IsClosed text known f.rule f.place
  tail_stays_covered {v} l n1 some here = elim (onward_by is w) [
    | inl k ↦ closed_by text known f is (λ u z e a d. elim a [
      | inl i ↦ attempted o h m (i.0 ∙ sym k.1, i.1 ∙ sym k.2) d
      | inr (v', b, n, c) ↦ absurd (n (one_end (it_ends (subst (λ r. HasEnd text s f.place r) some (moved k.1 k.2 h))) b ∙ here))
    ])
    | inr r ↦ elim r [ inl k ↦ absurd (n1 k.0) | inr k ↦ (let n = k.0 in absurd (omega arith)) ]
  ]

pub tail_item_covered : {text : List ℕ} (known : Memory) {f : Frame} (g : Frame) {x q y s : ℕ} (v : ℕ) → row_of f.rule ≡ Tail y s → Waits text f x q 1 → f.part ≤ 1 → f.part ≢ 1 → Met known x q → g.rule ≡ f.rule → g.place ≡ f.place → g.part ≡ 1 → Covered text known (row_of g.rule) g v
tail_item_covered {text} known {f} g {x} {q} {y} {s} v is w l n1 m gr gp gn = elim (onward_by is w) [
  | inl k ↦ covered_of text known f g v is gr ((λ z. at (sym k.1) (gp ∙ sym k.2) m), (λ z. absurd (omega arith)))
  | inr r ↦ elim r [ inl k ↦ absurd (n1 k.0) | inr k ↦ (let n = k.0 in absurd (omega arith)) ]
]

pub tail_again_covered : {text : List ℕ} (known : Memory) {f : Frame} (g : Frame) {x q y s : ℕ} (v : ℕ) → row_of f.rule ≡ Tail y s → Waits text f x q 1 → Covered text known (row_of f.rule) f q → f.part ≡ 1 → Met known x q → g.rule ≡ f.rule → g.place ≡ f.place → Covered text known (row_of g.rule) g v
tail_again_covered {text} known {f} g {x} {q} {y} {s} v is w covered n1 m gr gp = elim (onward_by is w) [
  | inl k ↦ (let n = k.0 in absurd (omega arith))
  | inr r ↦ elim r [
    | inl k ↦ (
        let had = covered_by text known f q is covered in
        covered_of text known f g v is gr (
          (λ z. subst (λ r. Met known s r) (sym gp) (had.0 (omega arith))),
          (λ z. (q, subst (λ r. EndsAt text s r q) (sym gp) (it_ends k.3), at (sym k.1) refl m)),
        ))
    | inr k ↦ (let n = k.0 in absurd (omega arith))
  ]
]

pub none_some : {v p : ℕ} → None ≡ Some v → v ≡ p
none_some e = cc

pub same_some : {v u p : ℕ} → Some u ≡ Some v → u ≡ p → v ≡ p
same_some {v} {u} {p} e d = let s : u ≡ v = cc in sym s ∙ d

-- a frame at its start tried nothing
module _ {text : List ℕ} (known : Memory) {f : Frame} where
  begin_in : {parts : List ℕ} → IsFresh text f → CoveredIn text known parts f.place (drop f.part parts) f.place
  begin_in {parts} s = subst (λ z. CoveredIn text known parts f.place (drop z parts) f.place) (sym s.part_is) (record { still = λ x z e t d. inr t })

  pub seq_begin_covered : {parts : List ℕ} → IsFresh text f → row_of f.rule ≡ Seq parts → Covered text known (row_of f.rule) f f.place
  seq_begin_covered s is = covered_of text known f f f.place is refl (begin_in s)

  pub if_begin_covered : {parts : List ℕ} {k y : ℕ} → IsFresh text f → row_of f.rule ≡ If parts k y → Covered text known (row_of f.rule) f f.place
  if_begin_covered s is = covered_of text known f f f.place is refl (begin_in s)

  pub first_begin_covered : (q : ℕ) {parts : List ℕ} → IsFresh text f → row_of f.rule ≡ First parts → Covered text known (row_of f.rule) f q
  first_begin_covered q {parts} s is = covered_of text known f f q is refl (subst (λ z. CoveredFirst text parts f.place (drop z parts)) (sym s.part_is) (record { still = λ x z e t d. t }))

  pub opt_begin_covered : (q : ℕ) {y : ℕ} → IsFresh text f → row_of f.rule ≡ Opt y → Covered text known (row_of f.rule) f q
  opt_begin_covered q s is = covered_of text known f f q is refl tt

  pub many_begin_covered : (q : ℕ) {y : ℕ} → IsFresh text f → row_of f.rule ≡ Many y → Covered text known (row_of f.rule) f q
  many_begin_covered q s is = covered_of text known f f q is refl (λ l. absurd (omega (arith, s.part_is)))

  pub list_begin_covered : (q : ℕ) {y t : ℕ} → IsFresh text f → row_of f.rule ≡ ListOf y t → Covered text known (row_of f.rule) f q
  list_begin_covered q s is = covered_of text known f f q is refl (λ l. absurd (omega (arith, s.part_is)))

  pub list1_begin_covered : (q : ℕ) {y t : ℕ} → IsFresh text f → row_of f.rule ≡ List1 y t → Covered text known (row_of f.rule) f q
  list1_begin_covered q s is = covered_of text known f f q is refl (λ l. absurd (omega (arith, s.part_is)))

  pub tail_begin_covered : (q : ℕ) {y t : ℕ} → IsFresh text f → row_of f.rule ≡ Tail y t → Covered text known (row_of f.rule) f q
  tail_begin_covered q s is = covered_of text known f f q is refl ((λ l. absurd (omega (arith, s.part_is))), (λ l. absurd (omega (arith, s.part_is))))
