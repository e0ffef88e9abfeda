-- How many rules are tried, while a text is divided.
use Rattle.std.proofs.Common.{◌≡◌, ℕ, ◌+◌, ◌≤◌, true, false, List, [], ◌∷◌, ◌++◌, refl, sym, subst, arith}
use Rattle.std.specs.Bool.{OnFalse}
use Rattle.std.proofs.lemmas.Bool.{OnFalse_at, OnFalse_from}
use Rattle.weedle_recovery.specs.Counts.{ReadingView, PartSteps, PartsSteps, AreStepsOf, IsCounted}
use Rattle.weedle_recovery.specs.declared.part.Part.{Part}
use Rattle.weedle_syntax.specs.Steps.{Spends, Steps}
use Rattle.weedle_syntax.specs.declared.dialect.Dialect.{Dialect}

steps_more : (text : List ℕ) (parts : List Part) (part : Part) (n k : ℕ) → PartsSteps text parts n → PartSteps text part k → PartsSteps text (parts ++ part ∷ []) (n + k)
steps_more text [] part n k none s = (k, 0, s, refl, omega (arith, none))
steps_more text (x ∷ parts) part n k (a, b, i, more, is) s = (a, b + k, i, steps_more text parts part b k more s, omega (arith, is))

-- so many are counted by descent
abbrev Counts : ReadingView → List Part → ℕ → Type 0
Counts reading parts left = (n : ℕ) × PartsSteps reading.text parts n × (n + left ≤ reading.most)

module _ {reading : ReadingView} {parts : List Part} where
  counted : (left : ℕ) → (reading.by_table ≡ false → Counts reading parts left) → IsCounted reading parts left
  counted left f = record { counts = OnFalse_from reading.by_table (Counts reading parts left) f }

  -- before anything is read
  pub counted_front : {left : ℕ} → parts ≡ [] → left ≤ reading.most → IsCounted reading parts left
  counted_front {left} none l = counted left (λ no. (0, subst (λ z. PartsSteps reading.text z 0) (sym none) refl, omega (arith, l)))

  -- fewer are left
  pub counted_still : {had has : ℕ} → IsCounted reading parts had → has ≤ had → IsCounted reading parts has
  counted_still {had} {has} c l = counted has (λ no.
      let k = OnFalse_at no c.counts in
      (k.0, k.1, omega (arith, k.2, l)))

  -- one more part that is read
  pub counted_read : (part : Part) {had has : ℕ} {more : List Part} → IsCounted reading parts had → OnFalse reading.by_table (Spends (Steps reading.text part.rule part.start) had has)
      → part.is_read ≡ true → more ≡ parts ++ part ∷ [] → IsCounted reading more has
  counted_read part {had} {has} {more} c s y w =
      subst (λ z. IsCounted reading z has) (sym w) (record {
        counts = OnFalse_from reading.by_table (Counts reading (parts ++ part ∷ []) has) (λ no.
            let k = OnFalse_at no c.counts in
            let t = OnFalse_at no s in
            (k.0 + t.taken, steps_more reading.text parts part k.0 t.taken k.1 (record { read = λ r. t.are; unread = λ n. cc }), omega (arith, k.2, t.is)));
      })

  -- one more part that isn't
  pub counted_left : (part : Part) {left : ℕ} {more : List Part} → IsCounted reading parts left → part.is_read ≡ false → more ≡ parts ++ part ∷ [] → IsCounted reading more left
  counted_left part {left} {more} c n w =
      subst (λ z. IsCounted reading z left) (sym w) (record {
        counts = OnFalse_from reading.by_table (Counts reading (parts ++ part ∷ []) left) (λ no.
            let k = OnFalse_at no c.counts in
            (k.0 + 0, steps_more reading.text parts part k.0 0 k.1 (record { read = λ y. cc; unread = λ n. refl }), omega (arith, k.2)));
      })

-- by descent, what is no longer left was taken for these parts, or more
pub counted_steps : {dialect : Dialect} {text : List ℕ} {most left steps : ℕ} {parts : List Part} → IsCounted (record { text = text; by_table = false; most = most; dialect = dialect }) parts left
    → steps + left ≡ most → AreStepsOf text parts steps
counted_steps c e = let k = c.counts in (k.0, k.1, omega (arith, k.2, e))
