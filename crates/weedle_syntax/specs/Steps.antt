-- How many rules a descent tries.
use Rattle.std.specs.Prelude.{◌≡◌, ◌≢◌, ◌⊎◌, ◌+◌, ℕ, true, false, List, [], ◌∷◌, None}
use Rattle.weedle_grammar.specs.Meaning.{ReadsSeq}
use Rattle.weedle_grammar.specs.Rows.{Row, Seq, First, Opt, Many, ListOf, List1, Tail, If}
use Rattle.weedle_grammar.specs.written.Table.{webidl, row_of}
use Rattle.weedle_rules.specs.Outcomes.{EndsAt, FailsAt}
use Rattle.weedle_starts.specs.Tries.{EndsWith, TriesHere, has_no_parts}
use Rattle.weedle_syntax.specs.Parts.{Gave}

-- rule r isn't read at p so that another may follow: it fails, or takes nothing
abbrev pub StaysAt : List ℕ → ℕ → ℕ → Type 0
StaysAt text r p = FailsAt text r p ⊎ EndsAt text r p p

mutual
  -- rule r at p takes n steps
  pub data Steps (text : List ℕ) : ℕ → ℕ → ℕ → Type 0 where
    -- none where it is passed over: it fails, and all that it would try is tried at p
    passed : {r p n : ℕ} → FailsAt text r p → TriesHere text r p → n ≡ 0 → Steps text r p n
    -- one, and those of its row
    tried : {r p m n : ℕ} → RowSteps text (row_of r) p m → n ≡ 1 + m → Steps text r p n

  -- a row at p takes n steps: those of each rule that it tries
  pub data RowSteps (text : List ℕ) : Row → ℕ → ℕ → Type 0 where
    -- a row without parts tries nothing
    leaf_steps : {row : Row} {p n : ℕ} → has_no_parts row ≡ true → n ≡ 0 → RowSteps text row p n
    seq_steps : {parts : List ℕ} {p n : ℕ} → TurnSteps text parts p n → RowSteps text (Seq parts) p n
    first_steps : {parts : List ℕ} {p n : ℕ} → ChoiceSteps text parts p n → RowSteps text (First parts) p n
    opt_steps : {y p n : ℕ} → Steps text y p n → RowSteps text (Opt y) p n
    -- the item, and behind one that takes something the row again
    many_last : {y p n : ℕ} → Steps text y p n → StaysAt text y p → RowSteps text (Many y) p n
    many_more : {y p q k m n : ℕ} → Steps text y p k → EndsAt text y p q → q ≢ p → RowSteps text (Many y) q m → n ≡ k + m
        → RowSteps text (Many y) p n
    -- the item, and behind it the rule of what follows
    list_none : {y t p n : ℕ} → Steps text y p n → FailsAt text y p → RowSteps text (ListOf y t) p n
    list_more : {y t p q k m n : ℕ} → Steps text y p k → EndsAt text y p q → Steps text t q m → n ≡ k + m → RowSteps text (ListOf y t) p n
    list1_none : {y t p n : ℕ} → Steps text y p n → FailsAt text y p → RowSteps text (List1 y t) p n
    list1_more : {y t p q k m n : ℕ} → Steps text y p k → EndsAt text y p q → Steps text t q m → n ≡ k + m → RowSteps text (List1 y t) p n
    -- the separator, behind one that takes something the item, and behind an item the row again
    tail_last : {y s p n : ℕ} → Steps text s p n → StaysAt text s p → RowSteps text (Tail y s) p n
    tail_back : {y s p q k m n : ℕ} → Steps text s p k → EndsAt text s p q → q ≢ p → Steps text y q m → FailsAt text y q → n ≡ k + m
        → RowSteps text (Tail y s) p n
    tail_more : {y s p q e k l m n : ℕ} → Steps text s p k → EndsAt text s p q → q ≢ p → Steps text y q l → EndsAt text y q e
        → RowSteps text (Tail y s) e m → n ≡ k + (l + m) → RowSteps text (Tail y s) p n
    -- the parts, and behind them rule y where part i gives something
    if_fails : {parts : List ℕ} {i y p n : ℕ} → TurnSteps text parts p n → ReadsSeq webidl text parts p None → RowSteps text (If parts i y) p n
    if_absent : {parts : List ℕ} {i y p n : ℕ} → TurnSteps text parts p n → Gave text parts i p false → RowSteps text (If parts i y) p n
    if_present : {parts : List ℕ} {i y p q k m n : ℕ} → TurnSteps text parts p k → EndsWith text parts i p q → Steps text y q m → n ≡ k + m
        → RowSteps text (If parts i y) p n

  -- rules one after another from p on take n steps, up to the first that fails
  pub data TurnSteps (text : List ℕ) : List ℕ → ℕ → ℕ → Type 0 where
    turn_end : {p n : ℕ} → n ≡ 0 → TurnSteps text [] p n
    turn_fails : {r p n : ℕ} {rs : List ℕ} → Steps text r p n → FailsAt text r p → TurnSteps text (r ∷ rs) p n
    turn_more : {r p q k m n : ℕ} {rs : List ℕ} → Steps text r p k → EndsAt text r p q → TurnSteps text rs q m → n ≡ k + m
        → TurnSteps text (r ∷ rs) p n

  -- the rules of a choice at p take n steps, up to the first that fits
  pub data ChoiceSteps (text : List ℕ) : List ℕ → ℕ → ℕ → Type 0 where
    choice_end : {p n : ℕ} → n ≡ 0 → ChoiceSteps text [] p n
    choice_fits : {r p q n : ℕ} {rs : List ℕ} → Steps text r p n → EndsAt text r p q → ChoiceSteps text (r ∷ rs) p n
    choice_next : {r p k m n : ℕ} {rs : List ℕ} → Steps text r p k → FailsAt text r p → ChoiceSteps text rs p m → n ≡ k + m
        → ChoiceSteps text (r ∷ rs) p n

-- of the steps that were left, so many are left now: as many were taken as this says
pub record Spends (Counts : ℕ → Type 0) (old new : ℕ) : Type 0 where
  pub taken : ℕ
  pub are : Counts taken
  pub is : old ≡ taken + new
