-- How a derived comparison goes by the variants of two values, which the logic sees as choices.
use Rattle.std.proofs.Common.{◌≡◌, ◌<◌, ℕ, suc, List, [], ◌∷◌, arith, inl, inr, refl}
use denote.Enum.Compared.{Each, by}
use denote.Enum.Declared.{Choice}
use denote.Struct.Field.{Field}

-- choices that are the same compare the same
pub by_same : {A : Type 0} (before after : A) (Fss : List (List Field)) (each : Each A Fss) {c c' d d' : Choice Fss} → c ≡ c' → d ≡ d'
    → by before after Fss each c d ≡ by before after Fss each c' d'
by_same before after Fss each p q = λ i. by before after Fss each (p i) (q i)

-- which of the choices it is, counted from 0
abbrev pub place_of : (Fss : List (List Field)) → Choice Fss → ℕ
place_of [] c = absurd c
place_of (Fs ∷ Fss) (inl v) = 0
place_of (Fs ∷ Fss) (inr c) = suc (place_of Fss c)

-- the first of two choices comes before the second
pub by_before : {A : Type 0} (before after : A) (Fss : List (List Field)) (each : Each A Fss) (c d : Choice Fss) → place_of Fss c < place_of Fss d
    → by before after Fss each c d ≡ before
by_before before after [] each c d h = absurd c
by_before before after (Fs ∷ Fss) each (inl v) (inl w) h = absurd (omega (arith, h))
by_before before after (Fs ∷ Fss) each (inl v) (inr d) h = refl
by_before before after (Fs ∷ Fss) each (inr c) (inl w) h = absurd (omega (arith, h))
by_before before after (Fs ∷ Fss) each (inr c) (inr d) h = by_before before after Fss each.1 c d (omega (arith, h))

-- the second of two choices comes before the first
pub by_after : {A : Type 0} (before after : A) (Fss : List (List Field)) (each : Each A Fss) (c d : Choice Fss) → place_of Fss d < place_of Fss c
    → by before after Fss each c d ≡ after
by_after before after [] each c d h = absurd c
by_after before after (Fs ∷ Fss) each (inl v) (inl w) h = absurd (omega (arith, h))
by_after before after (Fs ∷ Fss) each (inl v) (inr d) h = absurd (omega (arith, h))
by_after before after (Fs ∷ Fss) each (inr c) (inl w) h = refl
by_after before after (Fs ∷ Fss) each (inr c) (inr d) h = by_after before after Fss each.1 c d (omega (arith, h))
