-- A rule whose word lacks the bit of the byte at a place fails there, and tries all there.
use Rattle.std.proofs.Common.{◌≡◌, ℕ, ◌+◌, ◌/◌, ◌^◌, ◌<◌, List, length, drop, get_or, Some, None, refl, sym, subst, ◌∙◌, arith}
use Rattle.std.specs.Prelude.{bit_and}
use Rattle.std.specs.Int.{bit_at}
use Rattle.std.proofs.lemmas.List.{drop_more}
use Rattle.std.proofs.lemmas.Nat.Bits.{shr_and_one}
use Rattle.weedle_grammar.specs.Trees.{Fails}
use Rattle.weedle_grammar.specs.written.Table.{row_of}
use Rattle.weedle_rules.specs.Cells.{HasEnd}
use Rattle.weedle_starts.specs.Tries.{TriesHere}
use Rattle.weedle_starts.specs.Starts.{CoversStarts}
use Rattle.weedle_starts.specs.Ways.{option_of, IsGateOf, IsGate, IsPassedOver, GoesWithout}

module _ (text : List ℕ) (p : ℕ) (fits : p < length text) (ascii : get_or text p 0 < 128) (word : ℕ) where
  passed_over : {r : ℕ} → CoversStarts word r → (bit_at word (get_or text p 0) ≡ 1 → ⊥) → IsPassedOver text r p
  passed_over covers lacks = covers text p (get_or text p 0) (drop (p + 1) text) (drop_more text p 0 fits) ascii lacks

  module _ (unset : bit_and (word / 2 ^ get_or text p 0) 1 ≡ 0) where
    lacks : bit_at word (get_or text p 0) ≡ 1 → ⊥
    lacks h = let z : bit_at word (get_or text p 0) ≡ 0 = sym (shr_and_one word (get_or text p 0)) ∙ unset in absurd (omega (arith, h))

    pub refused : {r : ℕ} → CoversStarts word r → HasEnd text r p None
    refused covers = record { outcome = Fails; reads = (passed_over covers lacks).0; is = refl }

    pub tries_here : {r : ℕ} → CoversStarts word r → TriesHere text r p
    tries_here covers = (passed_over covers lacks).1

  -- where the gate of rule r lacks the byte
  module _ (shut : bit_and (word / 2 ^ get_or text p 0) 1 ≡ 1 → ⊥) (r : ℕ) (gate : IsGate word r) where
    shut_out : bit_at word (get_or text p 0) ≡ 1 → ⊥
    shut_out h = shut (shr_and_one word (get_or text p 0) ∙ h)

    pub goes_without : {y : ℕ} → option_of (row_of r) ≡ Some y → GoesWithout text r p
    goes_without {y} e = (y, e, passed_over (subst (λ o. IsGateOf word r o) e gate) shut_out)

    pub it_fails : option_of (row_of r) ≡ None → IsPassedOver text r p
    it_fails e = passed_over (subst (λ o. IsGateOf word r o) e gate) shut_out
