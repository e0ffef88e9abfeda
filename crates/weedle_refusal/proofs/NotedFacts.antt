-- A rule that is marked, alone or beside others.
use Rattle.std.proofs.Common.{◌≡◌, ◌⊎◌, inl, inr, ℕ, ◌<◌, ◌≤◌, List, Bool, sym, subst, ap, ◌∙◌, arith}
use Rattle.std.specs.Prelude.{◌↔◌}
use Rattle.weedle_refusal.specs.Marks.{IsSet}
use Rattle.weedle_refusal.specs.Noted.{IsMarkedAt}
use Rattle.weedle_refusal.specs.declared.diagnose.noted.Furthest.{Furthest}

pub marked_alone : (r p : ℕ) (old : Furthest) (leaves : Bool) (place : ℕ) (words marks : List ℕ) → old.place < p → place ≡ p → leaves ≡ old.leaves → ((x : ℕ) → IsSet words x → ⊥) → ((x : ℕ) → IsSet marks x ↔ (IsSet words x ⊎ (x ≡ r)))
    → IsMarkedAt r p old (record { place = place; marks = marks; leaves = leaves })
marked_alone r p old leaves place words marks further is same clear set = record {
  reached = omega arith;
  at = is;
  same = same;
  are = λ x. (
    λ h. elim ((set x).0 h) [ inl k ↦ absurd (clear x k) | inr k ↦ inr k ],
    λ h. elim h [ inl k ↦ absurd (let e : p ≡ old.place = k.0 in omega arith) | inr k ↦ (set x).1 (inr k) ],
  );
}

pub marked_too : (r p : ℕ) (old now : Furthest) (marks : List ℕ) → old.place ≤ p → now.place ≡ p → now ≡ old → ((x : ℕ) → IsSet marks x ↔ (IsSet now.marks x ⊎ (x ≡ r)))
    → IsMarkedAt r p old (record { place = now.place; marks = marks; leaves = now.leaves })
marked_too r p old now marks l is same set = record {
  reached = l;
  at = is;
  same = ap (λ f. f.leaves) same;
  are = λ x. (
    λ h. elim ((set x).0 h) [ inl k ↦ inl (sym is ∙ ap (λ f. f.place) same, subst (λ f. IsSet f.marks x) same k) | inr k ↦ inr k ],
    λ h. elim h [ inl k ↦ (set x).1 (inl (subst (λ f. IsSet f.marks x) (sym same) k.1)) | inr k ↦ (set x).1 (inr k) ],
  );
}
