use Rattle.std.proofs.Common.{◌≡◌, ◌⊎◌, inr, ℕ, subst, ap, arith}
use Rattle.std.specs.Prelude.{◌↔◌}
use Rattle.weedle_refusal.specs.Marks.{IsSet}
use Rattle.weedle_refusal.proofs.BitFacts.{clear_words}
use Rattle.weedle_refusal.proofs.NotedFacts.{marked_alone, marked_too}
use Rattle.weedle_refusal.proofs.diagnose.noted.Furthest.note.Goals.{then-place-self-2, else-place-self-2}
use Rattle.weedle_refusal.proofs.diagnose.noted.Furthest.note.Goals as goal

pub returns : goal.returns
returns c =
    let now = c.if-place-self-2.self in
    let on = c.if-place-self.false in
    let set : (other : ℕ) → IsSet c.set.new.marks other ↔ (IsSet now.marks other ⊎ (other ≡ c.args.rule)) = λ other. subst (λ k. IsSet c.set.new.marks other ↔ (IsSet now.marks other ⊎ (other ≡ k))) c.number.ensures.0 (c.set.ensures other) in
    inr (elim c.if-place-self-2.branch [
      | then-place-self-2 w ↦ marked_alone c.args.rule c.args.place c.args.self.now now.leaves now.place now.marks c.set.new.marks (omega (arith, w.if-place-self-2.true)) (ap (λ f. f.place) w.self-is) (ap (λ f. f.leaves) w.self-is) (clear_words 9 now.marks (ap (λ f. f.marks) w.self-is)) set
      | else-place-self-2 w ↦ (
          let e : now.place ≡ c.args.place = (let same = ap (λ f. f.place) w.self-is in let off = w.if-place-self-2.false in omega (arith, same, off, on)) in
          marked_too c.args.rule c.args.place c.args.self.now now c.set.new.marks on e w.self-is set)
    ])
