-- What a memo says of the rule that it was made of, and the tree over it.
use Rattle.std.proofs.Common.{◌≡◌, ℕ, List, [], ◌∷◌, Option, refl, sym, subst}
use Rattle.weedle_grammar.specs.Trees.{Fails}
use Rattle.weedle_grammar.specs.written.Table.Definitions.{DEFINITIONS}
use Rattle.weedle_rules.specs.Cells.{HasEnd}
use Rattle.weedle_rules.specs.Outcomes.{EndsAt, FailsAt}
use Rattle.weedle_memo.specs.Entries.{Start, start_at}
use Rattle.weedle_syntax.specs.declared.node.Node.{Node}
use Rattle.weedle_syntax.specs.Laid.{node}
use Rattle.weedle_syntax.specs.Syntax.{AreTrees}
use Rattle.weedle_syntax.specs.Table.{TableView, table_of}
use Rattle.weedle_syntax.proofs.FrontFacts.{never_fails}

-- the end of the rule, by the text and the start of the memo
pub memo_end : {text given : List ℕ} {s : Start} {r p : ℕ} {o : Option ℕ} → given ≡ text → s ≡ start_at r p → HasEnd given s.rule s.place o → HasEnd text r p o
memo_end {text} {given} {s} {r} {p} {o} e f h = subst (λ z. HasEnd z r p o) e (subst (λ (z : Start). HasEnd given z.rule z.place o) f h)

module _ {t : TableView} {text : List ℕ} {r p e : ℕ} (is : t ≡ table_of text r p) where
  pub ends_over : EndsAt text r p e → EndsAt t.text t.start.rule t.start.place e
  ends_over h = subst (λ (z : TableView). EndsAt z.text z.start.rule z.start.place e) (sym is) h

  pub trees_over : {ns : List Node} → AreTrees t.text (node t.start.rule t.start.place e 0 ∷ []) ns → AreTrees text (node r p e 0 ∷ []) ns
  trees_over {ns} h = subst (λ (z : TableView). AreTrees z.text (node z.start.rule z.start.place e 0 ∷ []) ns) is h

-- the rule of definitions is read everywhere
pub never_refused : (text : List ℕ) (p : ℕ) → FailsAt text DEFINITIONS p → ⊥
never_refused text p d = never_fails text p (record { outcome = Fails; reads = d; is = refl })
