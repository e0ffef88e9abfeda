use Rattle.std.proofs.Common.{◌≡◌, []}
use Rattle.std.specs.Prelude.{reverse}
use Rattle.weedle_syntax.specs.Laid.{node}
use Rattle.weedle_syntax.proofs.ChildFacts.{Each}
use Rattle.weedle_syntax.proofs.LoadFacts.{load}
use Rattle.weedle_syntax.proofs.SyntaxFacts.{Going}
use Rattle.weedle_syntax.proofs.WantedFacts.{IsAsked}
use Rattle.weedle_syntax.proofs.walk.laid_from.Given as goal

abbrev pub invariant-loop-node : goal.invariant-loop-node
invariant-loop-node l =
    Going l.table.text (node l.table.start.rule l.table.start.place l.end 0) l.nodes.items (reverse l.waiting.items) × (l.inner.items ≡ []) × Each (IsAsked l.table) (reverse l.waiting.items)

abbrev pub decreases-loop-node : goal.decreases-loop-node
decreases-loop-node l = load l.table.text (reverse l.waiting.items)
