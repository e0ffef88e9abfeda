use Rattle.std.proofs.Common.{◌∙◌, ◌∷◌, ap, append-nil, refl, subst, sym}
use Rattle.weedle_rules.proofs.OutcomeFacts.{it_ends}
use Rattle.weedle_syntax.specs.Compact.{nodes_of}
use Rattle.weedle_syntax.specs.Laid.{node}
use Rattle.weedle_syntax.specs.Syntax.{IsFront, a_tree, no_trees}
use Rattle.weedle_grammar.specs.written.Table.Definitions.{DEFINITIONS}
use Rattle.weedle_syntax.proofs.front.compact_within.Goals as goal

pub returns : goal.returns
returns c =
    let below = nodes_of c.lay_definitions.new.below in
    let laid = c.in_ok-end.ensures.lays in
    subst (λ text. IsFront text (c.in_ok-root.root ∷ below)) (c.new-text.ensures ∙ c.as_bytes.ensures.value) (
      c.in_ok-end.end,
      it_ends c.in_ok-end.ensures.end,
      a_tree laid.1 laid.2 (no_trees refl)
          (ap (λ n. n ∷ below) c.in_ok-root.ensures ∙ ap (λ ns. node DEFINITIONS 0 c.in_ok-end.end 0 ∷ ns) (sym (append-nil below))),
    )
