use Rattle.std.proofs.Common.{◌+◌, get_or, refl, subst, ◌∙◌, ap}
use Rattle.weedle_syntax.specs.Tree.{FindsNext}
use Rattle.weedle_places.specs.Around.{IsSolid, FindsLast, start_or, end_or}
use Rattle.weedle_places.proofs.NameFacts.{node_found}
use Rattle.weedle_places.proofs.around.around.Goals as goal

pub returns : goal.returns
returns c =
    let ns = c.args.syntax.now.nodes in
    let i = c.args.i in
    let are = c.nodes-nodes.ensures.are in
    let first = c.first_solid-first.result in
    let last = c.last_solid-last.result in
    let own = node_found c.nodes-nodes.result.now ns i c.index-nodes-i.result are c.requires in
    let own_end = node_found c.nodes-nodes.result.now ns i c.index-nodes-i-2.result are c.requires in
    record {
      first = first;
      last = last;
      before = c.last_solid-before.result;
      is_first = subst (λ z. FindsNext (IsSolid ns) i (i + z + 1) first) c.below.ensures.value c.first_solid-first.ensures;
      is_last = subst (λ z. FindsLast (IsSolid ns) i (i + z + 1) last) c.below.ensures.value c.last_solid-last.ensures;
      is_before = subst (λ z. FindsLast (IsSolid ns) 0 z c.last_solid-before.result) c.unwrap_or.ensures c.last_solid-before.ensures;
      starts = c.start_or.ensures ∙ ap (λ s. start_or s first (get_or c.nodes-nodes.result.now i c.index-nodes-i.result).end) are ∙ ap (λ n. start_or ns first n.end) own;
      ends = c.end_or.ensures ∙ ap (λ s. end_or s last (get_or c.nodes-nodes.result.now i c.index-nodes-i-2.result).end) are ∙ ap (λ n. end_or ns last n.end) own_end;
      front_starts = c.end_or-2.ensures ∙ ap (λ s. end_or s c.last_solid-before.result 0) are;
      front_ends = refl;
    }
