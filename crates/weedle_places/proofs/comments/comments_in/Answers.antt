use Rattle.std.proofs.Common.{◌+◌, ◌<◌, ◌≤◌, [], ◌∷◌, ◌++◌, length, sym, subst, ◌∙◌, ap, arith}
use Rattle.weedle_syntax.specs.Tree.{node_at}
use Rattle.weedle_places.specs.Comments.{is_comment_in}
use Rattle.weedle_places.specs.Spans.{span_at}
use Rattle.weedle_places.proofs.CommentFacts.{AreFound, front_rises, found_none, found_more, found_same, found_all}
use Rattle.weedle_places.proofs.comments.comments_in.Goals as goal
use Rattle.weedle_places.proofs.comments.comments_in.Goals.{then-is_comment_in+in_ok-push, else-is_comment_in}

pub begun_before-first-requires : goal.begun_before-first-requires
begun_before-first-requires c = record { rise = front_rises c.args.syntax.now.text c.args.syntax.now.dialect c.nodes-nodes.result.now c.nodes-nodes.ensures.front }

pub begun_before-end-requires : goal.begun_before-end-requires
begun_before-end-requires c = record { rise = front_rises c.args.syntax.now.text c.args.syntax.now.dialect c.nodes-nodes.result.now c.nodes-nodes.ensures.front }

pub loop-i-init : goal.loop-i-init
loop-i-init c =
    let ns = c.args.syntax.now.nodes in
    let are = c.nodes-nodes.ensures.are in
    let first = c.begun_before-first.result in
    record {
      within = subst (λ s. first ≤ length s) are c.begun_before-first.ensures.few;
      found = found_none ns c.args.span c.new-found.result.items first c.new-found.ensures.items (λ j l. subst (λ s. (node_at s j).start < c.args.span.start) are (c.begun_before-first.ensures.before j l));
    }

pub loop-i-preserved : goal.loop-i-preserved
loop-i-preserved c =
    let ns = c.args.syntax.now.nodes in
    let are = c.nodes-nodes.ensures.are in
    let i = c.loop-i.i in
    let span = c.args.span in
    let few = subst (λ s. c.begun_before-end.result ≤ length s) are c.begun_before-end.ensures.few in
    let is = c.is_comment_in.ensures ∙ ap (λ s. is_comment_in s span i) are in
    record {
      within = omega (arith, few, c.loop-i-test.true);
      found = elim c.if-is_comment_in.branch [
        | then-is_comment_in+in_ok-push w ↦ (
            let own = w.span_of.ensures ∙ ap (λ s. span_at s i) are in
            let pushed = ap (λ s. s.items) w.found-is ∙ w.in_ok-push.ensures.items ∙ ap (λ s. c.loop-i.found.items ++ s ∷ []) own in
            found_more ns span c.loop-i.found.items c.if-is_comment_in.found.items i (sym is ∙ w.if-is_comment_in.true) pushed c.loop-i.invariant.found)
        | else-is_comment_in w ↦ subst (λ s. AreFound ns span (i + 1) s.items) (sym w.found-is) (found_same ns span c.loop-i.found.items i (sym is ∙ w.if-is_comment_in.false) c.loop-i.invariant.found)
      ];
    }

pub returns : goal.returns
returns c =
    let ns = c.args.syntax.now.nodes in
    let are = c.nodes-nodes.ensures.are in
    let past = c.loop-i-test.false in
    found_all ns c.args.span c.loop-i.found.items c.loop-i.i c.loop-i.invariant.within
    (λ j a l. subst (λ s. c.args.span.end ≤ (node_at s j).start) are (c.begun_before-end.ensures.behind j (omega (arith, past, a)) (subst (λ s. j < length s) (sym are) l)))
    c.loop-i.invariant.found
