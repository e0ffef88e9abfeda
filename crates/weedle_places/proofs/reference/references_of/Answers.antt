use Rattle.std.proofs.Common.{◌≡◌, ◌+◌, true, false, MatchOption, sym, subst, ◌∙◌, ap}
use Rattle.weedle_places.specs.Names.{HasRole, is_name}
use Rattle.weedle_places.proofs.AboveFacts.{open_none}
use Rattle.weedle_places.proofs.ReferenceFacts.{AreReferencesTo, no_reference_yet, one_reference_more, other_name_more, no_name_more}
use Rattle.weedle_places.proofs.reference.references_of.Goals as goal
use Rattle.weedle_places.proofs.reference.references_of.Goals.{in-Some+then-refers_to+in_ok-push, in-Some+else-refers_to, in_default}

pub loop-i-init : goal.loop-i-init
loop-i-init c = record {
  above = open_none c.args.syntax.now.nodes c.new-above.result.items c.new-above.ensures.items;
  said = no_reference_yet c.args.syntax.now.text c.args.syntax.now.nodes c.args.name.now c.new-found.result.items c.new-found.ensures.items;
}

pub loop-i-preserved : goal.loop-i-preserved
loop-i-preserved c =
    let ns = c.args.syntax.now.nodes in
    let text = c.args.syntax.now.text in
    let letters = c.args.name.now in
    let i = c.loop-i.i in
    let before = c.loop-i.found.items in
    record {
      above = c.in_ok-role.ensures.open;
      said = elim c.match-branch-2.branch [
        | in-Some+then-refers_to+in_ok-push w ↦ (
            let role = subst (λ o. MatchOption o (is_name ns i ≡ false) (λ role. (is_name ns i ≡ true) × HasRole ns i role)) w.in-Some.is c.in_ok-role.ensures.role in
            one_reference_more text ns letters before c.match-branch-2.found.items i w.name_at-one.result role.0 w.name_at-one.ensures (sym w.refers_to.ensures ∙ w.if-refers_to.true)
            (ap (λ s. s.items) w.found-is ∙ w.in_ok-push.ensures.items) c.loop-i.invariant.said)
        | in-Some+else-refers_to w ↦ (
            let role = subst (λ o. MatchOption o (is_name ns i ≡ false) (λ role. (is_name ns i ≡ true) × HasRole ns i role)) w.in-Some.is c.in_ok-role.ensures.role in
            subst (λ s. AreReferencesTo text ns letters (i + 1) s.items) (sym w.found-is)
            (other_name_more text ns letters before i w.name_at-one.result role.0 w.name_at-one.ensures (sym w.refers_to.ensures ∙ w.if-refers_to.false) c.loop-i.invariant.said))
        | in_default w ↦ (
            let none = subst (λ o. MatchOption o (is_name ns i ≡ false) (λ role. (is_name ns i ≡ true) × HasRole ns i role)) w.in_default.is c.in_ok-role.ensures.role in
            subst (λ s. AreReferencesTo text ns letters (i + 1) s.items) (sym w.found-is) (no_name_more text ns letters before i none c.loop-i.invariant.said))
      ];
    }
