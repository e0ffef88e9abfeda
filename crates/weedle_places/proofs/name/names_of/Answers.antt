use Rattle.std.proofs.Common.{◌≡◌, ◌+◌, true, false, MatchOption, sym, subst, ◌∙◌, ap}
use Rattle.weedle_places.specs.Names.{HasRole, is_name}
use Rattle.weedle_places.proofs.AboveFacts.{open_none}
use Rattle.weedle_places.proofs.NameFacts.{AreSaidTo, one_more, no_more, none_yet}
use Rattle.weedle_places.proofs.name.names_of.Goals as goal
use Rattle.weedle_places.proofs.name.names_of.Goals.{in-Some+in_ok-push, in_default}

pub loop-i-init : goal.loop-i-init
loop-i-init c = record {
  above = open_none c.args.syntax.now.nodes c.new-above.result.items c.new-above.ensures.items;
  said = none_yet c.args.syntax.now.text c.args.syntax.now.nodes c.new-names.result.items c.new-names.ensures.items;
}

pub loop-i-preserved : goal.loop-i-preserved
loop-i-preserved c =
    let ns = c.args.syntax.now.nodes in
    let text = c.args.syntax.now.text in
    let i = c.loop-i.i in
    record {
      above = c.in_ok-role.ensures.open;
      said = elim c.match-branch-2.branch [
        | in-Some+in_ok-push w ↦ (
            let found = subst (λ o. MatchOption o (is_name ns i ≡ false) (λ role. (is_name ns i ≡ true) × HasRole ns i role)) w.in-Some.is c.in_ok-role.ensures.role in
            one_more text ns c.loop-i.names.items c.match-branch-2.names.items i w.name_at.result found.0 (ap (λ s. s.items) w.names-is ∙ w.in_ok-push.ensures.items) w.name_at.ensures c.loop-i.invariant.said)
        | in_default w ↦ (
            let none = subst (λ o. MatchOption o (is_name ns i ≡ false) (λ role. (is_name ns i ≡ true) × HasRole ns i role)) w.in_default.is c.in_ok-role.ensures.role in
            subst (λ s. AreSaidTo text ns (i + 1) s.items) (sym w.names-is) (no_more text ns c.loop-i.names.items i none c.loop-i.invariant.said))
      ];
    }
