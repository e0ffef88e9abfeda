use Rattle.std.proofs.Common.{◌≡◌, refl, sym, ◌∙◌, ap, option_copied}
use Rattle.weedle_view.proofs.AncestryFacts.{fewer, ends, starts, goes_on}
use Rattle.weedle_view.proofs.ancestry.ancestors.Goals as goal

pub loop-next-init : goal.loop-next-init
loop-next-init c = starts c.args.definitions.now c.args.name.now _ _ _ _ _ (sym c.definition_named.ensures ∙ ap option_copied c.in-Some.is) c.new-met.ensures.items c.in_ok-push.ensures.items refl c.new-above.ensures.items

pub loop-next-smaller : goal.loop-next-smaller
loop-next-smaller c = fewer c.args.definitions.now _ _ _ _ _ _ c.deref.ensures.value (sym (ap option_copied c.in-Some-inherited.is) ∙ c.inherited.ensures) c.in_ok-push-2.ensures.items c.name_of.ensures

pub loop-next-preserved : goal.loop-next-preserved
loop-next-preserved c =
    goes_on c.args.definitions.now c.args.name.now _ _ _ _ _ c.in-Some-inherited.next _ _ c.deref.ensures.value (sym (ap option_copied c.in-Some-inherited.is) ∙ c.inherited.ensures) c.in_ok-push-2.ensures.items c.name_of.ensures c.in_ok-push-3.ensures.items
    c.loop-next.invariant

pub returns : goal.returns
returns c = ends c.args.definitions.now c.args.name.now _ _ _ _ c.deref.ensures.value (sym (ap option_copied c.in_default-inherited.is) ∙ c.inherited.ensures) c.loop-next.invariant
