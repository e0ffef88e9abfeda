use Rattle.std.proofs.Common.{arith, rules, length, map, refl, ◌≡◌, ◌+◌, ap, ◌∙◌}
use Rattle.std.proofs.lemmas.List.{length-append, length-map}
use Rattle.weedle_memo.specs.ReaderView.{entry_of}
use Rattle.std.proofs.lemmas.Grind.{common_steps}
use Rattle.weedle_rules.proofs.CountFacts.{bounded}
use Rattle.weedle_memo.proofs.KnownFacts.{few_known, reader_closes}
use Rattle.weedle_memo.proofs.reader.Reader.keep.Goals as goal

pub overflow_add-self : goal.overflow_add-self
overflow_add-self c =
    let few = bounded c.self.invariant.counted in
    let most = few_known c.self.inside.text.now (map entry_of c.self.inside.entries) c.self.invariant.right c.self.invariant.apart in
    let l = length-map c.self.inside.entries entry_of in
    let fits = c.self.invariant.fits in
    let count = c.requires.few in
    search rules

pub invariant_of-self-2 : goal.invariant_of-self-2
invariant_of-self-2 c =
    let within = rw (← c.self.view_is) at c.requires.within in
    let right = rw (← c.self.view_is) at c.requires.right in
    let own = rw (← c.self.view_is) at c.requires.own in
    let absent = rw (← c.self.view_is) at c.requires.absent in
    rw c.in_ok-push.ensures.added (reader_closes c.self.inside.rule c.self.inside.text.now c.self.inside.heads.items c.self.inside.entries c.self.inside.reads c.self.inside.most _ c.args.place c.args.looks c.len.result c.max-self-inside.result c.self.invariant within refl (record { low = (search rules); within = within; right = right }) own absent c.index-next.ensures (grind (arith, common_steps) ∙ ap length c.in_ok-push.ensures.added ∙ length-append c.self.inside.entries _) c.requires.looked c.requires.few c.max-self-inside.ensures)

pub invariant_of-self : goal.invariant_of-self
invariant_of-self c = rw c.in_err-push.ensures.refused c.self.invariant
