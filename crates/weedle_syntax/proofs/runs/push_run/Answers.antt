use Rattle.std.proofs.Common.{◌≡◌, ◌∙◌, ◌++◌, ℕ, [], sym, subst, append-nil, length, refl}
use Rattle.weedle_syntax.proofs.RunFacts.{grown, short_inside, short_run, long_inside, long_run}
use Rattle.weedle_syntax.proofs.runs.push_run.Goals.{then-branch+in_ok-push, else-branch+in_ok-lengthen+in_ok-push-2}
use Rattle.weedle_syntax.proofs.runs.push_run.Goals as goal
use Rattle.std.specs.Bool.{OnTrue, OnFalse}
use Rattle.weedle_syntax.specs.Compact.{AreRuns, IsShortened, nodes_of}
use Rattle.weedle_syntax.specs.declared.runs.Runs.{Runs}

-- with what is counted
abbrev counted : ℕ → Runs → Runs
counted many nodes = record { runs = nodes.runs; shorts = nodes.shorts; longs = nodes.longs; many = many }

grows : (c : goal.After-nodes-1) → AreRuns (counted c.in-Some.many c.if-branch.nodes) × (nodes_of (counted c.in-Some.many c.if-branch.nodes) ≡ nodes_of c.args.nodes.now ++ c.args.found.now)
grows c =
    let Grows : Runs → Type 0 = λ nodes. AreRuns (counted c.in-Some.many nodes) × (nodes_of (counted c.in-Some.many nodes) ≡ nodes_of c.args.nodes.now ++ c.args.found.now) in
    elim c.if-branch.branch [
      | then-branch+in_ok-push w ↦
          let short : IsShortened c.match-first.base c.args.found.now c.args.nodes.now.shorts.items c.shorten.new.shorts.items =
          subst (λ b. OnTrue b (IsShortened c.match-first.base c.args.found.now c.args.nodes.now.shorts.items c.shorten.new.shorts.items)) w.if-branch.true c.in_ok-shorten.ensures.all in
          let begins : c.len-from.result ≡ length c.args.nodes.now.shorts.items = c.len-from.ensures ∙ c.args.nodes.now.shorts.ok.0 in
          let new : Runs = record { runs = w.push.new.self; shorts = c.shorten.new.shorts; longs = c.args.nodes.now.longs; many = c.args.nodes.now.many } in
          subst Grows (sym w.nodes-is)
          (grown c.args.nodes.now (counted c.in-Some.many new) c.args.found.now c.requires c.are_narrow.ensures short.more [] _ short.are
          (sym (append-nil c.args.nodes.now.longs.items)) w.in_ok-push.ensures.items
          (short_inside c.match-first.base c.len-from.result _ c.args.nodes.now.shorts.items c.shorten.new.shorts.items c.args.nodes.now.longs.items c.args.found.now begins refl short)
          (short_run c.match-first.base c.len-from.result _ c.args.nodes.now.shorts.items c.shorten.new.shorts.items c.args.nodes.now.longs.items c.args.found.now begins refl short)
          c.in-Some.ensures.1)
      | else-branch+in_ok-lengthen+in_ok-push-2 w ↦
          let same : c.shorten.new.shorts.items ≡ c.args.nodes.now.shorts.items =
          subst (λ b. OnFalse b (c.shorten.new.shorts.items ≡ c.args.nodes.now.shorts.items)) w.if-branch.false c.in_ok-shorten.ensures.none in
          let new : Runs = record { runs = w.push-else-branch.new.self; shorts = c.shorten.new.shorts; longs = w.lengthen.new.longs; many = c.args.nodes.now.many } in
          subst Grows (sym w.nodes-is)
          (grown c.args.nodes.now (counted c.in-Some.many new) c.args.found.now c.requires c.are_narrow.ensures [] c.args.found.now _
          (same ∙ sym (append-nil c.args.nodes.now.shorts.items)) w.in_ok-lengthen.ensures w.in_ok-push-2.ensures.items
          (long_inside c.match-first.base w.len-from-else-branch.result _ c.shorten.new.shorts.items c.args.nodes.now.longs.items w.lengthen.new.longs.items c.args.found.now (w.len-from-else-branch.ensures ∙ c.args.nodes.now.longs.ok.0) refl w.in_ok-lengthen.ensures)
          (long_run c.match-first.base w.len-from-else-branch.result _ c.shorten.new.shorts.items c.args.nodes.now.longs.items w.lengthen.new.longs.items c.args.found.now (w.len-from-else-branch.ensures ∙ c.args.nodes.now.longs.ok.0) refl w.in_ok-lengthen.ensures)
          c.in-Some.ensures.1)
    ]

pub returns-clause-are : goal.returns-clause-are
returns-clause-are c = (grows c).0

pub returns-clause-items : goal.returns-clause-items
returns-clause-items c = (grows c).1
