use Rattle.std.proofs.Common.{◌≡◌, ◌∙◌, ◌++◌, ◌-◌, [], length, ap, append-nil, length-append, arith, refl, subst, sym, take, drop}
use Rattle.weedle_grammar.specs.written.Table.Definitions.{DEFINITION, DEFINITIONS}
use Rattle.weedle_rules.proofs.OutcomeFacts.{it_fails}
use Rattle.weedle_syntax.specs.Compact.{nodes_of}
use Rattle.weedle_syntax.specs.Laid.{LaysNode}
use Rattle.weedle_syntax.specs.Parts.{AreItems}
use Rattle.weedle_syntax.specs.Syntax.{AreTrees}
use Rattle.weedle_syntax.proofs.CompactFacts.{packed_on, one_left}
use Rattle.weedle_syntax.proofs.DescentFacts.{has_now}
use Rattle.weedle_syntax.proofs.FrontFacts.{never_fails}
use Rattle.weedle_syntax.proofs.RepeatFacts.{Again, again_start, again_step, again_on, again_stuck, again_end}
use Rattle.weedle_syntax.proofs.front.lay_definitions.Goals as goal

pub loop-nodes-init : goal.loop-nodes-init
loop-nodes-init c = (
  subst (Again c.args.text.now DEFINITIONS DEFINITION 0 1 [] 0) (sym c.requires.none)
      (again_start c.args.text.now DEFINITIONS DEFINITION 0 1 [] refl (omega arith)),
  c.requires.are,
  (let l = ap length c.in_ok-lay.ensures.items ∙ length-append c.new-nodes.result.items _ in let z = ap length c.new-nodes.ensures.items in omega (arith, l, z)),
)

pub returns-in_default-clause-end : goal.returns-in_default-clause-end
returns-in_default-clause-end c =
    again_end c.args.text.now DEFINITIONS DEFINITION 0 1 [] refl c.loop-nodes.at (nodes_of c.loop-nodes.below)
    c.loop-nodes.invariant.0 (has_now c.in_default.is c.in_ok-found.ensures.end)

pub returns-in_default-clause-lays : goal.returns-in_default-clause-lays
returns-in_default-clause-lays c =
    let g = c.loop-nodes.invariant.0 in
    let fails = it_fails (has_now c.in_default.is c.in_ok-found.ensures.end) in (
      g.inner,
      subst (AreItems c.args.text.now DEFINITION 1 0 c.loop-nodes.at) (append-nil g.inner) (g.onward [] c.loop-nodes.at (refl, fails)),
      subst (AreTrees c.args.text.now g.inner) (sym g.adds.1) g.adds.2,
    )

pub unreachable-requires : goal.unreachable-requires
unreachable-requires c =
    never_fails c.args.text.now 0
    (again_stuck c.args.text.now DEFINITIONS DEFINITION 0 1 [] refl c.loop-nodes.at c.in-Some.end
    (nodes_of c.loop-nodes.below) c.loop-nodes.invariant.0 (has_now c.in-Some.is c.in_ok-found.ensures.end) c.if-end-at.true)

pub loop-nodes-smaller : goal.loop-nodes-smaller
loop-nodes-smaller c =
    let on = again_on c.args.text.now DEFINITIONS DEFINITION 0 1 [] refl c.loop-nodes.at c.in-Some.end
    (nodes_of c.loop-nodes.below) c.loop-nodes.invariant.0 (has_now c.in-Some.is c.in_ok-found.ensures.end) c.if-end-at.false in
    omega (arith, on.0, on.1)

pub loop-nodes-preserved : goal.loop-nodes-preserved
loop-nodes-preserved c =
    let laid = subst (LaysNode c.args.text.now DEFINITION c.loop-nodes.at 1 c.loop-nodes.nodes.items c.read.new.nodes.items) c.in-Some.is c.in_ok-found.ensures.lays in
    let one = c.loop-nodes.invariant.2 in
    let items = subst (λ ns. nodes_of c.push_run.new.nodes ≡ nodes_of c.loop-nodes.below ++ take (length ns - 1) (drop 1 ns)) c.deref.ensures.value c.in_ok-push_run.ensures.items in (
      again_step c.args.text.now DEFINITIONS DEFINITION 0 1 [] refl c.loop-nodes.at c.in-Some.end
          (nodes_of c.loop-nodes.below) (nodes_of c.push_run.new.nodes) c.loop-nodes.invariant.0 (has_now c.in-Some.is c.in_ok-found.ensures.end) c.if-end-at.false
          (packed_on c.args.text.now _ c.loop-nodes.nodes.items c.read.new.nodes.items (nodes_of c.loop-nodes.below) (nodes_of c.push_run.new.nodes) one laid items),
      c.in_ok-push_run.ensures.are,
      ap length c.truncate.ensures.items ∙ one_left c.args.text.now _ c.loop-nodes.nodes.items c.read.new.nodes.items one laid,
    )
