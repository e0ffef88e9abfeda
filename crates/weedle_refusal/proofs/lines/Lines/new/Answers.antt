use Rattle.std.proofs.Common.{◌≡◌, ◌+◌, ◌<◌, length, get_or, sym, subst, ◌∙◌, ap, arith}
use Rattle.weedle_refusal.proofs.LineFacts.{Found, found_none, found_more, found_same, found_all}
use Rattle.weedle_refusal.proofs.lines.Lines.new.Goals as goal
use Rattle.weedle_refusal.proofs.lines.Lines.new.Goals.{then-bytes-i-eq10+in_ok-push, else-bytes-i-eq10}

pub loop-i-init : goal.loop-i-init
loop-i-init c = found_none c.args.text.now c.new-starts.result.items c.new-starts.ensures.items

pub loop-i-preserved : goal.loop-i-preserved
loop-i-preserved c =
    let bytes = c.as_bytes-bytes.ensures.value in
    let within : c.loop-i.i < length c.args.text.now = omega (arith, ap length bytes, c.loop-i-test.true) in
    let byte = ap (λ s. get_or s c.loop-i.i 0) bytes in
    elim c.if-bytes-i-eq10.branch [
      | then-bytes-i-eq10+in_ok-push w ↦ found_more c.args.text.now c.loop-i.starts.items _ c.loop-i.i within (sym byte ∙ w.if-bytes-i-eq10.true) (ap (λ s. s.items) w.starts-is ∙ w.in_ok-push.ensures.items) c.loop-i.invariant
      | else-bytes-i-eq10 w ↦ subst (λ s. Found c.args.text.now (c.loop-i.i + 1) s.items) (sym w.starts-is) (found_same c.args.text.now c.loop-i.starts.items c.loop-i.i within (λ e. w.if-bytes-i-eq10.false (byte ∙ e)) c.loop-i.invariant)
    ]

pub invariant_of-result : goal.invariant_of-result
invariant_of-result c =
    let many = ap length c.as_bytes-bytes.ensures.value in
    let all : c.loop-i.i ≡ length c.args.text.now = omega (arith, c.loop-i.auto.i-end, c.loop-i-test.false) in
    found_all c.args.text.now c.loop-i.starts.items (subst (λ z. Found c.args.text.now z c.loop-i.starts.items) all c.loop-i.invariant)
