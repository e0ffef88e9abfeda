use Rattle.std.proofs.Common.{◌∙◌, inl, inr, sym, arith}
use Rattle.weedle_c.proofs.MessageFacts.{ended, not_inner}
use Rattle.weedle_c.proofs.told.write_cut.Goals.{then-loop-end-test+then-end-said+else-is_inner, then-loop-end-test+else-end-said, else-loop-end-test}
use Rattle.weedle_c.proofs.told.write_cut.Goals as goal

pub returns : goal.returns
returns c =
    let (within, room, whole) = c.loop-end.invariant in
    record {
      empty = λ e. absurd (omega (arith, e, room));
      ended = λ r. ended c.args.said.now c.args.room.now c.copy_from_slice.new.self c.loop-end.end within room whole
          (elim c.loop-end-test.branch [
            | then-loop-end-test+then-end-said+else-is_inner w ↦ inr (inr (not_inner _ (sym w.is_inner.ensures ∙ w.if-is_inner.false)))
            | then-loop-end-test+else-end-said w ↦ inl (omega (arith, within, w.if-end-said.false))
            | else-loop-end-test w ↦ inr (inl (omega (arith, w.loop-end-test.false)))
          ]) c.copy_from_slice.ensures.after;
    }
