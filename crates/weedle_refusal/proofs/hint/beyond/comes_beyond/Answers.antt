use Rattle.std.proofs.Common.{◌<◌, ◌≤◌, ◌+◌, ◌-◌, max, length, string_bytes, subst, arith}
use Rattle.weedle_refusal.proofs.HintFacts.{from_before}
use Rattle.weedle_refusal.specs.Hint.{LeavesLess}
use Rattle.weedle_refusal.proofs.hint.beyond.comes_beyond.Goals as goal

pub returns : goal.returns
returns c =
    let raw = c.args.unread.now.raw.now in
    let member = c.past_semicolon-member in
    let next = c.past_semicolon-next in
    let end = c.past_semicolon-end in
    let differ = c.if-end-next.false in
    let order : max c.args.unread.now.place (c.args.change.at + c.args.change.taken) ≤ c.max.result = omega (arith, c.requires.order, c.max.ensures) in
    let inside : next.result < length raw = omega (arith, differ, end.ensures.after, end.ensures.within) in
    let before : member.result < length raw = omega (arith, inside, next.ensures.after) in
    λ less. record {
      member = member.result;
      next = next.result;
      end = end.result;
      text = string_bytes c.in-Some.text;
      ends_member = from_before order (member.ensures.found before);
      ends_next = next.ensures.found inside;
      changed = rw c.in-Some.is at c.in_ok-text.ensures;
      beyond = subst (λ t. LeavesLess c.args.unread.now.dialect t (end.result - next.result)) c.as_str.ensures.value (c.in_ok-less.ensures less);
    }
