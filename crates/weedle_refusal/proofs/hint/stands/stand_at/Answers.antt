use Rattle.std.proofs.Common.{◌≡◌, ◌-◌, ◌∙◌, length, drop, take, sym, ap, arith}
use Rattle.std.proofs.lemmas.List.{length-drop, take_all}
use Rattle.std.proofs.lemmas.Slice.Eq.{bytes_eq-Decides}
use Rattle.weedle_refusal.proofs.HintFacts.{front_is}
use Rattle.weedle_refusal.proofs.hint.stands.stand_at.Goals as goal

pub returns-in-Some-get : goal.returns-in-Some-get
returns-in-Some-get c =
    let raw = c.args.raw.now in
    let bytes = c.args.bytes.now in
    let rest = drop c.args.at raw in
    let all : c.in-Some.behind.now ≡ rest =
    c.in-Some.ensures.lookup.0.2 ∙ take_all (length raw - c.args.at) rest (omega (arith, length-drop c.args.at raw)) in
    let front : c.in-Some-get.there.now ≡ take (length bytes) c.in-Some.behind.now = front_is _ _ _ c.in-Some-get.ensures.lookup.0.2 in
    λ same.
    let is : c.in-Some-get.there.now ≡ bytes = (bytes_eq-Decides _ bytes).0 (sym c.eq.ensures ∙ same) in
    ap (take (length bytes)) (sym all) ∙ sym front ∙ is
