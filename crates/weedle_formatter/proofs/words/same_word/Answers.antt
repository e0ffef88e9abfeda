use Rattle.std.proofs.Common.{◌≡◌, sym, ◌∙◌, ap}
use Rattle.std.specs.Cmp.Lexicographic.{bytes_decides}
use Rattle.weedle_formatter.proofs.WordFacts.{read_is, same_fields}
use Rattle.weedle_formatter.proofs.words.same_word.Goals as goal

pub returns : goal.returns
returns c = λ n m ns ms a b.
    let rule : n.rule ≡ m.rule =
    sym (ap (λ x. x.rule) (read_is _ _ c.index-nodes-i.result n ns c.requires.raw a)) ∙ sym c.number.ensures.0 ∙ c.if-number.false ∙ c.number-2.ensures.0
    ∙ ap (λ x. x.rule) (read_is _ _ c.index-others-j.result m ms c.requires.out b) in
    let depth : n.depth ≡ m.depth =
    sym (ap (λ x. x.depth) (read_is _ _ c.index-nodes-i-2.result n ns c.requires.raw a)) ∙ c.if-nodes-i.false
    ∙ ap (λ x. x.depth) (read_is _ _ c.index-others-j-2.result m ms c.requires.out b) in
    let same = bytes_decides c.bytes_at.result.now c.bytes_at-2.result.now in (
      λ t. same_fields _ _ rule depth (sym (c.bytes_at.ensures n ns a) ∙ same.0 (sym c.eq.ensures ∙ t) ∙ c.bytes_at-2.ensures m ms b),
      λ e. c.eq.ensures ∙ same.1 (c.bytes_at.ensures n ns a ∙ ap (λ w. w.bytes) e ∙ sym (c.bytes_at-2.ensures m ms b)),
    )
