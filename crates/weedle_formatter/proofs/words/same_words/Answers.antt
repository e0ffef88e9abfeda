use Rattle.std.proofs.Common.{sym, ◌∙◌, arith}
use Rattle.weedle_formatter.proofs.WordFacts.{ends_first, differ, goes_on, ended}
use Rattle.weedle_formatter.proofs.words.same_words.Goals as goal

pub returns-then-j-others : goal.returns-then-j-others
returns-then-j-others c = (λ t. absurd (let n : ⊥ = cc in n), λ e. absurd (ends_first _ _ _ _ _ _ c.loop-i.invariant c.loop-i-test.true c.if-j-others.true e))

pub returns-then-not-same_word : goal.returns-then-not-same_word
returns-then-not-same_word c = (
  λ t. absurd (let n : ⊥ = cc in n),
  λ e. absurd (differ _ _ _ _ _ _ c.loop-i.invariant c.loop-i-test.true c.if-j-others.false c.same_word.result c.same_word.ensures c.if-not-same_word.true e),
)

pub loop-i-preserved : goal.loop-i-preserved
loop-i-preserved c =
    let i = c.next_word-i-in-loop-i.ensures in
    let j = c.next_word-j-in-loop-i.ensures in
    let on = goes_on _ _ _ _ _ _ c.loop-i.invariant c.loop-i-test.true c.if-j-others.false c.same_word.result c.same_word.ensures c.if-not-same_word.false in
    record {
      within = i.within.1;
      within_out = j.within.1;
      word = i.is_word;
      word_out = j.is_word;
      so_far = (
        λ e. sym (i.same c.args.raw.now) ∙ on.0 e ∙ j.same c.args.out.now,
        λ e. on.1 (i.same c.args.raw.now ∙ e ∙ sym (j.same c.args.out.now)),
      );
    }

pub returns : goal.returns
returns c = ended _ _ _ _ _ _ c.loop-i.invariant _ (omega (arith, c.loop-i-test.false)) (λ t. grind arith) (λ t. grind arith)
