use Rattle.weedle_refusal.proofs.TableFacts.{bytes_are_text, own_none, wordless}
use Rattle.weedle_refusal.proofs.words.word_of.Goals as goal

pub returns-in-Err : goal.returns-in-Err
returns-in-Err c = absurd (c.in-Err.ensures.cases.0 (bytes_are_text c.row_of.result c.args.rule c.in-Bytes.bytes c.row_of.ensures c.in-Bytes.is))

pub returns-in_default-row_of : goal.returns-in_default-row_of
returns-in_default-row_of c =
    own_none c.args.rule c.number-number.result c.number-number.ensures.0 c.if-is_left_out.ensures c.in_default.ensures
    (wordless _ _ c.row_of.ensures c.in_default-row_of.not-Bytes c.in_default-row_of.not-OneOf)
