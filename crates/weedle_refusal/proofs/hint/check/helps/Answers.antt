use Rattle.weedle_refusal.proofs.hint.check.helps.Goals as goal

pub returns-in-Keyword : goal.returns-in-Keyword
returns-in-Keyword c = rw (c.in-Keyword.is) c.keyword_helps.ensures
