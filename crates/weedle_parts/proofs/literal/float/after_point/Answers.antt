use Rattle.std.proofs.Common.{refl}
use Rattle.weedle_grammar.specs.written.Table.Leaves.{POINT, POINT_BEFORE_DIGITS}
use Rattle.weedle_grammar.proofs.SilentRules.{took_first, took_second, no_first, decided}
use Rattle.weedle_parts.proofs.literal.float.after_point.Goals as goal

pub returns-in-Some : goal.returns-in-Some
returns-in-Some c = took_first refl refl c.in-Some.ensures

pub returns : goal.returns
returns c = decided POINT POINT_BEFORE_DIGITS (λ rest m. took_second refl refl c.in_default.ensures m) (λ d. no_first refl refl c.in_default.ensures d) c.after_point_digits.result c.after_point_digits.ensures
