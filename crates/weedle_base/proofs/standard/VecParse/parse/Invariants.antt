use Rattle.std.proofs.Common.{length}
use denote.Text.{Utf8}
use denote.Shadow.{shadow}
use Rattle.weedle_base.specs.Runs.{vec_step}
use Rattle.weedle_base.proofs.Reached.{Reached}
use Rattle.weedle_base.proofs.standard.VecParse.parse.Given as goal

abbrev pub invariant-loop-list : goal.invariant-loop-list
invariant-loop-list g l = shadow (Utf8 l.rest) × Reached (vec_step g.T.Parse.reading) l.input l.list.items l.rest

abbrev pub decreases-loop-list : goal.decreases-loop-list
decreases-loop-list g l = length l.rest
