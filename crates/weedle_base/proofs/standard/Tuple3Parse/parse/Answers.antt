use Rattle.weedle_base.specs.Generic.{pair_reading}
use Rattle.weedle_base.proofs.Steps.{got_seen, got_pair}
use Rattle.weedle_base.proofs.standard.Tuple3Parse.parse.Goals as goal

pub returns : goal.returns
returns g c =
    let R = g.T.Parse.reading in
    let S = g.U.Parse.reading in
    let Q = g.V.Parse.reading in
    got_seen (λ x. (x.0, (x.1, x.2))) (pair_reading R (pair_reading S Q)) _
    (got_pair R (pair_reading S Q) c.in_ok-rest.ensures (got_pair S Q c.in_ok-rest-2.ensures c.in_ok-rest-3.ensures))
