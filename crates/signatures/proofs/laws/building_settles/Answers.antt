use Rattle.dictionary.specs.Orders.{itself}
use Rattle.signatures.proofs.Buildings.{settles, stays_frugal}
use Rattle.signatures.proofs.laws.building_settles.Goals as goal

pub returns : goal.returns
returns g c =
    let order = g.E.Key.order in
    let self = itself order g.met.E.Key.total in
    record { settles = settles order self; frugal = stays_frugal order self }
