use Rattle.signatures.proofs.Buildings.{grows, stays_quiet}
use Rattle.signatures.proofs.laws.building_grows.Goals as goal

pub returns : goal.returns
returns g c = record { grows = grows g.E.Key.order; quiet = stays_quiet g.E.Key.order }
