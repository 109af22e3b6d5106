use Rattle.cutting.proofs.Apart.{colours_apart}
use Rattle.cutting.proofs.Bits.{lowest_is}
use Rattle.cutting.proofs.Machine.{equal_neighbours}
use Rattle.cutting.proofs.laws.colours_apart.Goals as goal

pub returns : goal.returns
returns c = record { lowest = lowest_is; equal = equal_neighbours; apart = colours_apart }
