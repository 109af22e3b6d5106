use Rattle.cutting.proofs.Near.{local, local_inside, local_front, local_end}
use Rattle.cutting.proofs.laws.cuts_are_local.Goals as goal

pub returns : goal.returns
returns c = record { local = local; inside = local_inside; front = local_front; end = local_end }
