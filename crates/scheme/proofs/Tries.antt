-- The worked lists: each is computed.
use Rattle.std.proofs.Common.{refl}
use Rattle.cutting.specs.Blocks.{blocks, parted, glue}
use Rattle.cutting.specs.Rule.{bit, lowest, recolour, left, right, reduce, fourfold, colours, peak, begins}
use Rattle.scheme.specs.Worked.{WorkedLists}

pub worked_lists : WorkedLists
unfolding blocks parted glue bit lowest recolour left right reduce fourfold colours peak begins
worked_lists = ((refl, refl), (refl, refl, refl, refl, refl), (refl, refl, refl), (refl, refl, refl, refl), (refl, refl, refl), (refl, refl, refl))
