use Rattle.cutting.proofs.Steps.{walk_begins, walk_ends}
use Rattle.cutting.proofs.laws.walk_gives_blocks.Goals as goal

pub returns : goal.returns
returns c = record { begins = walk_begins; ends = walk_ends }
