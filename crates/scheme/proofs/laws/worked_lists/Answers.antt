use Rattle.scheme.proofs.Tries.{worked_lists}
use Rattle.scheme.proofs.laws.worked_lists.Goals as goal

pub returns : goal.returns
returns c = worked_lists
