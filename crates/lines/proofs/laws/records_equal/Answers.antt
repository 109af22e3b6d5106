use Rattle.lines.proofs.Equals.{equal_decides, equal_answers}
use Rattle.lines.proofs.laws.records_equal.Goals as goal

pub returns : goal.returns
returns c = record { decides = equal_decides; answers = equal_answers }
