use Rattle.lines.proofs.Agrees.{same_answer}
use Rattle.lines.proofs.laws.refusal_decides.Goals as goal

pub returns : goal.returns
returns c = same_answer
