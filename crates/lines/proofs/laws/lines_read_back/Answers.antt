use Rattle.lines.proofs.Writes.{reads_back}
use Rattle.lines.proofs.laws.lines_read_back.Goals as goal

pub returns : goal.returns
returns c = reads_back
