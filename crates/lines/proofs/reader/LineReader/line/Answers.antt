use Rattle.std.proofs.Common.{refl}
use Rattle.lines.proofs.Lefts.{leads}
use Rattle.lines.proofs.reader.LineReader.line.Goals as goal

pub returns : goal.returns
returns c = leads c.args.self.now _ _ refl c.in_ok-bytes.ensures
