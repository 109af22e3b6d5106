use Rattle.std.proofs.Common.{arith}
use Rattle.lines.proofs.Bytes.{filled_is}
use Rattle.lines.proofs.parsing.filled.Goals as goal

pub returns : goal.returns
returns c = search (arith, filled_is c.args.bytes.now c.requires)
