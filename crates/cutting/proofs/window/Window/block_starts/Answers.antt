use Rattle.std.proofs.Common.{arith}
use Rattle.cutting.proofs.Seen.{answer}
use Rattle.cutting.proofs.window.Window.block_starts.Goals as goal

pub returns : goal.returns
returns c =
    let w = c.args.self.now in
    answer w.names w.len w.first w.last (omega arith) c.marks.result c.marks.ensures.row c.marks.ensures.past
