use Rattle.std.proofs.Common.{◌+◌, rules}
use Rattle.std.proofs.lemmas.List.{take_rest}
use Rattle.lines.proofs.Cuts.{cut_none, cut_some}
use Rattle.lines.proofs.cut.cut_at.Goals as goal

pub returns-in_err-n : goal.returns-in_err-n
returns-in_err-n c = rw c.from_residual.ensures (cut_none _ _ c.in_err-n.ensures)

pub returns : goal.returns
returns c = cut_some _ _ _ _ _ c.in_ok-n.ensures (search rules) (take_rest c.args.bytes.now (c.in_ok-n.n + 1))
