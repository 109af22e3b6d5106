use Rattle.cutting.proofs.Steps.{stop_found, stop_none}
use Rattle.cutting.proofs.walk.block_end.Goals as goal

pub returns-in-Some : goal.returns-in-Some
returns-in-Some c =
    let h = c.in-Some.ensures in
    stop_found c.args.marks.now c.args.start c.args.n c.min-last.result c.requires c.min-last.ensures c.in-Some.i h.0 h.1 h.2

pub returns-in-None : goal.returns-in-None
returns-in-None c =
    stop_none c.args.marks.now c.args.start c.args.n c.min-last.result c.requires c.min-last.ensures c.in-None.ensures
