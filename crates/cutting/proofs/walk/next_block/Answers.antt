use Rattle.cutting.proofs.Steps.{handed}
use Rattle.cutting.proofs.walk.next_block.Goals as goal

pub returns : goal.returns
returns c = handed c.args.row.now c.args.marks.now c.args.start c.block_end-end.result c.block_end-end.ensures
