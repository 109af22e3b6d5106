use Rattle.cutting.proofs.Splices.{splice_keeps, reach_front, reach_end, splice_few, splice_bounded}
use Rattle.cutting.proofs.laws.splice_keeps_blocks.Goals as goal

pub returns : goal.returns
returns c = record { keeps = splice_keeps; front = reach_front; end = reach_end; few = splice_few; bounded = splice_bounded }
