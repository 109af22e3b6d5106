use Rattle.std.proofs.Common.{refl}
use Rattle.cutting.specs.Rule.{bit, lowest, recolour, left, right, reduce, fourfold, colours, peak, begins}
use Rattle.cutting.specs.Passes.{listed}
use Rattle.cutting.specs.Blocks.{glue, parted, blocks}
use Rattle.cutting.proofs.laws.worked_rows.Goals as goal

pub returns : goal.returns
unfolding bit lowest recolour left right reduce fourfold colours peak begins glue parted blocks listed
returns c = record {
  last_colours = refl;
  marks = refl;
  three_blocks = refl;
  no_name = refl;
  one_name = λ x. refl;
  two_names = λ x y. refl;
  three_names = λ x y z. refl;
}
