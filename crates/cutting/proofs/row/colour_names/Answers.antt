use Rattle.std.proofs.Common.{length, add-one, arith}
use Rattle.std.proofs.lemmas.Grind.{common_steps}
use Rattle.cutting.specs.Rule.{recolour}
use Rattle.cutting.specs.Rows.{at}
use Rattle.cutting.specs.Passes.{coloured}
use Rattle.cutting.proofs.Passes.{listed_from}
use Rattle.cutting.proofs.Places.{recolour_at}
use Rattle.cutting.proofs.row.colour_names.Goals as goal

pub loop-i-preserved : goal.loop-i-preserved
loop-i-preserved c = (rw (add-one c.loop-i.i), λ k l. grind (arith, common_steps, recolour_at))

pub returns : goal.returns
unfolding coloured
returns c =
    listed_from (length c.args.names.now) (recolour (at c.args.names.now)) c.loop-i.colours (omega arith) (λ k l. c.loop-i.invariant.1 k (omega arith))
