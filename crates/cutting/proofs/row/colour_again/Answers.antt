use Rattle.std.proofs.Common.{rules}
use Rattle.cutting.specs.Rule.{recolour}
use Rattle.cutting.specs.Rows.{at}
use Rattle.cutting.specs.Passes.{coloured}
use Rattle.cutting.proofs.Passes.{made_listed}
use Rattle.cutting.proofs.row.colour_again.Goals as goal

pub returns : goal.returns
unfolding coloured
returns c = made_listed (λ xs. recolour (at xs)) _ (λ p v h. search rules) _ _ c.pass.ensures
