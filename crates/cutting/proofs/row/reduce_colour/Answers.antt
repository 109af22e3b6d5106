use Rattle.std.proofs.Common.{length, rules}
use Rattle.cutting.specs.Rule.{reduce}
use Rattle.cutting.specs.Rows.{at}
use Rattle.cutting.specs.Passes.{without}
use Rattle.cutting.proofs.Passes.{made_listed}
use Rattle.cutting.proofs.row.reduce_colour.Goals as goal

pub returns : goal.returns
unfolding without
returns c = made_listed (λ xs. reduce (length xs) c.args.k (at xs)) _ (λ p v h. search rules) _ _ c.pass.ensures
