use Rattle.std.proofs.Common.{length, rules}
use Rattle.cutting.specs.Rule.{peak}
use Rattle.cutting.specs.Rows.{at, mark}
use Rattle.cutting.specs.Passes.{starts}
use Rattle.cutting.proofs.Passes.{made_listed}
use Rattle.cutting.proofs.row.mark_starts.Goals as goal

pub returns : goal.returns
unfolding starts
returns c = made_listed (λ xs i. mark (peak (length xs) (at xs) i)) _ (λ p v h. search rules) _ _ c.pass.ensures
