use Rattle.std.proofs.Common.{ℕ, ◌<◌}
use Rattle.cutting.specs.Places.{place}
use Rattle.cutting.specs.Rows.{at}
use Rattle.cutting.proofs.window.passes.Colours.pass.Given as goal

abbrev pub invariant-loop-i : goal.invariant-loop-i
invariant-loop-i g l = (k : ℕ) → k < l.i → goal.F-post g l.rule (place l.old k) (at l.colour-items k)
