use Rattle.std.proofs.Common.{◌≡◌, ℕ, ◌<◌, ◌≤◌}
use Rattle.cutting.specs.Places.{earlier, place}
use Rattle.cutting.specs.Rows.{at}
use Rattle.cutting.proofs.row.pass.Given as goal

abbrev pub invariant-loop-i : goal.invariant-loop-i
invariant-loop-i g l =
    (l.before ≡ earlier l.initial.colours l.i)
    × ((k : ℕ) → l.i ≤ k → at l.colours k ≡ at l.initial.colours k)
    × ((k : ℕ) → k < l.i → goal.F-post g l.rule (place l.initial.colours k) (at l.colours k))
