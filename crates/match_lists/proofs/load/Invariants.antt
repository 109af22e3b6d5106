use Rattle.std.proofs.Common.{◌-◌, ◌≤◌}
use Rattle.match_lists.proofs.load.Given as goal

abbrev pub invariant-loop-used : goal.invariant-loop-used
invariant-loop-used l = l.used ≤ 4097

abbrev pub decreases-loop-used : goal.decreases-loop-used
decreases-loop-used l = 4097 - l.used
