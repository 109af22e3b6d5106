use Rattle.cutting.specs.Walk.{Zeros}
use Rattle.cutting.proofs.walk.first_mark.Given as goal

abbrev pub invariant-loop-i : goal.invariant-loop-i
invariant-loop-i l = Zeros l.marks l.i
