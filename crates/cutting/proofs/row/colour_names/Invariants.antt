use Rattle.std.proofs.Common.{◌≡◌}
use Rattle.cutting.specs.Places.{earlier}
use Rattle.cutting.specs.Rule.{recolour}
use Rattle.cutting.specs.Rows.{at, Front}
use Rattle.cutting.proofs.row.colour_names.Given as goal

abbrev pub invariant-loop-i : goal.invariant-loop-i
invariant-loop-i l = (l.before ≡ earlier l.names l.i) × Front l.i l.colours (recolour (at l.names))
