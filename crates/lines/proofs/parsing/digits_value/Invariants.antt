use Rattle.std.proofs.Common.{◌≡◌, ◌^◌, ◌<◌, drop}
use Rattle.lines.specs.Layout.{value_from}
use Rattle.lines.proofs.parsing.digits_value.Given as goal

abbrev pub invariant-loop-b : goal.invariant-loop-b
invariant-loop-b l = (value_from l.value (drop l.b-index l.bytes) ≡ value_from 0 l.bytes) × (l.value < 10 ^ l.b-index)
