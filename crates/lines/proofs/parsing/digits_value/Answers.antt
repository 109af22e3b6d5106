use Rattle.std.proofs.Common.{◌+◌, ◌*◌, ◌^◌, ◌<◌, arith}
use Rattle.lines.proofs.Values.{value_fits}
use Rattle.lines.proofs.parsing.digits_value.Goals as goal

fits : (c : goal.In_ok-d) → c.loop-b.value * 10 + c.in_ok-d.d < 2 ^ 32
fits c =
    value_fits c.loop-b.value c.in_ok-d.d c.loop-b.b-index c.loop-b.invariant.1 c.in_ok-d.ensures.small (omega (arith, c.requires))

pub overflow_mul-value : goal.overflow_mul-value
overflow_mul-value c = omega (arith, fits c)

pub overflow_add-value : goal.overflow_add-value
overflow_add-value c = omega (arith, fits c)
