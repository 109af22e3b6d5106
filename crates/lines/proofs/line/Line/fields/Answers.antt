use Rattle.std.proofs.Common.{length, ap, arith}
use Rattle.lines.proofs.Cuts.{two_parts}
use Rattle.lines.proofs.line.Line.fields.Goals as goal

pub returns-in-Some : goal.returns-in-Some
returns-in-Some c =
    let more = two_parts _ _ _ _ c.in-Some.ensures in
    let one = c.in_ok-circuit.ensures in
    let two = c.in_ok-kind.ensures in
    let three = c.in_ok-limit.ensures in
    λ four. omega (arith, ap length one.cut, ap length two.cut, ap length three.cut)
