use Rattle.std.proofs.Common.{◌+◌, ◌-◌, ◌<◌, length, refl, inl, inr, arith}
use Rattle.matching.proofs.Prefixes.{differ}
use Rattle.matching.proofs.matching.compare.Goals as goal

pub returns-then-n-ys : goal.returns-then-n-ys
returns-then-n-ys c =
    let common = c.common_prefix-n.ensures in
    let xs = c.args.xs.now in
    let ys = c.args.ys.now in
    let n = c.common_prefix-n.result in
    let shorter : n < length xs + length ys - n = elim c.if-n-ys.either [ inl h ↦ omega (arith, common.right) | inr h ↦ omega (arith, h.1, common.left) ] in
    (differ xs ys n common shorter, (n, refl, common))
