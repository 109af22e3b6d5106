use Rattle.std.proofs.Common.{◌≡◌, length, take, ap, arith}
use Rattle.std.proofs.lemmas.List.{length-take-le}
use Rattle.cutting.specs.Passes.{marks_of}
use Rattle.cutting.proofs.Passes.{marks_size}
use Rattle.cutting.proofs.window.passes.marks.Goals as goal

pub returns : goal.returns
returns c =
    let n = c.args.window.len in
    let m = c.marked-2.inside in
    let front = take n c.args.window.names in
    let row : take m.len m.places ≡ marks_of front = cc in
    let size : length front ≡ n = length-take-le n c.args.window.names (omega arith) in
    let own : length (take m.len m.places) ≡ m.len = length-take-le m.len m.places (omega arith) in
    let len : m.len ≡ n = omega (arith, ap length row, marks_size front) in
    record { row = rw len at row; past = rw len at c.marked-2.invariant.1 }
