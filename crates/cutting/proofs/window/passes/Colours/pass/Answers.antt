use Rattle.std.proofs.Common.{◌≡◌, length, take, replicate, ◌∙◌, arith}
use Rattle.std.proofs.lemmas.List.{length-take-le}
use Rattle.cutting.proofs.Passes.{zeros_past}
use Rattle.cutting.proofs.window.passes.Colours.pass.Goals as goal

pub invariant_of-result : goal.invariant_of-result
invariant_of-result g c =
    let n = c.self.inside.len in
    let size : length (take n c.self.inside.places) ≡ n = length-take-le n c.self.inside.places (omega arith) in
    (c.self.invariant.0, λ k l. rw size (zeros_past n 96 k c.loop-i.colour-items (c.loop-i.auto.colour-items ∙ length-take-le _ (replicate 96 0) (omega arith) ∙ size) l))
