use Rattle.std.proofs.Common.{replicate, ◌∙◌, arith}
use Rattle.std.proofs.lemmas.List.{length-take-le}
use Rattle.cutting.proofs.Passes.{zeros_past}
use Rattle.cutting.proofs.window.passes.Colours.of.Goals as goal

pub invariant_of-result : goal.invariant_of-result
invariant_of-result c =
    (omega arith, λ k l. zeros_past c.args.window.len 96 k _ (c.colour_names.auto.colours ∙ length-take-le c.args.window.len (replicate 96 0) (omega arith)) l)
