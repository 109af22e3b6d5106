use Rattle.std.proofs.Common.{ap, ◌∙◌, arith, rules}
use Rattle.std.proofs.lemmas.List.{places}
use Rattle.cutting.specs.Rows.{at, Marks}
use Rattle.cutting.proofs.Passes.{marks_at}
use Rattle.cutting.proofs.row.block_starts.Goals as goal

pub returns : goal.returns
returns c =
    let h : Marks c.args.names.now c.mark_row.new.bytes = λ k l. ap (λ xs. at xs k) c.mark_row.ensures ∙ marks_at c.args.names.now k l in
    record { room = omega arith; size = search (rules, places); marks = λ k l. (let e = h k l in grind (arith, places)); rest = λ k l. grind (arith, places) }
