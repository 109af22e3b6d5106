use Rattle.std.proofs.Common.{◌≡◌, ◌<◌, length, rules}
use Rattle.cutting.specs.Rows.{at}
use Rattle.cutting.proofs.Repeats.{handed_run}
use Rattle.cutting.proofs.runs.next_run.Goals as goal

pub returns : goal.returns
returns c =
    let inside : c.args.start < length c.args.row.now = search rules in
    let name : at c.args.row.now c.args.start ≡ c.in_ok-name.field-0.now = search rules in
    rw (← name) (handed_run c.args.row.now c.args.start c.leading-times.result inside (rw (← name) at c.leading-times.ensures))
