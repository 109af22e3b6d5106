use Rattle.std.proofs.Common.{◌-◌, length}
use Rattle.lines.proofs.Rows.{Sofar}
use Rattle.lines.proofs.reader.LineReader.read_rows.Given as goal

abbrev pub invariant-loop-line : goal.invariant-loop-line
invariant-loop-line l = Sofar l.initial.self l.self l.initial.rows l.rows l.used

abbrev pub decreases-loop-line : goal.decreases-loop-line
decreases-loop-line l = length l.self.file.now - l.self.place
