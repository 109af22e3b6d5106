-- The refusals of the line reader: a number, a layer and a place for each case. Assumes nothing.
--     line_fault f      of a fault of the line reader, whose place is the line, counted from 1
use Rattle.std.specs.Prelude.{ℕ}
use Rattle.fault.specs.declared.Fault.{Fault}
use Rattle.fault.specs.declared.Layer.{Layer}
use Rattle.fault.specs.declared.Layer.TheVariants.{LineReader}
use Rattle.lines.specs.declared.faults.LineFault.{LineFault}
use Rattle.lines.specs.declared.faults.LineFault.TheVariants.{NotARecord, NoRow}

abbrev pub fault : ℕ → Layer → ℕ → Fault
fault number layer place = record { number = number; layer = layer; place = place }

abbrev pub line_fault : LineFault → Fault
line_fault (NotARecord line) = fault 1 LineReader line
line_fault (NoRow line) = fault 2 LineReader line
