-- The refusals of a delivered file: a number, a layer and a place for each case. Assumes nothing.
--     file_fault f      of a fault of a delivered file
use Rattle.fault.specs.declared.Fault.{Fault}
use Rattle.fault.specs.declared.Layer.TheVariants.{Programs, Store}
use Rattle.lines.specs.Faults.{fault, line_fault}
use Rattle.matching.specs.declared.faults.FileFault.{FileFault}
use Rattle.matching.specs.declared.faults.FileFault.TheVariants.{Unreadable, TooLong, Line, Empty}

abbrev pub file_fault : FileFault → Fault
file_fault Unreadable = fault 13 Programs 0
file_fault TooLong = fault 12 Programs 0
file_fault (Line f) = line_fault f
file_fault Empty = fault 3 Store 0
