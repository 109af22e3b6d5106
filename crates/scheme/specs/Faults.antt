-- What the faults of a building tell. Assumes nothing.
--     build_fault      number, layer and place
use Rattle.fault.specs.declared.Fault.{Fault}
use Rattle.fault.specs.declared.Layer.TheVariants.{ElementDictionary, CompositionDictionary}
use Rattle.scheme.specs.declared.faults.BuildFault.{BuildFault}
use Rattle.scheme.specs.declared.faults.BuildFault.TheVariants.{Elements, Compositions}

abbrev pub build_fault : BuildFault → Fault
build_fault (Elements position full) = record { number = 9; layer = ElementDictionary; place = position }
build_fault (Compositions round full) = record { number = 10; layer = CompositionDictionary; place = round }
