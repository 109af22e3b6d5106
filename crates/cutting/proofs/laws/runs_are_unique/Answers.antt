use Rattle.cutting.proofs.Repeats.{runs_spell, runs_proper, runs_unique, runs_append}
use Rattle.cutting.proofs.laws.runs_are_unique.Goals as goal

pub returns : goal.returns
returns c = record { spell = runs_spell; proper = runs_proper; unique = runs_unique; append = runs_append }
