use Rattle.std.proofs.Common.{length, take}
use Rattle.dictionary.proofs.Runs.{Going}
use Rattle.dictionary.proofs.history.replay.Given as goal

abbrev pub invariant-loop-i : goal.invariant-loop-i
invariant-loop-i g l =
    Going g.K.Key.order (g.D.Dictionary.meaning l.initial.dictionary) (take (length l.initial.answers) l.calls) l.initial.answers (g.D.Dictionary.meaning l.dictionary) l.answers l.i
