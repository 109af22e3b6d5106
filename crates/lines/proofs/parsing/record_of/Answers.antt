use Rattle.lines.specs.Records.{gathered}
use Rattle.lines.proofs.parsing.record_of.Goals as goal

pub returns : goal.returns
returns c = gathered _ _ _ _ _ c.in_ok-circuit.ensures c.in_ok-kind.ensures c.in_ok-limit.ensures.value c.in_ok-chain.ensures.value
