use Rattle.matching.proofs.Prefixes.{common}
use Rattle.matching.proofs.comparing.common_prefix.Goals as goal

pub returns : goal.returns
returns c = common _ _ _ c.equal_pairs.ensures
