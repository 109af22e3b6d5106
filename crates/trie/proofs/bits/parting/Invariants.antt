use Rattle.std.proofs.Common.{◌≡◌, ℕ, ◌<◌, get_or}
use Rattle.trie.proofs.bits.parting.Given as goal

abbrev pub invariant-loop-i : goal.invariant-loop-i
invariant-loop-i g l = (k : ℕ) → k < l.i → get_or (g.K.Key.spelling l.a) k 0 ≡ get_or (g.K.Key.spelling l.b) k 0
