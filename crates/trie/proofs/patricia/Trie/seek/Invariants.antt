use Rattle.trie.specs.Bits.{bit}
use Rattle.trie.specs.Trie.{link_number}
use Rattle.trie.proofs.Steps.{Going, to_go}
use Rattle.trie.proofs.patricia.Trie.seek.Given as goal

abbrev pub invariant-loop-at : goal.invariant-loop-at
invariant-loop-at g l = Going l.self (bit (g.K.Key.spelling l.k)) (link_number l.at)

abbrev pub decreases-loop-at : goal.decreases-loop-at
decreases-loop-at g l = to_go l.self (bit (g.K.Key.spelling l.k)) (link_number l.at)
