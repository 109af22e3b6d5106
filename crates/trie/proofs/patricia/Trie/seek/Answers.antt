use Rattle.std.proofs.Common.{sym, ap, rules}
use Rattle.trie.specs.Bits.{bit}
use Rattle.trie.specs.Trie.{link_number}
use Rattle.trie.proofs.Steps.{go_on, go_end, falls}
use Rattle.trie.proofs.patricia.Trie.seek.Goals as goal

pub loop-at-smaller : goal.loop-at-smaller
loop-at-smaller g c = falls c.args.self.now (bit (g.K.Key.spelling c.args.k.now)) (link_number c.loop-at.at) c.in-Inner.i c.index-rows-i.result (ap link_number c.in-Inner.is) c.index-rows-i.is c.loop-at.invariant.good c.bit_at.result _ c.side-at.ensures

pub loop-at-preserved : goal.loop-at-preserved
loop-at-preserved g c = go_on c.args.self.now (bit (g.K.Key.spelling c.args.k.now)) (link_number c.loop-at.at) c.in-Inner.i c.index-rows-i.result (ap link_number c.in-Inner.is) c.index-rows-i.is c.loop-at.invariant.good c.bit_at.result (sym c.bit_at.ensures) c.loop-at.invariant.back _ c.side-at.ensures

pub returns-in-Leaf-clause-ends : goal.returns-in-Leaf-clause-ends
returns-in-Leaf-clause-ends g c = go_end c.args.self.now (bit (g.K.Key.spelling c.args.k.now)) c.loop-at.at c.in-Leaf.i c.in-Leaf.is (search rules) c.loop-at.invariant
