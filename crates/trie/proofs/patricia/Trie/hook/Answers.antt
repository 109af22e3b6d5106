use Rattle.std.proofs.Common.{true, false, sym, ap, ◌∙◌, rules}
use Rattle.trie.specs.Bits.{bit}
use Rattle.trie.specs.Trie.{link_number}
use Rattle.trie.proofs.Hooks.{hook_leaf, hook_there, hook_left, hook_right}
use Rattle.trie.proofs.Places.{stand}
use Rattle.trie.proofs.Steps.{falls}
use Rattle.trie.proofs.patricia.Trie.hook.Goals as goal

pub loop-at-smaller-then-bit_at : goal.loop-at-smaller-then-bit_at
loop-at-smaller-then-bit_at g c = falls c.args.self.now (bit (g.K.Key.spelling c.args.k.now)) _ _ c.index-rows-i.result (ap link_number c.in-Inner.is) c.index-rows-i.is c.loop-at.invariant.good true _ c.side.ensures

pub loop-at-smaller : goal.loop-at-smaller
loop-at-smaller g c = falls c.args.self.now (bit (g.K.Key.spelling c.args.k.now)) _ _ c.index-rows-i.result (ap link_number c.in-Inner.is) c.index-rows-i.is c.loop-at.invariant.good false _ c.side-else-bit_at.ensures

pub loop-at-preserved-then-bit_at : goal.loop-at-preserved-then-bit_at
loop-at-preserved-then-bit_at g c = hook_right c.args.self.now c.args.k.now _ c.requires _ _ _ _ c.in-Inner.is c.index-rows-i.is c.loop-at.invariant (stand c.index-rows-i.result.place c.args.place _ _ c.gt.ensures c.if-gt.false) (sym c.bit_at.ensures ∙ c.if-bit_at.true) _ c.side.ensures

pub loop-at-preserved : goal.loop-at-preserved
loop-at-preserved g c = hook_left c.args.self.now c.args.k.now _ c.requires _ _ _ _ c.in-Inner.is c.index-rows-i.is c.loop-at.invariant (stand c.index-rows-i.result.place c.args.place _ _ c.gt.ensures c.if-gt.false) (sym c.bit_at.ensures ∙ c.if-bit_at.false) _ c.side-else-bit_at.ensures

pub returns-then-gt : goal.returns-then-gt
returns-then-gt g c = hook_there c.args.self.now c.args.k.now _ c.requires _ _ _ _ c.in-Inner.is c.index-rows-i.is c.loop-at.invariant (stand c.index-rows-i.result.place c.args.place _ _ c.gt.ensures c.if-gt.true)

pub returns-in-Leaf : goal.returns-in-Leaf
returns-in-Leaf g c = hook_leaf c.args.self.now c.args.k.now _ c.requires _ _ _ c.in-Leaf.is (search rules) c.loop-at.invariant
