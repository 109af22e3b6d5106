use Rattle.std.proofs.Common.{◌≡◌, sym, ◌∙◌, rules, below_more}
use lib.Bits.{bit_xor}
use Rattle.trie.proofs.Partings.{xor_equal, first_small, parts}
use Rattle.trie.proofs.bits.parting.Goals as goal

pub returns-then-x-ne0 : goal.returns-then-x-ne0
returns-then-x-ne0 g c = parts _ _ c.loop-i.i _ _ c.byte.ensures c.byte-in-loop-i.ensures (search rules) (search rules) (search rules) c.loop-i.invariant

pub invariant_of-result : goal.invariant_of-result
invariant_of-result g c = record { small = first_small _ _ c.loop-i.i _ _ c.byte.ensures c.byte-in-loop-i.ensures (search rules) (search rules) (search rules); within = search rules }

pub loop-i-preserved : goal.loop-i-preserved
loop-i-preserved g c =
    let none : bit_xor c.byte.result c.byte-in-loop-i.result ≡ 0 = search rules in
    below_more _ _ c.loop-i.invariant (sym c.byte.ensures ∙ xor_equal _ _ none ∙ c.byte-in-loop-i.ensures)
