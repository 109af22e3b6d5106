use Rattle.std.proofs.Common.{◌+◌, length, drop, ap, ◌∙◌, arith}
use Rattle.dictionary.proofs.Held.{drop_later}
use Rattle.dictionary.specs.Meaning.{most}
use Rattle.trie.specs.Trie.{at}
use Rattle.trie.proofs.patricia.Trie.insert.Goals as goal

pub invariant_of-self-clause-sound : goal.invariant_of-self-clause-sound
invariant_of-self-clause-sound g c = ∣ record { nodes = λ m h. absurd (omega (arith, h.0, h.1)); under = λ i h. at 0 (omega arith) (omega arith) } ∣₁

pub returns-clause-beyond : goal.returns-clause-beyond
returns-clause-beyond g c =
    let rows = c.args.self.now.rows.now in
    ap (λ m. drop (most m) c.graft-self.new.rows) c.graft-self.auto.rows ∙ drop_later (c.args.self.now.used + 1) (most (length rows)) c.graft-self.new.rows rows (omega arith) c.graft-self.ensures.rest
