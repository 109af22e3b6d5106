use Rattle.std.proofs.Common.{[], sym, ap, ◌∙◌, subst}
use Rattle.trie.specs.Bits.{bit, number, PartAt}
use Rattle.dictionary.proofs.Held.{held_of}
use Rattle.dictionary.specs.Facts.{within_rows}
use Rattle.trie.proofs.patricia.Trie.look.Goals as goal

pub returns-in-Some : goal.returns-in-Some
returns-in-Some g c =
    let spelling = g.K.Key.spelling in
    let t = c.args.self.now in
    let same =
    sym (held_of (λ w. w.key) t.rows.now t.used c.seek-leaf.result c.index-rows-leaf.result (within_rows t.long) c.seek-leaf.ensures.within c.index-rows-leaf.is spelling []
    ∙ ap (λ w. spelling w.key) c.index-rows-leaf.is)
    in
    (c.seek-leaf.result, c.seek-leaf.ensures.within, c.seek-leaf.ensures.ends, subst (λ ys. PartAt (bit (spelling c.args.k.now)) (bit ys) (number c.in-Some.place)) same c.in-Some.ensures)
