use Rattle.trie.specs.Trie.{link_number}
use Rattle.trie.proofs.InPlaces.{in_place}
use Rattle.trie.proofs.laws.in_place.Goals as goal

pub returns : goal.returns
returns g c = let t = c.args.trie.now in in_place g.K.Key.spelling t.rows.now t.used (link_number t.root) t.linked t.rooted t.sound
