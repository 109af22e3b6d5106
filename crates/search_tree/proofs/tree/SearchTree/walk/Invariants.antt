use Rattle.search_tree.specs.Tree.{link, turns, keys, lefts, rights}
use Rattle.search_tree.proofs.Walks.{Rest, to_go}
use Rattle.search_tree.proofs.tree.SearchTree.walk.Given as goal

abbrev pub invariant-loop-at : goal.invariant-loop-at
invariant-loop-at g l = Rest (turns g.K.Key.order (keys l.self.rows.now l.self.used) l.k) (lefts l.self.rows.now) (rights l.self.rows.now) l.self.used l.slot (link l.at)

abbrev pub decreases-loop-at : goal.decreases-loop-at
decreases-loop-at g l = to_go l.self.used l.at
