use Rattle.std.proofs.Common.{sym}
use Rattle.dictionary.specs.Facts.{within_rows}
use Rattle.search_tree.proofs.Walks.{go_left, go_right, stop_here}
use Rattle.search_tree.proofs.tree.SearchTree.walk.Goals as goal

pub loop-at-preserved-in-Less : goal.loop-at-preserved-in-Less
loop-at-preserved-in-Less g c = go_left g.K.Key.order _ _ _ (within_rows c.args.self.now.long) c.args.self.now.links _ c.held-held.ensures _ _ _ c.in-Some.is _ c.index-held-i.is c.loop-at.invariant (sym c.in-Less.ensures) _ c.row.ensures

pub returns-in-Equal-clause-ends : goal.returns-in-Equal-clause-ends
returns-in-Equal-clause-ends g c = stop_here g.K.Key.order _ _ _ (within_rows c.args.self.now.long) c.args.self.now.links _ c.held-held.ensures _ _ _ c.in-Some.is _ c.index-held-i.is c.loop-at.invariant (sym c.in-Equal.ensures)

pub loop-at-preserved : goal.loop-at-preserved
loop-at-preserved g c = go_right g.K.Key.order _ _ _ (within_rows c.args.self.now.long) c.args.self.now.links _ c.held-held.ensures _ _ _ c.in-Some.is _ c.index-held-i.is c.loop-at.invariant (sym c.in-Greater.ensures) _ c.row-in-Greater.ensures
