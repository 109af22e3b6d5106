use Rattle.std.proofs.Common.{◌+◌, length, drop, sym, ap, ◌∙◌, arith}
use Rattle.dictionary.specs.Meaning.{most}
use Rattle.dictionary.proofs.Held.{drop_later}
use Rattle.dictionary.proofs.Numbers.{did_old, did_append, appended, refused}
use Rattle.search_tree.proofs.Finds.{tree_number}
use Rattle.search_tree.specs.TreeMeaning.{meaning_of}
use Rattle.search_tree.proofs.calls.SearchTreeDictionary.name.Goals as goal

pub returns-in-Ok-clause-does : goal.returns-in-Ok-clause-does
returns-in-Ok-clause-does g c = did_old g.K.Key.order c.args.k.now _ _ _ _ c.one_more-self.ensures _ (tree_number c.args.self.now g.met.K.Key.same c.args.k.now _ c.in-Ok.ensures.ends)

pub returns-then-size-capacity-clause-does : goal.returns-then-size-capacity-clause-does
returns-then-size-capacity-clause-does g c =
    let keys = (meaning_of c.args.self.now).keys in
    did_append g.K.Key.order c.args.k.now keys _ _ _ c.one_more-self.ensures (tree_number c.args.self.now g.met.K.Key.same c.args.k.now _ c.in-Err.ensures.ends) _ _
    (appended c.args.k.now keys _ _ c.size-size.result (sym c.size-size.ensures) _ (most (length c.hang.new.rows)) (omega arith) c.hang.ensures.keys (ap most c.hang.auto.rows))

pub returns-else-size-capacity-clause-does : goal.returns-else-size-capacity-clause-does
returns-else-size-capacity-clause-does g c =
    let keys = (meaning_of c.args.self.now).keys in
    did_append g.K.Key.order c.args.k.now keys _ _ _ c.one_more-self.ensures (tree_number c.args.self.now g.met.K.Key.same c.args.k.now _ c.in-Err.ensures.ends) _ _
    (refused c.args.k.now keys _ _ c.size-size.result (sym c.size-size.ensures) (omega arith))

pub returns-then-size-capacity-clause-beyond : goal.returns-then-size-capacity-clause-beyond
returns-then-size-capacity-clause-beyond g c =
    let rows = c.args.self.now.rows.now in
    ap (λ m. drop (most m) c.hang.new.rows) c.hang.auto.rows ∙ drop_later (c.args.self.now.used + 1) (most (length rows)) c.hang.new.rows rows (omega arith) c.hang.ensures.rest
