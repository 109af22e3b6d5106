use Rattle.trie.proofs.Meetings.{met_here, met_err}
use Rattle.dictionary.proofs.Numbers.{did_old, did_append}
use Rattle.dictionary.specs.Orders.{itself}
use Rattle.trie.proofs.calls.TrieDictionary.name.Goals as goal

pub returns-in-Ok-clause-does : goal.returns-in-Ok-clause-does
returns-in-Ok-clause-does g c =
    did_old g.K.Key.order c.args.k.now _ _ _ _ c.one_more-self.ensures _ (met_here g.met.K.Key.same c.args.self.now c.args.k.now (itself g.K.Key.order g.met.K.Key.total c.args.k.now) c.in-Ok.i c.in-Ok.ensures.1)

pub returns-in-Err-clause-does : goal.returns-in-Err-clause-does
returns-in-Err-clause-does g c =
    did_append g.K.Key.order c.args.k.now _ _ _ _ c.one_more-self.ensures
    (met_err g.met.K.Key.same c.args.self.now c.args.k.now _ c.in-Err.ensures)
    _ _ c.insert.ensures.does
