use Rattle.std.proofs.Common.{◌≡◌, ◌+◌, sym, ap, ◌∙◌, rules}
use Rattle.std.specs.Option.{option_map}
use Rattle.trie.proofs.Meetings.{met}
use Rattle.dictionary.proofs.Numbers.{did_find}
use Rattle.dictionary.specs.Orders.{itself}
use Rattle.trie.proofs.calls.TrieDictionary.find.Goals as goal

pub returns-clause-does : goal.returns-clause-does
returns-clause-does g c =
    let next : c.map.result ≡ option_map (λ i. i + 1) c.ok.result = search rules in
    did_find g.K.Key.order c.args.k.now _ _ _ _ c.one_more-self.ensures _ (met g.met.K.Key.same c.args.self.now c.args.k.now (itself g.K.Key.order g.met.K.Key.total c.args.k.now) c.look.result c.look.ensures ∙ ap (option_map (λ i. i + 1)) (sym c.ok.ensures.value) ∙ sym next)
