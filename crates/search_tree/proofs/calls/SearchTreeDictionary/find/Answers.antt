use Rattle.std.proofs.Common.{◌≡◌, ◌+◌, ◌∙◌, ap, sym, rules}
use Rattle.std.specs.Option.{option_map}
use Rattle.search_tree.proofs.Finds.{tree_number}
use Rattle.dictionary.proofs.Numbers.{did_find}
use Rattle.search_tree.proofs.calls.SearchTreeDictionary.find.Goals as goal

pub returns-clause-does : goal.returns-clause-does
returns-clause-does g c =
    let next : c.map.result ≡ option_map (λ i. i + 1) c.ok.result = search rules in
    did_find g.K.Key.order c.args.k.now _ _ _ _ c.one_more-self.ensures _ (tree_number c.args.self.now g.met.K.Key.same c.args.k.now _ c.walk.ensures.ends ∙ ap (option_map (λ i. i + 1)) (sym c.ok.ensures.value) ∙ sym next)
