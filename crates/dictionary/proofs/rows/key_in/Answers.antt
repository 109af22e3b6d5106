use Rattle.std.proofs.Common.{◌≡◌, ◌-◌, ◌<◌, ◌≤◌, map, length, ap, sym, refl, ◌∙◌, subst, Ok, Some, arith}
use Rattle.std.specs.List.{slice_get, HoldsAt}
use Rattle.std.specs.Option.{SomeIff, MatchOption, option_map}
use Rattle.std.proofs.lemmas.Option.{slice_get-map, slice_get_read}
use Rattle.dictionary.proofs.Numbers.{key_there}
use Rattle.dictionary.proofs.rows.key_in.Goals as goal

pub returns : goal.returns
returns g c =
    let held = c.args.held.now in
    let row = c.in_ok-row.row.now in
    let place : (1 ≤ c.args.n) × (c.in_ok-i.i ≡ c.args.n - 1) = subst (λ o. SomeIff o (1 ≤ c.args.n) (c.args.n - 1)) c.in_ok-i.ensures.ok_part c.checked_sub.ensures in
    let there : (c.in_ok-i.i < length held) × HoldsAt (λ y. row ≡ y) held c.in_ok-i.i = subst (λ o. MatchOption o (length held ≤ c.in_ok-i.i) (λ x. (c.in_ok-i.i < length held) × HoldsAt (λ y. x.now ≡ y) held c.in_ok-i.i)) c.in_ok-row.ensures.ok_part c.get.ensures.lookup.3 in
    let at : slice_get held (c.args.n - 1) ≡ Some row = ap (slice_get held) (sym place.1) ∙ slice_get_read held (length held) c.in_ok-i.i row refl there.0 (there.1 row) in
    ap Ok c.key.ensures ∙ key_there (map g.R.Row.key held) c.args.n (g.R.Row.key row) (omega arith) (slice_get-map g.R.Row.key held (c.args.n - 1) ∙ ap (option_map g.R.Row.key) at)
