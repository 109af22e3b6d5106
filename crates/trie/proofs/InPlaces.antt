-- That a trie is in place, without the truncation of its ghost field: each leaf lies under the root, at the end of the walk for its own bits. Assumes nothing.
use Rattle.std.proofs.Common.{◌≡◌, ℕ, zero, suc, ◌+◌, ◌-◌, ◌^◌, ◌<◌, ◌≤◌, Bool, List, [], ◌∷◌, sym, refl, subst, ⊎_elim, arith}
use Rattle.std.proofs.Math.Bool.{Bool-set}
use Rattle.std.proofs.Math.Logic.{∥∥₁_elim}
use Rattle.std.proofs.Math.Nat.{ℕ_set}
use Rattle.std.proofs.lemmas.Bool.{cases_lt}
use Rattle.trie.specs.Bits.{number}
use Rattle.trie.specs.Trie.{Under, Ends, ends_at, ends_on, Good, Goods, InPlace, Linked, Rooted, Sound, bits_of, child, crits, keys}
use Rattle.trie.specs.TrieFacts.{goods}
use Rattle.trie.specs.declared.place.Place.{Place}
use Rattle.trie.specs.declared.row.TrieRow.{TrieRow}
use Rattle.trie.proofs.Grafted.{ends_under}
use Rattle.trie.proofs.Meetings.{ends_there}

-- where tested bits are below a limit, the walk for the bits x ends
module _ (child : Bool → ℕ → ℕ) (crit : ℕ → ℕ) (n limit : ℕ) (below : (m : ℕ) → crit m < limit) (goods : (b : Bool) → Goods crit n (child b)) (x : ℕ → Bool) where
  abbrev Ending : ℕ → Type 0
  Ending l = (j : ℕ) × Ends child crit x j l

  -- in so many steps or fewer
  ending : (steps low l : ℕ) → Good crit n low l → limit ≤ steps + low → Ending l
  ending zero low l good enough = ⊎_elim (λ (leaf : l < 4294967296). (l, ends_at l leaf refl)) (λ (inner : 4294967296 ≤ l). absurd (omega (arith, good.3 inner, below (l - 4294967296)))) (cases_lt l 4294967296)
  ending (suc steps) low l good enough =
      ⊎_elim
      (λ (leaf : l < 4294967296). (l, ends_at l leaf refl))
      (λ (inner : 4294967296 ≤ l).
      let m = l - 4294967296 in
      let rest = ending steps (crit m + 1) (child (x (crit m)) m) (goods (x (crit m)) m (good.1 inner, good.2 inner)) (omega (arith, good.3 inner)) in
      (rest.0, ends_on l inner rest.1))
      (cases_lt l 4294967296)

  pub walk_ends : (l : ℕ) → Good crit n 0 l → Ending l
  walk_ends l good = ending limit 0 l good (omega arith)

place_below : (p : Place) → number p < 2 ^ 67
place_below p = omega (arith, p.small, p.within)

-- the places that rows test have 67 bits
tests_below : {K : Type 0} (rows : List (TrieRow K)) (m : ℕ) → crits rows m < 2 ^ 67
tests_below [] m = omega arith
tests_below (w ∷ rows) zero = place_below w.place
tests_below (w ∷ rows) (suc m) = tests_below rows m

module _ {K : Type 0} (spelling : K → List ℕ) (rows : List (TrieRow K)) (n root : ℕ) (links : Linked rows n) (rooted : Rooted rows n root) (sound : Sound rows spelling n root) where
  abbrev bits : ℕ → ℕ → Bool
  bits = bits_of spelling (keys rows n)

  pub in_place : InPlace rows spelling n root
  in_place = record {
    nodes = λ m h. record {
      on = λ b i u. ∥∥₁_elim sound (Bool-set _ _) (λ s. (s.nodes m h).on b i u);
      alike = λ i j u v t q. ∥∥₁_elim sound (Bool-set _ _) (λ s. (s.nodes m h).alike i j u v t q);
    };
    under = λ i h.
        let good = rooted (omega arith) in
        let end = walk_ends (child rows) (crits rows) n (2 ^ 67) (tests_below rows) (goods rows n links) (bits i) root good in
        let is : i ≡ end.0 = ∥∥₁_elim sound (ℕ_set i end.0) (λ s. ends_there (child rows) (crits rows) bits n (goods rows n links) s.nodes (bits i) i root (s.under i h) end.0 0 good (λ t. refl) end.1) in
        subst (λ j. Under (child rows) j root) (sym is) (ends_under (child rows) (crits rows) (bits i) end.0 root end.1);
  }
