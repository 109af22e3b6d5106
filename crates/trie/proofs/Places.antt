-- The order of places is that of their numbers. Assumes nothing.
use Rattle.std.proofs.Common.{◌≡◌, ◌<◌, ◌≤◌, Bool, Some, Ordering, Less, Equal, Greater, ◌∙◌, sym, subst, arith}
use Rattle.std.specs.Bool.{MatchBool}
use Rattle.std.specs.Cmp.{ranks}
use Rattle.std.specs.Ordering.{MatchOrdering, partial_ordering_then, is_some_and, is_gt, nat_cmp}
use Rattle.trie.specs.Bits.{number}
use Rattle.trie.specs.declared.place.Place.{Place}

module _ (p q : Place) where
  -- what the test p > q answers, by the orders of the bytes and of the bits
  abbrev test : Ordering → Ordering → Bool
  test a b = is_some_and is_gt (partial_ordering_then (Some a) (Some b))

  abbrev Stand : Bool → Type 0
  Stand r = MatchBool r (number q < number p) (number p ≤ number q)

  by_bytes : (a b : Ordering) → MatchOrdering a (p.byte < q.byte) (p.byte ≡ q.byte) (q.byte < p.byte) → MatchOrdering b (p.bit < q.bit) (p.bit ≡ q.bit) (q.bit < p.bit) → Stand (test a b)
  by_bytes Less b h k = omega (arith, p.small)
  by_bytes Greater b h k = omega (arith, q.small)
  by_bytes Equal Less h k = omega arith
  by_bytes Equal Equal h k = omega arith
  by_bytes Equal Greater h k = omega arith

  pub stand : (r r' : Bool) → r ≡ test (nat_cmp p.byte q.byte) (nat_cmp p.bit q.bit) → r ≡ r' → Stand r'
  stand r r' says is = subst Stand (sym says ∙ is) (by_bytes _ _ (ranks p.byte q.byte) (ranks p.bit q.bit))
