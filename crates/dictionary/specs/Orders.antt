-- Orders of keys, from std's total orders. Assumes nothing.
use Rattle.std.specs.Prelude.{◌≡◌, ℕ, ◌<◌, List, [], ◌∷◌, refl}
use Rattle.std.specs.declared.cmp.Ordering.TheVariants.{Less, Equal, Greater}
use Rattle.std.specs.declared.cmp.Ordering.{Ordering}
use Rattle.std.proofs.Common.{ap, subst, true≢false}
use Rattle.std.specs.Cmp.{IsTotalOrder, ranks, tied_itself}
use Rattle.std.specs.Ordering.{MatchOrdering, is_lt, is_gt, ordering_then, nat_cmp}
use Rattle.std.specs.Cmp.Lexicographic.{slice_cmp}

-- numbers that the order of numbers calls equal are the same
pub same_number : (x y : ℕ) → nat_cmp x y ≡ Equal → x ≡ y
same_number x y e = subst (λ o. MatchOrdering o (x < y) (x ≡ y) (y < x)) e (ranks x y)

-- an order with the laws of a key type says equal of a value and itself
pub itself : {K : Type 0} (order : K → K → Ordering) → IsTotalOrder order → (x : K) → order x x ≡ Equal
itself order t x = tied_itself t x

-- an order of the parts that a value has
pub by_parts : {K P : Type 0} (parts : K → P) {R : P → P → Ordering} (t : IsTotalOrder R) → IsTotalOrder (λ (x y : K). R (parts x) (parts y))
by_parts parts t = record { antisymm = λ x y. t.antisymm (parts x) (parts y); trans = λ x y z. t.trans (parts x) (parts y) (parts z); congr = λ x y z. t.congr (parts x) (parts y) (parts z) }

-- of two answers in turn, both are equal if the whole is
pub both_equal : (a b : Ordering) → ordering_then a b ≡ Equal → (a ≡ Equal) × (b ≡ Equal)
both_equal Less b h = absurd (true≢false (ap is_lt h))
both_equal Equal b h = (refl, h)
both_equal Greater b h = absurd (true≢false (ap is_gt h))

-- lists that the order of lists calls equal are the same
pub same_list : (xs ys : List ℕ) → slice_cmp nat_cmp xs ys ≡ Equal → xs ≡ ys
same_list [] [] h = refl
same_list [] (y ∷ ys) h = absurd (true≢false (ap is_lt h))
same_list (x ∷ xs) [] h = absurd (true≢false (ap is_gt h))
same_list (x ∷ xs) (y ∷ ys) h =
    let p = both_equal (nat_cmp x y) (slice_cmp nat_cmp xs ys) h in
    λ i. same_number x y p.0 i ∷ same_list xs ys p.1 i
