-- Neighbours keep apart, and colours become few.
use Rattle.std.proofs.Common.{◌≡◌, ℕ, zero, suc, ◌-◌, ◌*◌, ◌^◌, ◌<◌, ◌≤◌, cond, eqb, ◌≢◌, ap, ◌∙◌, add-one, arith}
use Rattle.std.proofs.lemmas.Bool.Decides.{nat_tests}
use Rattle.cutting.specs.Rule.{recolour, free, left, right, reduce, fourfold, colours}
use Rattle.cutting.specs.Rows.{Apart, AtMost}
use Rattle.cutting.specs.Colours.{ColoursApart}
use Rattle.cutting.proofs.Places.{right_some}
use Rattle.cutting.proofs.Bits.{fresh_lt, fresh_apart, first_apart}

recolour_apart : (m n : ℕ) (c : ℕ → ℕ) → m < 2 ^ 32 → Apart n c → AtMost m n c → Apart n (recolour c)
unfolding recolour
recolour_apart m n c l a b zero h =
    let p : c 0 < 2 ^ 32 = omega (arith, b 0 (omega arith)) in
    let q : c 1 < 2 ^ 32 = omega (arith, b 1 h) in
    first_apart (c 0) (c 1) p q (a 0 h)
recolour_apart m n c l a b (suc i) h =
    let p : c (suc i) < 2 ^ 32 = omega (arith, b (suc i) (omega arith)) in
    let q : c (suc (suc i)) < 2 ^ 32 = omega (arith, b (suc (suc i)) h) in
    fresh_apart (c i) (c (suc i)) (c (suc (suc i))) p q (a (suc i) h)

-- colours of k bits become colours below 2 k
recolour_most : (k m n : ℕ) (c : ℕ → ℕ) → 0 < k → k ≤ 32 → m < 2 ^ k → Apart n c → AtMost m n c → AtMost (2 * k - 1) n (recolour c)
unfolding recolour
recolour_most k m n c z l e a b zero h = omega arith
recolour_most k m n c z l e a b (suc i) h =
    let p : c i < 2 ^ k = omega (arith, b i (omega arith)) in
    let q : c (suc i) < 2 ^ k = omega (arith, b (suc i) h) in
    omega (arith, fresh_lt k (c i) (c (suc i)) l p q (a i h))

free_lt : (a b : ℕ) → free a b < 3
free_lt a b = grind (arith, nat_tests)

free_left : (a b : ℕ) → free a b ≢ a
free_left a b = grind (arith, nat_tests)

free_right : (a b : ℕ) → free a b ≢ b
free_right a b = grind (arith, nat_tests)

reduce_most : (k n : ℕ) (c : ℕ → ℕ) → 2 ≤ k → AtMost (suc k) n c → AtMost k n (reduce n (suc k) c)
unfolding reduce
reduce_most k n c l b i h =
    let f = free_lt (left c i) (right n c i) in
    let u = b i h in
    grind (arith, nat_tests)

kept_apart : (a b k f g : ℕ) → a ≢ b → f ≢ b → g ≢ a → cond (eqb a k) f a ≢ cond (eqb b k) g b
kept_apart a b k f g ne p q = grind (arith, nat_tests)

reduce_apart : (k n : ℕ) (c : ℕ → ℕ) → Apart n c → Apart n (reduce n k c)
unfolding reduce left
reduce_apart k n c a i h =
    let next : right n c i ≡ c (suc i) = right_some n c i (omega arith) ∙ ap c (add-one i) in
    let own : free (left c i) (right n c i) ≢ c (suc i) = rw next (free_right (left c i) (c (suc i))) in
    kept_apart (c i) (c (suc i)) k (free (left c i) (right n c i)) (free (c i) (right n c (suc i))) (a i h) own (free_left (c i) (right n c (suc i)))

-- 25 bits, 6 bits, 4 bits, 3 bits, then six colours, and one less with each reduction
pub colours_apart : ColoursApart
unfolding fourfold colours
colours_apart n c a b =
    let a1 : Apart n (recolour c) = recolour_apart 16777216 n c (omega arith) a b in
    let b1 : AtMost 49 n (recolour c) = recolour_most 25 16777216 n c (omega arith) (omega arith) (omega arith) a b in
    let a2 : Apart n (recolour (recolour c)) = recolour_apart 49 n _ (omega arith) a1 b1 in
    let b2 : AtMost 11 n (recolour (recolour c)) = recolour_most 6 49 n _ (omega arith) (omega arith) (omega arith) a1 b1 in
    let a3 : Apart n (recolour (recolour (recolour c))) = recolour_apart 11 n _ (omega arith) a2 b2 in
    let b3 : AtMost 7 n (recolour (recolour (recolour c))) = recolour_most 4 11 n _ (omega arith) (omega arith) (omega arith) a2 b2 in
    let a4 : Apart n (fourfold c) = recolour_apart 7 n _ (omega arith) a3 b3 in
    let b4 : AtMost 5 n (fourfold c) = recolour_most 3 7 n _ (omega arith) (omega arith) (omega arith) a3 b3 in
    let a5 : Apart n (reduce n 5 (fourfold c)) = reduce_apart 5 n _ a4 in
    let b5 : AtMost 4 n (reduce n 5 (fourfold c)) = reduce_most 4 n _ (omega arith) b4 in
    let a6 : Apart n (reduce n 4 (reduce n 5 (fourfold c))) = reduce_apart 4 n _ a5 in
    let b6 : AtMost 3 n (reduce n 4 (reduce n 5 (fourfold c))) = reduce_most 3 n _ (omega arith) b5 in
    record {
      once = a1;
      twice = a2;
      thrice = a3;
      four_times = a4;
      six_colours = b4;
      without_5 = a5;
      without_4 = a6;
      last = reduce_apart 3 n _ a6;
      three_colours = reduce_most 2 n _ (omega arith) b6;
    }
