-- The lowest differing bit by the machine's `^` and `trailing_zeros`.
use Rattle.std.proofs.Common.{◌≡◌, ℕ, zero, suc, ◌/◌, ◌%◌, ◌^◌, ◌<◌, cond, eqb, ◌≢◌, refl, ap, ◌∙◌, ap₂, one-add, arith, shr-shr}
use lib.Bits.{bit_xor, xor_shr, xor_mod}
use lib.Count.{count_trailing_zeros, under}
use Rattle.std.proofs.lemmas.Bool.{eq-eqb}
use Rattle.cutting.specs.Rule.{bit, lowest}
use Rattle.cutting.specs.Colours.{EqualNeighbours}
use Rattle.cutting.proofs.Bits.{lowest_lt}

xor_low : (p q t : ℕ) → p < 2 → q < 2 → under (bit_xor p q) t ≡ cond (eqb p q) (suc t) zero
xor_low zero zero t h k = refl
xor_low zero (suc zero) t h k = refl
xor_low (suc zero) zero t h k = refl
xor_low (suc zero) (suc zero) t h k = refl
xor_low zero (suc (suc q)) t h k = absurd (omega arith)
xor_low (suc zero) (suc (suc q)) t h k = absurd (omega arith)
xor_low (suc (suc p)) q t h k = absurd (omega arith)

pub trailing_lowest : (w x y : ℕ) → count_trailing_zeros w (bit_xor x y) ≡ lowest w x y
unfolding count_trailing_zeros lowest
trailing_lowest zero x y = refl
trailing_lowest (suc w) x y =
    ap₂ (λ m n. under m (count_trailing_zeros w n)) (xor_mod x y 1) (xor_shr x y 1)
    ∙ xor_low (x % 2) (y % 2) (count_trailing_zeros w (bit_xor (x / 2) (y / 2))) (omega arith) (omega arith)
    ∙ ap (λ t. cond (eqb (x % 2) (y % 2)) (suc t) zero) (trailing_lowest w (x / 2) (y / 2))

pub bit_is : (b x : ℕ) → bit b x ≡ x / 2 ^ b % 2
unfolding bit
bit_is zero x = ap (λ n. n % 2) (omega arith)
bit_is (suc b) x = bit_is b (x / 2) ∙ ap (λ n. n % 2) (shr-shr x 1 b ∙ ap (λ n. x / 2 ^ n) (one-add b))

lowest_same : (w x : ℕ) → lowest w x x ≡ w
unfolding lowest
lowest_same zero x = refl
lowest_same (suc w) x = rw (eq-eqb (x % 2) (x % 2) refl) (ap suc (lowest_same w (x / 2)))

pub equal_neighbours : EqualNeighbours
equal_neighbours x h = rw (lowest_same 32 x, bit_is 32 x) (omega arith)

pub trailing_lt : (x y : ℕ) → x < 2 ^ 32 → y < 2 ^ 32 → x ≢ y → count_trailing_zeros 32 (bit_xor x y) < 32
trailing_lt x y p q ne = rw (trailing_lowest 32 x y) (lowest_lt 32 32 x y (omega arith) p q ne)
