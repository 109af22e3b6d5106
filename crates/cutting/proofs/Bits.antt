-- The lowest bit in which two numbers differ, and the colour made of it.
use Rattle.std.proofs.Common.{◌≡◌, ℕ, zero, suc, ◌+◌, ◌*◌, ◌/◌, ◌%◌, ◌^◌, ◌<◌, ◌≤◌, ◌≢◌, sym, ap, ◌∙◌, inl, inr, arith}
use Rattle.std.proofs.lemmas.Bool.Decides.{nat_tests, eqb_tells}
use Rattle.cutting.specs.Rule.{bit, lowest, fresh}
use Rattle.cutting.specs.Colours.{LowestIs}

-- numbers of k bits that differ, differ in one of those
pub lowest_lt : (k w x y : ℕ) → k ≤ w → x < 2 ^ k → y < 2 ^ k → x ≢ y → lowest w x y < k
unfolding lowest
lowest_lt zero w x y h p q ne = absurd (ne (omega arith))
lowest_lt (suc k) zero x y h p q ne = absurd (omega arith)
lowest_lt (suc k) (suc w) x y h p q ne =
    let ih : x / 2 ≢ y / 2 → lowest w (x / 2) (y / 2) < k = lowest_lt k w (x / 2) (y / 2) (omega arith) (omega arith) (omega arith) in
    grind (arith, nat_tests)

pub lowest_differs : (k w x y : ℕ) → k ≤ w → x < 2 ^ k → y < 2 ^ k → x ≢ y → bit (lowest w x y) x ≢ bit (lowest w x y) y
unfolding lowest bit
lowest_differs zero w x y h p q ne = absurd (ne (omega arith))
lowest_differs (suc k) zero x y h p q ne = absurd (omega arith)
lowest_differs (suc k) (suc w) x y h p q ne =
    elim (eqb_tells (x % 2) (y % 2)) [
      | inl t ↦ rw t.0 (lowest_differs k w (x / 2) (y / 2) (omega arith) (omega arith) (omega arith) (omega arith))
      | inr t ↦ rw t.0 t.1
    ]

pub bit_lt : (b x : ℕ) → bit b x < 2
unfolding bit
bit_lt zero x = omega arith
bit_lt (suc b) x = bit_lt b (x / 2)

pub fresh_lt : (k x y : ℕ) → k ≤ 32 → x < 2 ^ k → y < 2 ^ k → x ≢ y → fresh x y < 2 * k
fresh_lt k x y h p q ne = omega (arith, lowest_lt k 32 x y h p q ne, bit_lt (lowest 32 x y) y)

-- whatever stands left of x, the new colours of x and of y differ
pub fresh_apart : (w x y : ℕ) → x < 2 ^ 32 → y < 2 ^ 32 → x ≢ y → fresh w x ≢ fresh x y
fresh_apart w x y p q ne e =
    let d : bit (lowest 32 x y) x ≢ bit (lowest 32 x y) y = lowest_differs 32 32 x y (omega arith) p q ne in
    let s : lowest 32 w x ≡ lowest 32 x y = omega (arith, bit_lt (lowest 32 w x) x, bit_lt (lowest 32 x y) y) in
    d (ap (λ b. bit b x) (sym s) ∙ omega (arith, bit_lt (lowest 32 w x) x, bit_lt (lowest 32 x y) y))

-- the first place
pub first_apart : (x y : ℕ) → x < 2 ^ 32 → y < 2 ^ 32 → x ≢ y → x % 2 ≢ fresh x y
unfolding bit
first_apart x y p q ne e =
    let d : bit (lowest 32 x y) x ≢ bit (lowest 32 x y) y = lowest_differs 32 32 x y (omega arith) p q ne in
    go (lowest 32 x y) d e
  where
    go : (b : ℕ) → bit b x ≢ bit b y → x % 2 ≡ 2 * b + bit b y → ⊥
    go zero d e = d (omega arith)
    go (suc b) d e = omega arith

-- below it the bits are equal
lowest_least : (w x y k : ℕ) → k < lowest w x y → bit k x ≡ bit k y
unfolding lowest bit
lowest_least zero x y k h = absurd (omega arith)
lowest_least (suc w) x y zero h = grind (arith, nat_tests)
lowest_least (suc w) x y (suc k) h =
    elim (eqb_tells (x % 2) (y % 2)) [
      | inl t ↦ lowest_least w (x / 2) (y / 2) k (let g = rw t.0 at h in omega arith)
      | inr t ↦ absurd (let g = rw t.0 at h in omega arith)
    ]

pub lowest_is : LowestIs
lowest_is x y p q ne = (lowest_differs 32 32 x y (omega arith) p q ne, lowest_least 32 x y)
