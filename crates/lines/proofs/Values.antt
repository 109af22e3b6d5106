-- The value of digits.
use Rattle.std.proofs.Common.{ℕ, ◌+◌, ◌*◌, ◌^◌, ◌<◌, ◌≤◌, arith}
use native.Mathlib.Nat.{pow-le-pow_right}

-- a digit behind i digits of the value v, where i is less than nine
pub value_fits : (v d i : ℕ) → v < 10 ^ i → d ≤ 9 → i < 9 → v * 10 + d < 2 ^ 32
value_fits v d i h digit small =
    let most : 10 ^ i ≤ 10 ^ 8 = (let below : i ≤ 8 = omega arith in let some : 0 < 10 = omega arith in pow-le-pow_right some below) in
    omega (arith, most)
