-- Where bytes and spellings first differ. Assumes nothing.
use Rattle.std.proofs.Common.{◌≡◌, ℕ, suc, ◌+◌, ◌-◌, ◌*◌, ◌/◌, ◌%◌, ◌^◌, ◌<◌, ◌≤◌, eqb, List, get_or, sym, ap, ◌∙◌, subst, ⊎_elim, arith, pow_mono}
use native.Mathlib.Nat.{div-eq_of_lt}
use lib.Bits.{bit_xor, xor_self, xor_zero_l, xor_zero_r, xor_assoc, xor_shr, xor_mod}
use lib.Count.{count_leading_zeros}
use Rattle.std.proofs.lemmas.Nat.{xor_lt, leading_top, div-mul-add, mod-mul-add, div_below, le-div, pow_pos}
use Rattle.std.proofs.lemmas.Bool.{cases_lt}
use Rattle.std.proofs.lemmas.Bool.Decides.{nat_tests}
use Rattle.trie.specs.Bits.{bit_of, bit, PartAt}

-- bit j of byte i of a spelling
pub bit_is : (bs : List ℕ) (i j : ℕ) → j < 8 → bit bs (i * 8 + j) ≡ bit_of (get_or bs i 0) j
bit_is bs i j h = λ q. bit_of (get_or bs (div-mul-add i 8 j h q) 0) (mod-mul-add i 8 j h q)

pub xor_equal : (a b : ℕ) → bit_xor a b ≡ 0 → a ≡ b
xor_equal a b e = sym (xor_zero_r a) ∙ ap (bit_xor a) (sym e) ∙ sym (xor_assoc a a b) ∙ ap (λ z. bit_xor z b) (xor_self a) ∙ xor_zero_l b

same_parity : (m n : ℕ) → m < 2 → n < 2 → eqb m 1 ≡ eqb n 1 → m ≡ n
same_parity m n h k e = grind (arith, nat_tests)

module _ (a b : ℕ) (some : 0 < bit_xor a b) (low : bit_xor a b < 2 ^ 8) where
  abbrev zeros : ℕ
  zeros = count_leading_zeros 8 (bit_xor a b)

  pub zeros_below : zeros < 8
  zeros_below = let t = leading_top 8 (bit_xor a b) some low in omega (arith, t.1)

  pub bits_differ : bit_of a zeros ≡ bit_of b zeros → ⊥
  bits_differ e =
      let t = leading_top 8 (bit_xor a b) some low in
      let j = t.0 in
      let at : 7 - zeros ≡ j = omega (arith, t.1) in
      let parity : a / 2 ^ j % 2 ≡ b / 2 ^ j % 2 =
      same_parity (a / 2 ^ j % 2) (b / 2 ^ j % 2) (omega arith) (omega arith) (subst (λ k. eqb (a / 2 ^ k % 2) 1 ≡ eqb (b / 2 ^ k % 2) 1) at e)
      in
      let one : bit_xor a b / 2 ^ j ≡ 1 = omega (arith, le-div 1 (bit_xor a b) (2 ^ j) (pow_pos j) (omega (arith, t.2)), div_below (bit_xor a b) (2 ^ j) 2 (pow_pos j) (omega (arith, t.3))) in
      let even : bit_xor a b / 2 ^ j % 2 ≡ 0 =
      ap (λ n. n % 2) (xor_shr a b j) ∙ xor_mod (a / 2 ^ j) (b / 2 ^ j) 1 ∙ ap (λ n. bit_xor n (b / 2 ^ j % 2)) parity ∙ xor_self (b / 2 ^ j % 2)
      in
      omega arith

  pub bits_agree : (t : ℕ) → t < zeros → bit_of a t ≡ bit_of b t
  bits_agree t h =
      let top = leading_top 8 (bit_xor a b) some low in
      let j = top.0 in
      let k = 7 - t in
      let more : suc j ≤ k = omega (arith, top.1) in
      let higher : 2 ^ suc j ≤ 2 ^ k = pow_mono {i = suc j} {j = k} more in
      let below : bit_xor a b < 2 ^ k = omega (arith, top.3) in
      let none : bit_xor a b / 2 ^ k ≡ 0 = div-eq_of_lt below in
      ap (λ n. eqb (n % 2) 1) (xor_equal (a / 2 ^ k) (b / 2 ^ k) (sym (xor_shr a b k) ∙ none))

-- two spellings that agree in the bytes before i, and whose bytes i first differ at their bit j
module _ (xs ys : List ℕ) (i j : ℕ) (low : j < 8) (before : (k : ℕ) → k < i → get_or xs k 0 ≡ get_or ys k 0) where
  pub part_at : (bit_of (get_or xs i 0) j ≡ bit_of (get_or ys i 0) j → ⊥) → ((t : ℕ) → t < j → bit_of (get_or xs i 0) t ≡ bit_of (get_or ys i 0) t) → PartAt (bit xs) (bit ys) (i * 8 + j)
  part_at apart agree = (
    λ e. apart (sym (bit_is xs i j low) ∙ e ∙ bit_is ys i j low),
    λ t h. ⊎_elim
        (λ (q : t / 8 < i). ap (λ b. bit_of b (t % 8)) (before (t / 8) q))
        (λ (q : i ≤ t / 8).
        let is : i ≡ t / 8 = omega arith in
        subst (λ m. bit_of (get_or xs m 0) (t % 8) ≡ bit_of (get_or ys m 0) (t % 8)) is (agree (t % 8) (omega arith)))
        (cases_lt (t / 8) i),
  )

-- the bytes a and b were read there, and are not the same
module _ (xs ys : List ℕ) (i a b : ℕ) (is : a ≡ get_or xs i 0) (is' : b ≡ get_or ys i 0) (small : a < 2 ^ 8) (small' : b < 2 ^ 8) (some : 0 < bit_xor a b) where
  abbrev first : ℕ → ℕ → ℕ
  first x y = count_leading_zeros 8 (bit_xor x y)

  low : bit_xor a b < 2 ^ 8
  low = xor_lt 8 a b small small'

  pub first_small : first a b < 8
  first_small = zeros_below a b some low

  pub parts : ((k : ℕ) → k < i → get_or xs k 0 ≡ get_or ys k 0) → PartAt (bit xs) (bit ys) (i * 8 + first a b)
  parts before =
      let x = get_or xs i 0 in
      let y = get_or ys i 0 in
      let some' : 0 < bit_xor x y = subst (λ n. 0 < n) (λ q. bit_xor (is q) (is' q)) some in
      let low' : bit_xor x y < 2 ^ 8 = subst (λ n. n < 2 ^ 8) (λ q. bit_xor (is q) (is' q)) low in
      subst (λ n. PartAt (bit xs) (bit ys) (i * 8 + n)) (λ q. first (sym is q) (sym is' q))
      (part_at xs ys i (first x y) (zeros_below x y some' low') before (bits_differ x y some' low') (bits_agree x y some' low'))
