-- Whether a block begins at a place depends only on the names near it.
use Rattle.std.proofs.Common.{◌≡◌, ℕ, zero, suc, ◌+◌, ◌-◌, ◌%◌, ◌<◌, ◌≤◌, min, refl, ap, ◌∙◌, ap₂, arith}
use Rattle.cutting.specs.Rule.{fresh, recolour, left, right, reduce, summit, fourfold, colours, peak, begins}
use Rattle.cutting.specs.Locality.{Local, LocalInside, LocalFront, LocalEnd}
use Rattle.cutting.proofs.Places.{right_same, reduce_same, summit_same}

-- seen from i and from j, the rows agree from 8 - p places before to q - 8 places after
abbrev Agree : ℕ → ℕ → ℕ → (ℕ → ℕ) → (ℕ → ℕ) → ℕ → ℕ → Type 0
Agree n i j c d p q = (x y : ℕ) → x + j ≡ y + i → i + p ≤ x + 8 → x + 8 ≤ i + q → x < n → c x ≡ d y

module _ (n m i j : ℕ) (inside : i < n) (before : min i 8 ≡ min j 8) (after : min (n - i) 5 ≡ min (m - j) 5) where
  -- a recolouring looks at one place to the left
  recolour_agree : (c d : ℕ → ℕ) (p q : ℕ) → Agree n i j c d p q → Agree n i j (recolour c) (recolour d) (suc p) q
  unfolding recolour
  recolour_agree c d p q h zero zero e l u s = ap (λ v. v % 2) (h 0 0 e (omega arith) u s)
  recolour_agree c d p q h zero (suc y) e l u s = absurd (omega arith)
  recolour_agree c d p q h (suc x) zero e l u s = absurd (omega arith)
  recolour_agree c d p q h (suc x) (suc y) e l u s =
      ap₂ fresh (h x y (omega arith) (omega arith) (omega arith) (omega arith)) (h (suc x) (suc y) e (omega arith) u s)

  left_agree : (c d : ℕ → ℕ) (p q : ℕ) → Agree n i j c d p q → Agree n i j (left c) (left d) (suc p) q
  unfolding left
  left_agree c d p q h zero zero e l u s = refl
  left_agree c d p q h zero (suc y) e l u s = absurd (omega arith)
  left_agree c d p q h (suc x) zero e l u s = absurd (omega arith)
  left_agree c d p q h (suc x) (suc y) e l u s = h x y (omega arith) (omega arith) (omega arith) (omega arith)

  right_agree : (c d : ℕ → ℕ) (p q : ℕ) → q ≤ 11 → Agree n i j c d p (suc q) → Agree n i j (right n c) (right m d) p q
  right_agree c d p q b h x y e l u s =
      right_same n m c d x y (λ z. omega arith) (λ z. omega arith) (λ z. h (suc x) (suc y) (omega arith) (omega arith) (omega arith) z)

  -- a reduction looks at one place to either side
  reduce_agree : (k : ℕ) (c d : ℕ → ℕ) (p q : ℕ) → q ≤ 11 → Agree n i j c d p (suc q) → Agree n i j (reduce n k c) (reduce m k d) (suc p) q
  reduce_agree k c d p q b h x y e l u s =
      reduce_same n m k c d x y (left_agree c d p (suc q) h x y e l (omega arith) s) (h x y e (omega arith) (omega arith) s)
      (right_agree c d p q b h x y e (omega arith) u s)

  colours_agree : (c d : ℕ → ℕ) → Agree n i j c d 0 12 → Agree n i j (colours n c) (colours m d) 7 9
  unfolding fourfold colours
  colours_agree c d h =
      reduce_agree 3 _ _ 6 9 (omega arith) (reduce_agree 4 _ _ 5 10 (omega arith) (reduce_agree 5 _ _ 4 11 (omega arith)
      (recolour_agree _ _ 3 12 (recolour_agree _ _ 2 12 (recolour_agree _ _ 1 12 (recolour_agree c d 0 12 h))))))

  -- and so does a peak
  peak_agree : (c d : ℕ → ℕ) → Agree n i j c d 7 9 → peak n c i ≡ peak m d j
  unfolding peak
  peak_agree c d h =
      let l : left c i ≡ left d j = left_agree c d 7 9 h i j (omega arith) (omega arith) (omega arith) inside in
      let o : c i ≡ d j = h i j (omega arith) (omega arith) (omega arith) inside in
      let r : right n c i ≡ right m d j = right_agree c d 7 8 (omega arith) h i j (omega arith) (omega arith) (omega arith) inside in
      let s : summit n i (left d j) (d j) (right m d j) ≡ summit m j (left d j) (d j) (right m d j) =
      summit_same n m i j (left d j) (d j) (right m d j) (λ z. omega arith) (λ z. omega arith) (λ z. omega arith) (λ z. omega arith) (λ z. omega arith) (λ z. omega arith) in
      rw (l, o, r) s

pub local : Local
unfolding begins
local n m c d i j l a =
    peak_agree n m i j l a.before a.after (colours n c) (colours m d)
    (colours_agree n m i j l a.before a.after c d (λ x y e p q s. a.names x y e (omega arith) (omega arith) s))

-- ---- the forms that callers need

pub local_inside : LocalInside
local_inside n m c d i j p q h =
    local n m c d (i + 8) (j + 8) (omega arith) (record {
      before = omega arith;
      after = omega arith;
      names = λ x y e l u s.
          let cx : c x ≡ c (i + (x - i)) = ap c (omega arith) in
          let dy : d (j + (x - i)) ≡ d y = ap d (omega arith) in
          cx ∙ h (x - i) (omega arith) ∙ dy;
    })

pub local_front : LocalFront
local_front n m c d i p q h =
    local n m c d i i (omega arith) (record {
      before = refl;
      after = omega arith;
      names = λ x y e l u s. h x u ∙ ap d (omega arith);
    })

pub local_end : LocalEnd
local_end n m c d i j t z p q h =
    local n m c d (i + 8) (j + 8) (omega arith) (record {
      before = omega arith;
      after = omega arith;
      names = λ x y e l u s.
          let cx : c x ≡ c (i + (x - i)) = ap c (omega arith) in
          let dy : d (j + (x - i)) ≡ d y = ap d (omega arith) in
          cx ∙ h (x - i) (omega arith) ∙ dy;
    })
