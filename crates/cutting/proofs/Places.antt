-- What one place of a pass depends on: its colour and its neighbours'.
use Rattle.std.proofs.Common.{◌≡◌, ℕ, zero, suc, ◌+◌, ◌%◌, ◌<◌, ◌≤◌, ◌==◌, cond, List, length, true, false, ◌&&◌, nat_le, nat_lt, Bool, Option, Some, None, slice_get, sym, refl, ap, ◌∙◌, ⊎_elim, add-one, arith}
use Rattle.std.proofs.lemmas.Bool.Decides.{nat_tests}
use Rattle.std.proofs.lemmas.Bool.{cases_lt, lt-ltb, le-ltb}
use Rattle.std.proofs.lemmas.Option.{slice_get-get_or, slice_get_past}
use Rattle.cutting.specs.Rule.{fresh, recolour, free, left, right, reduce, summit, peak}
use Rattle.cutting.specs.Rows.{at}
use Rattle.cutting.specs.Places.{near, earlier}

-- ---- the rule at a place of a list

-- the new colour of a place of colour o, by its left neighbour's
abbrev pub recoloured_after : ℕ → Option ℕ → ℕ
recoloured_after o None = o % 2
recoloured_after o (Some l) = fresh l o

pub recolour_at : (xs : List ℕ) (i : ℕ) → recolour (at xs) i ≡ recoloured_after (at xs i) (earlier xs i)
unfolding recolour
recolour_at xs zero = refl
recolour_at xs (suc i) = refl

left_near : (xs : List ℕ) (i : ℕ) → near (earlier xs i) ≡ left (at xs) i
unfolding left
left_near xs zero = refl
left_near xs (suc i) = refl

pub right_some : (n : ℕ) (c : ℕ → ℕ) (i : ℕ) → i + 1 < n → right n c i ≡ c (i + 1)
unfolding right
right_some n c i h = rw (add-one i, lt-ltb (suc i) n (omega arith))

right_none : (n : ℕ) (c : ℕ → ℕ) (i : ℕ) → n ≤ i + 1 → right n c i ≡ 9
unfolding right
right_none n c i h = rw (le-ltb (suc i) n (omega arith))

right_near : (xs : List ℕ) (i : ℕ) → near (slice_get xs (i + 1)) ≡ right (length xs) (at xs) i
right_near xs i =
    ⊎_elim (λ (l : i + 1 < length xs). ap near (slice_get-get_or xs (i + 1) 0 l) ∙ sym (right_some (length xs) (at xs) i l))
    (λ (l : length xs ≤ i + 1). ap near (slice_get_past xs (i + 1) l) ∙ sym (right_none (length xs) (at xs) i l)) (cases_lt (i + 1) (length xs))

pub reduce_at : (xs : List ℕ) (i k : ℕ)
    → reduce (length xs) k (at xs) i ≡ cond (at xs i == k) (free (near (earlier xs i)) (near (slice_get xs (i + 1)))) (at xs i)
unfolding reduce
reduce_at xs i k = rw (left_near xs i, right_near xs i)

-- whether a block begins at place i, which has the colour o, by its neighbours' colours
abbrev pub summit_between : ℕ → ℕ → Option ℕ → Option ℕ → Bool
summit_between i o None r = true
summit_between i o (Some l) None = false
summit_between i o (Some l) (Some r) = nat_le 2 i && (nat_lt l o && nat_lt r o)

pub peak_at : (xs : List ℕ) (i : ℕ) → peak (length xs) (at xs) i ≡ summit_between i (at xs i) (earlier xs i) (slice_get xs (i + 1))
unfolding peak left
peak_at xs zero = refl
peak_at xs (suc i) =
    ⊎_elim (λ (l : suc i + 1 < length xs). rw (right_some (length xs) (at xs) (suc i) l, slice_get-get_or xs (suc i + 1) 0 l) (grind (arith, nat_tests)))
    (λ (l : length xs ≤ suc i + 1). rw (slice_get_past xs (suc i + 1) l) (grind (arith, nat_tests))) (cases_lt (suc i + 1) (length xs))

-- ---- two rows

pub right_same : (n m : ℕ) (c d : ℕ → ℕ) (i j : ℕ) → (suc i < n → suc j < m) → (suc j < m → suc i < n) → (suc i < n → c (suc i) ≡ d (suc j))
    → right n c i ≡ right m d j
unfolding right
right_same n m c d i j p q h = grind (arith, nat_tests)

pub reduce_same : (n m q : ℕ) (c d : ℕ → ℕ) (i j : ℕ) → left c i ≡ left d j → c i ≡ d j → right n c i ≡ right m d j → reduce n q c i ≡ reduce m q d j
unfolding reduce
reduce_same n m q c d i j l e r = cc

pub summit_same : (n m i j l o r : ℕ) → (i ≡ 0 → j ≡ 0) → (j ≡ 0 → i ≡ 0) → (2 ≤ i → 2 ≤ j) → (2 ≤ j → 2 ≤ i) → (i + 2 ≤ n → j + 2 ≤ m) → (j + 2 ≤ m → i + 2 ≤ n)
    → summit n i l o r ≡ summit m j l o r
summit_same n m i j l o r a b p q u v = grind (arith, nat_tests)
