-- Whether a block begins at a place depends only on the names from 8 places before it to 4 after it, and on a row's end only where that end is nearer. Assumes nothing.
--     Alike n m c d i j  place i of the row c of n names and place j of the row d of m names look alike: each end is equally far or out of sight of both, and the names in sight are the same
--     Local              at such places both rows begin a block, or neither does. The others are the forms of it that callers need:
--     LocalInside        where 13 names are the same, no end being nearer than those
--     LocalFront         for rows with a common front, at a place with 4 names of it after it
--     LocalEnd           for rows with a common end, at a place with 8 names of it before it
use Rattle.std.specs.Prelude.{◌≡◌, ℕ, ◌+◌, ◌-◌, ◌<◌, ◌≤◌, min}
use Rattle.cutting.specs.Rule.{begins}

pub record Alike (n m : ℕ) (c d : ℕ → ℕ) (i j : ℕ) : Type 0 where
  pub before : min i 8 ≡ min j 8
  pub after : min (n - i) 5 ≡ min (m - j) 5
  -- x is as far from i as y from j
  pub names : (x y : ℕ) → x + j ≡ y + i → i ≤ x + 8 → x ≤ i + 4 → x < n → c x ≡ d y

abbrev pub Local : Type 0
Local = (n m : ℕ) (c d : ℕ → ℕ) (i j : ℕ) → i < n → Alike n m c d i j → begins n c i ≡ begins m d j

abbrev pub LocalInside : Type 0
LocalInside =
    (n m : ℕ) (c d : ℕ → ℕ) (i j : ℕ) → i + 12 < n → j + 12 < m → ((k : ℕ) → k < 13 → c (i + k) ≡ d (j + k))
    → begins n c (i + 8) ≡ begins m d (j + 8)

abbrev pub LocalFront : Type 0
LocalFront =
    (n m : ℕ) (c d : ℕ → ℕ) (i : ℕ) → i + 4 < n → i + 4 < m → ((k : ℕ) → k ≤ i + 4 → c k ≡ d k) → begins n c i ≡ begins m d i

abbrev pub LocalEnd : Type 0
LocalEnd =
    (n m : ℕ) (c d : ℕ → ℕ) (i j t : ℕ) → 0 < t → i + 8 + t ≡ n → j + 8 + t ≡ m → ((k : ℕ) → k < 8 + t → c (i + k) ≡ d (j + k))
    → begins n c (i + 8) ≡ begins m d (j + 8)
