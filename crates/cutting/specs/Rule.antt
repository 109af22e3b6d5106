-- The cutting rule. Assumes nothing.
-- A row of n names is a function of the place, `c i` for i < n, and so are its colours at every stage; what a function says past the row does not matter.
--     bit b x            bit b of x; the lowest is bit 0
--     lowest w x y       the number of the lowest bit in which x and y differ, of the w lowest; w if they differ in none of those
--     fresh x y          the new colour of a place with colour y whose left neighbour has x.
--                        The rule leaves open what it is where the two are equal; here it is then that of bit 32, which is 64 for numbers of 32 bits
--     recolour c         one recolouring, of all places at once
--     free a b           the smallest of 0, 1 and 2 that is neither a nor b
--     left c i, right n c i      the neighbours' colours; 9, which is none of 0, 1 and 2, where there is no neighbour
--     reduce n k c       all places of colour k take a free colour together
--     fourfold c         the colours of the row c after four recolourings
--     colours n c        the last colours of the row c of n names, after the reductions
--     summit n i l o r   does a block begin at place i of n, which has the colour o, between l and r?
--     peak n c i         the same with the colours c
--     begins n c i       does a block begin at place i of the row c of n names?
use Rattle.std.specs.Prelude.{ℕ, zero, suc, ◌+◌, ◌*◌, ◌/◌, ◌%◌, Bool, cond, ◌&&◌, ◌||◌, ◌==◌, nat_le, nat_lt}

unfoldable pub bit : ℕ → ℕ → ℕ
bit zero x = x % 2
bit (suc b) x = bit b (x / 2)

unfoldable pub lowest : ℕ → ℕ → ℕ → ℕ
lowest zero x y = zero
lowest (suc w) x y = cond (x % 2 == y % 2) (suc (lowest w (x / 2) (y / 2))) zero

abbrev pub fresh : ℕ → ℕ → ℕ
fresh x y = 2 * lowest 32 x y + bit (lowest 32 x y) y

unfoldable pub recolour : (ℕ → ℕ) → ℕ → ℕ
recolour c zero = c zero % 2
recolour c (suc i) = fresh (c i) (c (suc i))

abbrev pub free : ℕ → ℕ → ℕ
free a b = cond (a == 0 || b == 0) (cond (a == 1 || b == 1) 2 1) 0

unfoldable pub left : (ℕ → ℕ) → ℕ → ℕ
left c zero = 9
left c (suc i) = c i

unfoldable pub right : ℕ → (ℕ → ℕ) → ℕ → ℕ
right n c i = cond (nat_lt (suc i) n) (c (suc i)) 9

unfoldable pub reduce : ℕ → ℕ → (ℕ → ℕ) → ℕ → ℕ
reduce n k c i = cond (c i == k) (free (left c i) (right n c i)) (c i)

unfoldable pub fourfold : (ℕ → ℕ) → ℕ → ℕ
fourfold c = recolour (recolour (recolour (recolour c)))

unfoldable pub colours : ℕ → (ℕ → ℕ) → ℕ → ℕ
colours n c = reduce n 3 (reduce n 4 (reduce n 5 (fourfold c)))

abbrev pub summit : ℕ → ℕ → ℕ → ℕ → ℕ → Bool
summit n i l o r = i == 0 || (nat_le 2 i && (nat_le (i + 2) n && (nat_lt l o && nat_lt r o)))

unfoldable pub peak : ℕ → (ℕ → ℕ) → ℕ → Bool
peak n c i = summit n i (left c i) (c i) (right n c i)

unfoldable pub begins : ℕ → (ℕ → ℕ) → ℕ → Bool
begins n c = peak n (colours n c)
