-- The passes of the rule over a whole row, as the code makes them: each gives a new list for the old one. Assumes nothing.
--     listed n f         the first n values of f
--     coloured xs        the row xs after one recolouring
--     without k xs       after the reduction of colour k
--     starts xs          the marks of the places at which blocks begin, the last colours being xs
--     marks_of names     all passes one after the other
use Rattle.std.specs.Prelude.{ℕ, List, map, length}
use Rattle.std.specs.List.{range_with_len}
use Rattle.cutting.specs.Rule.{recolour, reduce, peak}
use Rattle.cutting.specs.Rows.{at, mark}

unfoldable pub listed : ℕ → (ℕ → ℕ) → List ℕ
listed n f = map f (range_with_len 0 n)

unfoldable pub coloured : List ℕ → List ℕ
coloured xs = listed (length xs) (recolour (at xs))

unfoldable pub without : ℕ → List ℕ → List ℕ
without k xs = listed (length xs) (reduce (length xs) k (at xs))

unfoldable pub starts : List ℕ → List ℕ
starts xs = listed (length xs) (λ i. mark (peak (length xs) (at xs) i))

abbrev pub marks_of : List ℕ → List ℕ
marks_of names = starts (without 3 (without 4 (without 5 (coloured (coloured (coloured (coloured names)))))))
