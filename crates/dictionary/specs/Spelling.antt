-- Numbers of 32 bits in a spelling. Assumes nothing.
--     four      the four bytes of a number, the highest first. In a number past 32 bits the first is no byte, so that `four` tells all numbers apart
use Rattle.std.specs.Prelude.{ℕ, ◌/◌, ◌%◌, List, [], ◌∷◌}

abbrev pub four : ℕ → List ℕ
four n = n / 16777216 ∷ n / 65536 % 256 ∷ n / 256 % 256 ∷ n % 256 ∷ []
