-- Numbers in base ten. Assumes nothing.
--     digits n      the writing of a number of 64 bits
--     Written       the rule of that writing
use Rattle.std.specs.Prelude.{◌≡◌, ℕ, zero, suc, ◌+◌, ◌/◌, ◌%◌, ◌^◌, ◌<◌, cond, List, [], ◌∷◌, ◌++◌, ◌==◌}

-- at most k digits: the writing of the tenth part, if that is not zero, and then the last digit
abbrev pub digits_in : ℕ → ℕ → List ℕ
digits_in zero n = []
digits_in (suc k) n = cond (n / 10 == 0) [] (digits_in k (n / 10)) ++ ((48 + n % 10) ∷ [])

-- a number of 64 bits has at most twenty
unfoldable pub digits : ℕ → List ℕ
digits n = digits_in 20 n

-- a number is the writing of its tenth part, if not zero, followed by its last digit
abbrev pub Written : Type 0
Written = (n : ℕ) → n < 2 ^ 64 → digits n ≡ cond (n / 10 == 0) [] (digits (n / 10)) ++ ((48 + n % 10) ∷ [])
