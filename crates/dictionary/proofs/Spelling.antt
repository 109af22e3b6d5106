-- The four bytes of a number. Assumes nothing.
use Rattle.std.proofs.Common.{◌≡◌, ℕ, ◌/◌, ◌%◌, get_or, ap, arith}
use Rattle.dictionary.specs.Spelling.{four}

joined : (m n : ℕ) → m / 16777216 ≡ n / 16777216 → m / 65536 % 256 ≡ n / 65536 % 256 → m / 256 % 256 ≡ n / 256 % 256 → m % 256 ≡ n % 256 → m ≡ n
joined m n a b c d = omega arith

-- different numbers have different bytes
pub four_apart : (m n : ℕ) → four m ≡ four n → m ≡ n
four_apart m n e = joined m n (ap (λ l. get_or l 0 0) e) (ap (λ l. get_or l 1 0) e) (ap (λ l. get_or l 2 0) e) (ap (λ l. get_or l 3 0) e)
