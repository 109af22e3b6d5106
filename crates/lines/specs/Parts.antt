-- A list of bytes cut at each of some byte. Assumes nothing.
--     parts b bs            the parts between the bytes b: one more than there are such bytes
--     CutAt b bs x y        x stands before the first byte b, and y behind it
use Rattle.std.specs.Prelude.{◌≡◌, ℕ, ◌+◌, List, ◌∷◌, ◌++◌, length, ◌==◌}
use Rattle.std.specs.List.{slice_split}

abbrev pub parts : ℕ → List ℕ → List (List ℕ)
parts b bs = slice_split (λ x. x == b) bs

pub record CutAt (b : ℕ) (bs front back : List ℕ) : Type 0 where
  pub cut : parts b bs ≡ front ∷ parts b back
  pub whole : bs ≡ front ++ (b ∷ back)
  pub long : length bs ≡ length front + length back + 1
