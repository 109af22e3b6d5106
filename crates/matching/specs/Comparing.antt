-- Two lists compared. Assumes nothing.
--     Common xs ys n      n is the length of the longest common prefix
use Rattle.std.specs.Prelude.{◌≡◌, ℕ, ◌<◌, ◌≤◌, List, length, take, ◌≢◌, slice_index_or}

module _ {X : Type 0} where
  -- the first n elements are the same, and the lists differ there or one of them ends
  pub record Common (xs ys : List X) (n : ℕ) : Type 0 where
    pub left : n ≤ length xs
    pub right : n ≤ length ys
    pub same : take n xs ≡ take n ys
    pub longest : n < length xs → n < length ys → (d : X) → slice_index_or xs n d ≢ slice_index_or ys n d
