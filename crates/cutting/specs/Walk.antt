-- A walk along a row and its marks, block by block. Assumes nothing.
--     flagged marks k    does a block begin at k, as the marks say? Any byte but 0 says so, and a byte that is not there does not
--     onward row marks s the blocks from place s on, as the marks say
--     Handed row marks s e names      the part of the row from s to e, its names `names`, is the first of the blocks from s on; the others go on from e
--     WalkBegins         with the marks of the rule, the blocks from place 0 on are the blocks of the row
--     WalkEnds           past the row there are none
use Rattle.std.specs.Prelude.{◌≡◌, ℕ, ◌<◌, ◌≤◌, Bool, true, false, not, ◌⊎◌, List, [], ◌∷◌, length, drop, ◌==◌}
use Rattle.std.specs.List.{between}
use Rattle.cutting.specs.Rows.{at, Marks}
use Rattle.cutting.specs.Blocks.{parted, blocks}

abbrev pub flagged : List ℕ → ℕ → Bool
flagged marks k = not (at marks k == 0)

unfoldable pub onward : List ℕ → List ℕ → ℕ → List (List ℕ)
onward row marks s = parted (flagged marks) s (drop s row)

-- the first i marks are zeros
abbrev pub Zeros : List ℕ → ℕ → Type 0
Zeros marks i = (k : ℕ) → k < i → at marks k ≡ 0

-- the block that begins at s, in a row of n names, ends before e
pub record Stop (marks : List ℕ) (s n e : ℕ) : Type 0 where
  pub later : s < e
  pub within : e ≤ n
  pub inside : (k : ℕ) → s < k → k < e → flagged marks k ≡ false
  pub ends : (e ≡ n) ⊎ (flagged marks e ≡ true)

pub record Handed (row marks : List ℕ) (s e : ℕ) (names : List ℕ) : Type 0 where
  pub later : s < e
  pub within : e ≤ length row
  pub part : names ≡ between s e row
  pub first : onward row marks s ≡ names ∷ onward row marks e

abbrev pub WalkBegins : Type 0
WalkBegins = (row marks : List ℕ) → Marks row marks → onward row marks 0 ≡ blocks row

abbrev pub WalkEnds : Type 0
WalkEnds = (row marks : List ℕ) (s : ℕ) → length row ≤ s → onward row marks s ≡ []
