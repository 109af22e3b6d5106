-- Worked rows. Assumes nothing.
--     WorkedRows        the row 1 3 5 7 2 4 6 8 with its last colours, its marks and its blocks; any row of one, two or three names is one block
use Rattle.std.specs.Prelude.{◌≡◌, ℕ, List, [], ◌∷◌}
use Rattle.cutting.specs.Rule.{colours}
use Rattle.cutting.specs.Rows.{at, cuts, mark}
use Rattle.cutting.specs.Passes.{listed}
use Rattle.cutting.specs.Blocks.{blocks}

abbrev pub row : List ℕ
row = 1 ∷ 3 ∷ 5 ∷ 7 ∷ 2 ∷ 4 ∷ 6 ∷ 8 ∷ []

pub record WorkedRows : Type 0 where
  pub last_colours : listed 8 (colours 8 (at row)) ≡ 1 ∷ 2 ∷ 0 ∷ 1 ∷ 0 ∷ 1 ∷ 0 ∷ 2 ∷ []
  pub marks : listed 8 (λ i. mark (cuts row i)) ≡ 1 ∷ 0 ∷ 0 ∷ 1 ∷ 0 ∷ 1 ∷ 0 ∷ 0 ∷ []
  pub three_blocks : blocks row ≡ (1 ∷ 3 ∷ 5 ∷ []) ∷ (7 ∷ 2 ∷ []) ∷ (4 ∷ 6 ∷ 8 ∷ []) ∷ []
  pub no_name : blocks [] ≡ []
  pub one_name : (x : ℕ) → blocks (x ∷ []) ≡ (x ∷ []) ∷ []
  pub two_names : (x y : ℕ) → blocks (x ∷ y ∷ []) ≡ (x ∷ y ∷ []) ∷ []
  pub three_names : (x y z : ℕ) → blocks (x ∷ y ∷ z ∷ []) ≡ (x ∷ y ∷ z ∷ []) ∷ []
