-- What holds of the colours. Assumes nothing.
--     LowestIs           `lowest` in the rule's words: the two numbers differ in that bit, and in none below it
--     EqualNeighbours    where the rule leaves a new colour open, since both neighbours are equal, it is 64
--     ColoursApart       where neighbours differ in a row of names up to 16,777,216, they differ at every stage, the colours are at most 5 after the recolourings and at most 2 in the end
use Rattle.std.specs.Prelude.{◌≡◌, ℕ, ◌^◌, ◌<◌, ◌≢◌}
use Rattle.cutting.specs.Rule.{bit, lowest, fresh, recolour, fourfold, reduce, colours}
use Rattle.cutting.specs.Rows.{Apart, AtMost}

abbrev pub LowestIs : Type 0
LowestIs =
    (x y : ℕ) → x < 2 ^ 32 → y < 2 ^ 32 → x ≢ y
    → (bit (lowest 32 x y) x ≢ bit (lowest 32 x y) y) × ((k : ℕ) → k < lowest 32 x y → bit k x ≡ bit k y)

abbrev pub EqualNeighbours : Type 0
EqualNeighbours = (x : ℕ) → x < 2 ^ 32 → fresh x x ≡ 64

-- neighbours differ, and few colours are left
pub record Stages (n : ℕ) (c : ℕ → ℕ) : Type 0 where
  pub once : Apart n (recolour c)
  pub twice : Apart n (recolour (recolour c))
  pub thrice : Apart n (recolour (recolour (recolour c)))
  pub four_times : Apart n (fourfold c)
  pub six_colours : AtMost 5 n (fourfold c)
  pub without_5 : Apart n (reduce n 5 (fourfold c))
  pub without_4 : Apart n (reduce n 4 (reduce n 5 (fourfold c)))
  pub last : Apart n (colours n c)
  pub three_colours : AtMost 2 n (colours n c)

abbrev pub ColoursApart : Type 0
ColoursApart = (n : ℕ) (c : ℕ → ℕ) → Apart n c → AtMost 16777216 n c → Stages n c
