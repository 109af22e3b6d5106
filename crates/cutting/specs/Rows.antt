-- Rows as lists, and what stands in a slice. Assumes nothing.
--     at xs i            the name at place i of the list xs
--     cuts xs i          does a block begin at place i of the row xs?
--     Apart n c          neighbours differ in the row c of n places
--     AtMost m n c       none of its colours is above m
--     Lawful xs          neighbours differ in the row xs, and each name is at most 16,777,216
--     Front n xs c       the first n places of xs hold c
--     mark b             1 where a block begins, 0 elsewhere
--     Marks names marks  the first places of `marks` have the marks of the row `names`
--     Marked names before after      `after` has them, and past the row what `before` had
use Rattle.std.specs.Prelude.{◌≡◌, ℕ, suc, ◌<◌, ◌≤◌, Bool, true, false, ◌≢◌, List, length, slice_index}
use Rattle.cutting.specs.Rule.{begins}

abbrev pub at : List ℕ → ℕ → ℕ
at xs i = slice_index xs i

abbrev pub cuts : List ℕ → ℕ → Bool
cuts xs = begins (length xs) (at xs)

abbrev pub Apart : ℕ → (ℕ → ℕ) → Type 0
Apart n c = (i : ℕ) → suc i < n → c i ≢ c (suc i)

abbrev pub AtMost : ℕ → ℕ → (ℕ → ℕ) → Type 0
AtMost m n c = (i : ℕ) → i < n → c i ≤ m

abbrev pub Lawful : List ℕ → Type 0
Lawful xs = Apart (length xs) (at xs) × AtMost 16777216 (length xs) (at xs)

abbrev pub Front : ℕ → List ℕ → (ℕ → ℕ) → Type 0
Front n xs c = (k : ℕ) → k < n → at xs k ≡ c k

abbrev pub mark : Bool → ℕ
mark true = 1
mark false = 0

abbrev pub Marks : List ℕ → List ℕ → Type 0
Marks names marks = Front (length names) marks (λ k. mark (cuts names k))

pub record Marked (names before after : List ℕ) : Type 0 where
  pub room : length names ≤ length before
  pub size : length after ≡ length before
  pub marks : Marks names after
  pub rest : (k : ℕ) → length names ≤ k → at after k ≡ at before k
