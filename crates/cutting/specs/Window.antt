-- A window on a row: a part of it of `len` names, of which one is told whether the row begins with it and whether the row ends with it. Assumes nothing.
--     Part names len first last R a      the window's names are those of the row R from place a on; told first, a is 0; told last, the row ends with the window
--     Believed len first last i          the window's answer at place i is to be believed:
--                                        the row begins with the window, or 8 names stand before i in it; and the row ends with the window, or 4 names stand after i in it
--     Answer names len first last marks  the marks of the window's names as a row, then zeros; at the places to be believed they are those of every row of which the window is a part
use Rattle.std.specs.Prelude.{◌≡◌, ℕ, ◌+◌, ◌<◌, ◌≤◌, Bool, true, ◌⊎◌, List, length, take}
use Rattle.std.specs.List.{between}
use Rattle.cutting.specs.Rows.{at, cuts, mark}
use Rattle.cutting.specs.Blocks.{parted}
use Rattle.cutting.specs.Walk.{flagged}

pub record Part (names : List ℕ) (len : ℕ) (first last : Bool) (R : List ℕ) (a : ℕ) : Type 0 where
  pub within : a + len ≤ length R
  pub same : (k : ℕ) → k < len → at names k ≡ at R (a + k)
  pub from_first : first ≡ true → a ≡ 0
  pub to_last : last ≡ true → a + len ≡ length R

abbrev pub Believed : ℕ → Bool → Bool → ℕ → Type 0
Believed len first last i = (i < len) × ((first ≡ true) ⊎ (8 ≤ i)) × ((last ≡ true) ⊎ (i + 4 < len))

pub record Answer (names : List ℕ) (len : ℕ) (first last : Bool) (marks : List ℕ) : Type 0 where
  pub own : (k : ℕ) → k < len → at marks k ≡ mark (cuts (take len names) k)
  pub past : (k : ℕ) → len ≤ k → at marks k ≡ 0
  pub row : (R : List ℕ) (a : ℕ) → Part names len first last R a → (i : ℕ) → Believed len first last i → at marks i ≡ mark (cuts R (a + i))
  -- so the blocks between two places are the row's, if each place between is to be believed
  pub blocks : (R : List ℕ) (a : ℕ) → Part names len first last R a → (i j : ℕ) → i ≤ j → j ≤ len → ((k : ℕ) → i < k → k < j → Believed len first last k)
      → parted (flagged marks) i (between i j names) ≡ parted (cuts R) (a + i) (between (a + i) (a + j) R)
