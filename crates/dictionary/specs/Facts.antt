-- What every make owes as a dictionary, shown from its rows: here, since ghost members cite it. Assumes nothing.
--     different_from    where no key stands at two places, none has two numbers
--     held_within       the keys do not exceed the capacity, nor that its limit (most_small)
use Rattle.std.specs.Prelude.{◌≡◌, ℕ, zero, suc, ◌<◌, ◌≤◌, List, [], ◌∷◌, length, take, Some}
use Rattle.std.proofs.Common.{ap, ◌∙◌, arith, length-take-le}
use Rattle.std.proofs.lemmas.List.{length-map}
use Rattle.std.specs.List.{slice_get}
use Rattle.dictionary.specs.Meaning.{most, Different}
use Rattle.dictionary.specs.Rows.{held}

pub different_from : {K : Type 0} (ks : List K) → ((i j : ℕ) (k : K) → slice_get ks i ≡ Some k → slice_get ks j ≡ Some k → i ≡ j) → Different ks
different_from ks one zero n k e e' = let z : ◌≡◌ {A = ℕ} 0 1 = cc in absurd (omega arith)
different_from ks one (suc i) zero k e e' = let z : ◌≡◌ {A = ℕ} 0 1 = cc in absurd (omega arith)
different_from ks one (suc i) (suc j) k e e' = ap suc (one i j k e e')

module _ {R K : Type 0} (key : R → K) (rows : List R) (n : ℕ) where
  pub held_long : n ≤ length rows → length (held key rows n) ≡ n
  held_long h = length-map (take n rows) key ∙ length-take-le n rows h

  pub held_within : n ≤ most (length rows) → length (held key rows n) ≤ most (length rows)
  held_within h = omega (arith, held_long (omega arith))

pub most_small : (rows : ℕ) → most rows ≤ 16777216
most_small rows = omega arith

-- a place that has a key lies within the list
pub nth_below : {X : Type 0} (xs : List X) (i : ℕ) (x : X) → slice_get xs i ≡ Some x → i < length xs
nth_below [] i x e = let z : ◌≡◌ {A = ℕ} 0 1 = cc in absurd (omega arith)
nth_below (y ∷ ys) zero x e = omega arith
nth_below (y ∷ ys) (suc i) x e = let h = nth_below ys i x e in omega arith

pub within_rows : {n rows : ℕ} → n ≤ most rows → n ≤ rows
within_rows h = omega arith
