-- A place of a row, as the code hands it to the rule. Assumes nothing.
--     near c             a neighbour's colour as the rule reads it: 9 where there is no neighbour
--     earlier xs i       the colour before place i of the row xs, if there is one
--     place xs i         place i of the row xs, with its colour and its neighbours'
--     Ruled f p v        v is what f says of the row of which p is a place, whichever row that is
--     Made gives old new the row new has, at each place, what is given for that place of the row old
use Rattle.std.specs.Prelude.{◌≡◌, ℕ, zero, suc, ◌+◌, ◌<◌, Option, Some, None, List, length, slice_get}
use Rattle.cutting.specs.declared.place.Place.{Place}
use Rattle.cutting.specs.Rows.{at}

abbrev pub near : Option ℕ → ℕ
near None = 9
near (Some c) = c

abbrev pub earlier : List ℕ → ℕ → Option ℕ
earlier xs zero = None
earlier xs (suc i) = Some (at xs i)

abbrev pub place : List ℕ → ℕ → Place
place xs i = record { index = i; before = earlier xs i; own = at xs i; after = slice_get xs (i + 1) }

abbrev pub Ruled : {A : Type 0} → (List ℕ → ℕ → A) → Place → A → Type 0
Ruled f p v = (xs : List ℕ) (i : ℕ) → i < length xs → p ≡ place xs i → v ≡ f xs i

pub record Made (gives : Place → ℕ → Type 0) (old new : List ℕ) : Type 0 where
  pub size : length new ≡ length old
  pub each : (i : ℕ) → i < length old → gives (place old i) (at new i)
