-- What the first rows of a slice hold, whatever else a row has. Assumes nothing.
--     held      the keys of the first n rows
--     column    one number of each row
--     beyond    the rows beyond the capacity
use Rattle.std.specs.Prelude.{ℕ, List, map, length, take, drop, slice_index}
use Rattle.dictionary.specs.Meaning.{most}

abbrev pub held : {R K : Type 0} → (R → K) → List R → ℕ → List K
held key rows n = map key (take n rows)

abbrev pub column : {R : Type 0} → (R → ℕ) → List R → ℕ → ℕ
column f rows i = slice_index (map f rows) i

abbrev pub beyond : {R : Type 0} → List R → List R
beyond rows = drop (most (length rows)) rows
