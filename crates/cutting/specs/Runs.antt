-- A row as its runs of equal names. Assumes nothing.
--     spell rs           the row that the runs rs stand for, one after the other
--     more x rs          the runs of x followed by a row whose runs are rs
--     runs xs            the longest runs of the row xs, from the left
--     Unlike x rs        the first of the runs rs, if any, has another name than x
--     Proper rs          no run is empty, and neighbours have different names
--     meet rs ss         the runs rs followed by ss: where the last name of rs is the first of ss, the two runs are one
--     RunsSpell, RunsProper, RunsUnique      the runs of a row spell it, they are proper, and no other proper runs spell it
--     RunsAppend         the runs of a row followed by another
--     Leading xs x k     exactly the first k names of xs are x
--     RunHanded row s r the run r is the first of the runs from place s on; the others go on after it
use Rattle.std.specs.Prelude.{◌≡◌, ℕ, suc, ◌+◌, ◌<◌, ◌≤◌, cond, ◌≢◌, List, [], ◌∷◌, ◌++◌, length, drop, replicate, ◌==◌}
use Rattle.std.specs.List.{flat_map}
use Rattle.cutting.specs.declared.runs.Run.{Run}
use Rattle.cutting.specs.Rows.{at}

abbrev pub spell : List Run → List ℕ
spell rs = flat_map (λ r. replicate r.times r.name) rs

unfoldable pub more : ℕ → List Run → List Run
more x [] = record { name = x; times = 1 } ∷ []
more x (r ∷ rs) = cond (x == r.name) (record { name = x; times = suc r.times } ∷ rs) (record { name = x; times = 1 } ∷ (r ∷ rs))

unfoldable pub runs : List ℕ → List Run
runs [] = []
runs (x ∷ xs) = more x (runs xs)

abbrev pub Unlike : ℕ → List Run → Type 0
Unlike x [] = Unit {0}
Unlike x (r ∷ rs) = x ≢ r.name

unfoldable pub Proper : List Run → Type 0
Proper [] = Unit {0}
Proper (r ∷ rs) = (0 < r.times) × Unlike r.name rs × Proper rs

unfoldable pub meet : List Run → List Run → List Run
meet [] ss = ss
meet (r ∷ []) [] = r ∷ []
meet (r ∷ []) (s ∷ ss) = cond (r.name == s.name) (record { name = r.name; times = r.times + s.times } ∷ ss) (r ∷ (s ∷ ss))
meet (r ∷ (r' ∷ rs)) ss = r ∷ meet (r' ∷ rs) ss

abbrev pub RunsSpell : Type 0
RunsSpell = (xs : List ℕ) → spell (runs xs) ≡ xs

abbrev pub RunsProper : Type 0
RunsProper = (xs : List ℕ) → Proper (runs xs)

abbrev pub RunsUnique : Type 0
RunsUnique = (rs : List Run) → Proper rs → runs (spell rs) ≡ rs

abbrev pub RunsAppend : Type 0
RunsAppend = (xs ys : List ℕ) → runs (xs ++ ys) ≡ meet (runs xs) (runs ys)

pub record Leading (xs : List ℕ) (x k : ℕ) : Type 0 where
  pub within : k ≤ length xs
  pub equal : (i : ℕ) → i < k → at xs i ≡ x
  pub ends : k < length xs → at xs k ≢ x

pub record RunHanded (row : List ℕ) (s : ℕ) (r : Run) : Type 0 where
  pub some : 0 < r.times
  pub within : s + r.times ≤ length row
  pub first : runs (drop s row) ≡ r ∷ runs (drop (s + r.times) row)
