-- A search tree over rows. Here a link is a number: 0 for none, else the number of the row's key. Assumes nothing.
--     Links      each link leads on to a later row
--     walk       where the walk for a key ends: at a row with the key, or at a slot where a row for it can be hung
--     Reached    the walk for each key of the list ends at its row
use Rattle.std.specs.Prelude.{◌≡◌, ℕ, zero, suc, ◌+◌, ◌<◌, ◌≤◌, min, List, map, length, Some, None, Ok, Err, Option, Result, slice_index_or}
use Rattle.std.specs.declared.cmp.Ordering.TheVariants.{Less, Equal, Greater}
use Rattle.std.specs.declared.cmp.Ordering.{Ordering}
use Rattle.std.specs.List.{slice_get}
use Rattle.dictionary.specs.Rows.{held, column}
use Rattle.dictionary.specs.declared.rows.Slot.{Slot}
use Rattle.dictionary.specs.declared.rows.Slot.TheVariants.{Root, Left, Right}
use Rattle.search_tree.specs.declared.row.TreeRow.{TreeRow}

-- the number of a link that counts the rows from 0
abbrev pub link : Option ℕ → ℕ
link None = 0
link (Some i) = suc i

-- each link leads on to a later row, among the n that are used
abbrev pub Links : ℕ → (ℕ → ℕ) → (ℕ → ℕ) → Type 0
Links n left right = (i : ℕ) → i < n → (left i ≤ n) × (0 < left i → i + 1 < left i) × (right i ≤ n) × (0 < right i → i + 1 < right i)

-- the link to the first of n rows
abbrev pub root : ℕ → ℕ
root n = min n 1

abbrev pub pick : {X : Type 0} → Ordering → X → X → X → X
pick Less less same more = less
pick Equal less same more = same
pick Greater less same more = more

-- `turn i` is how the sought key stands to the key of row i
module _ (turn : ℕ → Ordering) (left right : ℕ → ℕ) where
  -- where the walk ends that is at the link, and came there from the slot, in so many steps or fewer: at a row, or else
  -- at a slot where a row can be hung
  abbrev pub walk : ℕ → Slot → ℕ → Result ℕ Slot
  walk steps slot zero = Err slot
  walk zero slot (suc i) = Err Root
  walk (suc steps) slot (suc i) = pick (turn i) (walk steps (Left i) (left i)) (Ok i) (walk steps (Right i) (right i))

-- the number of the key that the walk found, or 0
abbrev pub found : Result ℕ Slot → ℕ
found (Ok i) = suc i
found (Err _) = 0

module _ {K : Type 0} (order : K → K → Ordering) (ks : List K) where
  abbrev pub turns : K → ℕ → Ordering
  turns k i = slice_index_or (map (order k) ks) i Equal

  abbrev pub sought : (ℕ → ℕ) → (ℕ → ℕ) → K → Result ℕ Slot
  sought left right k = walk (turns k) left right (length ks) Root (root (length ks))

  abbrev pub Reached : (ℕ → ℕ) → (ℕ → ℕ) → Type 0
  Reached left right = (i : ℕ) (k : K) → slice_get ks i ≡ Some k → found (sought left right k) ≡ suc i

-- the same of rows as the code has them
module _ {K : Type 0} where
  abbrev pub keys : List (TreeRow K) → ℕ → List K
  keys rows n = held (λ w. w.key) rows n

  abbrev pub lefts : List (TreeRow K) → ℕ → ℕ
  lefts rows = column (λ w. w.left.0) rows

  abbrev pub rights : List (TreeRow K) → ℕ → ℕ
  rights rows = column (λ w. w.right.0) rows

  abbrev pub Linked : ℕ → List (TreeRow K) → Type 0
  Linked n rows = Links n (lefts rows) (rights rows)

  abbrev pub InOrder : (K → K → Ordering) → ℕ → List (TreeRow K) → Type 0
  InOrder order n rows = Reached order (keys rows n) (lefts rows) (rights rows)

  abbrev pub ends : (K → K → Ordering) → ℕ → List (TreeRow K) → K → Result ℕ Slot
  ends order n rows k = sought order (keys rows n) (lefts rows) (rights rows) k
