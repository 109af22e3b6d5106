-- A crit-bit trie over rows. Row i, counted from 0, is leaf i and, but for the first, inner node i. As a number, a link to
-- a leaf is its row, below 2 ^ 32, and one to an inner node is 2 ^ 32 more than its row. An inner node tests one bit: on
-- its left (false) lie the keys that have it 0, on its right (true) those that have it 1. Assumes nothing.
--     Under     a leaf lies under a link
--     Ends      where the walk for some bits ends
--     Good      a link to a leaf, or to an inner node that tests a late enough bit
--     Node      what an inner node says of the leaves under it
--     Sorted    all nodes do, and each leaf lies under the root
--     Sound     the same of rows, as the fact that a ghost field holds
use Rattle.std.specs.Prelude.{◌≡◌, ℕ, ◌+◌, ◌-◌, ◌<◌, ◌≤◌, Bool, true, false, if◌then◌else◌, nat_lt, List, [], map, Some, None, Ok, Err, Option, Result, slice_index_or}
use Rattle.std.specs.List.{slice_get}
use Rattle.trie.specs.Bits.{bit, number, PartAt}
use Rattle.dictionary.specs.Rows.{held, column}
use Rattle.trie.specs.declared.row.TrieRow.{TrieRow}
use Rattle.trie.specs.declared.place.Place.{Place}
use Rattle.trie.specs.declared.row.Link.{Link}
use Rattle.trie.specs.declared.row.Link.TheVariants.{Leaf, Inner}
use Rattle.dictionary.specs.declared.rows.Slot.{Slot}
use Rattle.dictionary.specs.declared.rows.Slot.TheVariants.{Root, Left, Right}
use Rattle.trie.specs.declared.row.Hook.{Hook}

abbrev pub link_number : Link → ℕ
link_number (Leaf i) = i
link_number (Inner i) = i + 4294967296

-- the same of a link as a row stores it: a leaf below 2 ^ 24, else 2 ^ 24 more than an inner node
abbrev pub unpacked : ℕ → ℕ
unpacked s = if nat_lt s 16777216 then s else s - 16777216 + 4294967296

-- a link to one of 2 ^ 24 rows, which a row can store
abbrev pub Fits : ℕ → Type 0
Fits l = (l < 4294967296 → l < 16777216) × (4294967296 ≤ l → l - 4294967296 < 16777216)

-- a link to one of n rows, and to an inner node only if that tests the bit `low` or a later one
abbrev pub Good : (ℕ → ℕ) → ℕ → ℕ → ℕ → Type 0
Good crit n low l = (l < 4294967296 → l < n) × (4294967296 ≤ l → 0 < l - 4294967296) × (4294967296 ≤ l → l - 4294967296 < n) × (4294967296 ≤ l → low ≤ crit (l - 4294967296))

-- the links of the inner nodes on one side lead to later bits
abbrev pub Goods : (ℕ → ℕ) → ℕ → (ℕ → ℕ) → Type 0
Goods crit n link = (m : ℕ) → (0 < m) × (m < n) → Good crit n (crit m + 1) (link m)

module _ (child : Bool → ℕ → ℕ) where
  -- the leaf i lies under the link
  pub data Under (i : ℕ) : ℕ → Type 0 where
    at : (l : ℕ) → l < 4294967296 → l ≡ i → Under i l
    go : (b : Bool) (l : ℕ) → 4294967296 ≤ l → Under i (child b (l - 4294967296)) → Under i l

  module _ (crit : ℕ → ℕ) where
    -- the walk for the bits x from the link ends at the leaf j
    pub data Ends (x : ℕ → Bool) (j : ℕ) : ℕ → Type 0 where
      ends_at : (l : ℕ) → l < 4294967296 → l ≡ j → Ends x j l
      ends_on : (l : ℕ) → 4294967296 ≤ l → Ends x j (child (x (crit (l - 4294967296))) (l - 4294967296)) → Ends x j l

    pub record Node (bits : ℕ → ℕ → Bool) (m : ℕ) : Type 0 where
      pub on : (b : Bool) (i : ℕ) → Under i (child b m) → bits i (crit m) ≡ b
      pub alike : (i j : ℕ) → Under i (4294967296 + m) → Under j (4294967296 + m) → (t : ℕ) → t < crit m → bits i t ≡ bits j t

    pub record Sorted (bits : ℕ → ℕ → Bool) (n root : ℕ) : Type 0 where
      pub nodes : (m : ℕ) → (0 < m) × (m < n) → Node bits m
      pub under : (i : ℕ) → i < n → Under i root

-- bit t of the key at place i
abbrev pub bits_of : {K : Type 0} → (K → List ℕ) → List K → ℕ → ℕ → Bool
bits_of spelling ks i t = bit (slice_index_or (map spelling ks) i []) t

-- Where a new inner node, which tests the bit d, can be hung on the way of the bits x.
module _ (child : Bool → ℕ → ℕ) (crit : ℕ → ℕ) (n root : ℕ) where
  module _ (x : ℕ → Bool) (d : ℕ) where
    -- the link on one side of the inner node p, which tests an earlier bit, is l, and the way leads there
    abbrev pub SideAt : Bool → ℕ → ℕ → Type 0
    SideAt b p l = (0 < p) × (p < n) × (child b p ≡ l) × (crit p < d) × (x (crit p) ≡ b)

    -- the link in the slot is l
    abbrev pub SlotAt : Slot → ℕ → Type 0
    SlotAt Root l = root ≡ l
    SlotAt (Left p) l = SideAt false p l
    SlotAt (Right p) l = SideAt true p l

  -- links that have `new` in the slot, and are as they were at the inner nodes that test earlier bits
  module _ (child' : Bool → ℕ → ℕ) (root' new : ℕ) where
    abbrev pub SideTurned : Bool → ℕ → Type 0
    SideTurned b p = (root' ≡ root) × (child' b p ≡ new) × ((c : Bool) (m : ℕ) → m < n → crit m < crit p → child' c m ≡ child c m)

    abbrev pub Turned : Slot → Type 0
    Turned Root = root' ≡ new
    Turned (Left p) = SideTurned false p
    Turned (Right p) = SideTurned true p

  -- the slot can be reached from the root
  abbrev pub Way : Slot → Type 0
  Way slot = (child' : Bool → ℕ → ℕ) (root' new i : ℕ) → Turned child' root' new slot → Under child' i new → Under child' i root'

  -- the walk for x passes the link
  abbrev pub Passes : (ℕ → Bool) → ℕ → Type 0
  Passes x l = (j : ℕ) → Ends child crit x j root → Ends child crit x j l

  -- the hook for d
  abbrev pub Hooked : (ℕ → Bool) → ℕ → Hook → Type 0
  Hooked x d h = Good crit n (d + 1) (link_number h.link) × SlotAt x d h.slot (link_number h.link) × Way h.slot × Passes x (link_number h.link)

-- the same of rows as the code has them
abbrev pub side : {K : Type 0} → Bool → TrieRow K → ℕ
side false w = unpacked w.left.0
side true w = unpacked w.right.0

module _ {K : Type 0} (rows : List (TrieRow K)) where
  abbrev pub keys : ℕ → List K
  keys n = held (λ w. w.key) rows n

  abbrev pub crits : ℕ → ℕ
  crits = column (λ w. number w.place) rows

  abbrev pub child : Bool → ℕ → ℕ
  child b = column (side b) rows

  abbrev pub Linked : ℕ → Type 0
  Linked n = Goods crits n (child false) × Goods crits n (child true)

  abbrev pub Rooted : ℕ → ℕ → Type 0
  Rooted n root = 0 < n → Good crits n 0 root

  abbrev pub InPlace : (K → List ℕ) → ℕ → ℕ → Type 0
  InPlace spelling n root = Sorted child crits (bits_of spelling (keys n)) n root

  -- truncated, since antt finds no proof that a leaf lies under the root in one way only
  abbrev pub Sound : (K → List ℕ) → ℕ → ℕ → Type 0
  Sound spelling n root = ∥ InPlace spelling n root ∥₁

  -- the walk for the key ends at one from which it first differs at the bit d
  abbrev pub PartsFrom : (K → List ℕ) → ℕ → ℕ → K → ℕ → Type 0
  PartsFrom spelling n root k d = (j : ℕ) × (j < n) × Ends child crits (bit (spelling k)) j root × PartAt (bit (spelling k)) (bits_of spelling (keys n) j) d

  -- what a look-up meets: the key itself, another key from which it first differs at a place, or an empty trie
  abbrev pub Meets : (K → List ℕ) → ℕ → ℕ → K → Result ℕ (Option Place) → Type 0
  Meets spelling n root k (Ok i) = (i < n) × (slice_get (keys n) i ≡ Some k)
  Meets spelling n root k (Err (Some p)) = PartsFrom spelling n root k (number p)
  Meets spelling n root k (Err None) = n ≡ 0
