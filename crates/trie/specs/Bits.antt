-- The bits of a spelling, counted from 0, each byte's highest first. Assumes nothing.
--     bit t of a spelling is bit t % 8 of its byte t / 8
use Rattle.std.specs.Prelude.{◌≡◌, ℕ, ◌+◌, ◌-◌, ◌*◌, ◌/◌, ◌%◌, ◌^◌, ◌<◌, Bool, List, Some, None, Option, ◌==◌, ◌≢◌, slice_index}
use Rattle.trie.specs.declared.place.Place.{Place}

abbrev pub bit_of : ℕ → ℕ → Bool
bit_of b j = b / 2 ^ (7 - j) % 2 == 1

abbrev pub bit : List ℕ → ℕ → Bool
bit bs t = bit_of (slice_index bs (t / 8)) (t % 8)

-- the place of a bit, as its number
abbrev pub number : Place → ℕ
number p = p.byte * 8 + p.bit

-- two rows of bits that agree up to the place, and differ there
abbrev pub PartAt : (ℕ → Bool) → (ℕ → Bool) → ℕ → Type 0
PartAt x y d = (x d ≢ y d) × ((t : ℕ) → t < d → x t ≡ y t)

-- the first place in which two spellings differ
abbrev pub Parting : List ℕ → List ℕ → Option Place → Type 0
Parting xs ys None = xs ≡ ys
Parting xs ys (Some p) = PartAt (bit xs) (bit ys) (number p)
