-- What a dictionary means, and what its calls answer and leave. Assumes nothing.
--     Meaning                   the list of keys, the capacity, the count of asks
--     finding, naming, keying   the three calls that are asks: the answer, and the whole meaning afterwards
--     Different                 no key has two numbers
-- Key n is the n-th of the list, counted from 1. Whether two keys are one is decided by their order.
use Rattle.std.specs.Prelude.{◌≡◌, ℕ, zero, suc, ◌+◌, min, cond, List, [], ◌∷◌, ◌++◌, length, Some, None, Ok, Err, Option, Result, nat_lt}
use Rattle.std.specs.declared.cmp.Ordering.{Ordering}
use Rattle.std.specs.List.{slice_get}
use Rattle.std.specs.Ordering.{is_eq}
use Rattle.dictionary.specs.Does.{Out, out}
use Rattle.dictionary.specs.declared.refusals.Full.{Full}
use Rattle.dictionary.specs.declared.refusals.Absent.{Absent}

pub record Meaning (K : Type 0) : Type 0 where
  pub keys : List K
  pub capacity : ℕ
  pub asks : ℕ

abbrev pub meaning : {K : Type 0} → List K → ℕ → ℕ → Meaning K
meaning ks c a = record { keys = ks; capacity = c; asks = a }

-- a new one, over so many rows: no keys and no asks, and a capacity of at most 16,777,216
abbrev pub most : ℕ → ℕ
most rows = min rows 16777216

abbrev pub new : {K : Type 0} → ℕ → Meaning K
new rows = meaning [] (most rows) 0

-- the refusals
abbrev pub full : ℕ → Full
full size = record { size = size }

abbrev pub absent : Absent
absent = record {}

-- one ask more; the count stops at 2^64 − 1
abbrev pub more : ℕ → ℕ
more asks = min (asks + 1) 18446744073709551615

abbrev pub asked : {K : Type 0} → Meaning K → Meaning K
asked m = meaning m.keys m.capacity (more m.asks)

-- key n of the list
abbrev pub key_of : {K : Type 0} → List K → ℕ → Option K
key_of ks zero = None
key_of ks (suc i) = slice_get ks i

-- no key has two numbers
abbrev pub Different : {K : Type 0} → List K → Type 0
Different ks = (m n : ℕ) (k : _) → key_of ks m ≡ Some k → key_of ks n ≡ Some k → m ≡ n

abbrev pub or_absent : {K : Type 0} → Option K → Result K Absent
or_absent (Some k) = Ok k
or_absent None = Err absent

-- key: key n, or Absent where n is 0 or above the size
abbrev pub keying : {K : Type 0} → ℕ → Meaning K → Out (Result K Absent) (Meaning K)
keying n m = out (or_absent (key_of m.keys n)) (asked m)

-- a key that isn't in the list is appended and gets the next number if there is room, and else refused
abbrev pub append : {K : Type 0} → K → Meaning K → Out (Result ℕ Full) (Meaning K)
append k m =
    cond (nat_lt (length m.keys) m.capacity)
    (out (Ok (length m.keys + 1)) (meaning (m.keys ++ k ∷ []) m.capacity m.asks))
    (out (Err (full (length m.keys))) m)

module _ {K : Type 0} (order : K → K → Ordering) where
  -- the number of the key, where the first of the list has the number n
  abbrev pub number_from : ℕ → List K → K → Option ℕ
  number_from n [] k = None
  number_from n (y ∷ ys) k = cond (is_eq (order k y)) (Some n) (number_from (n + 1) ys k)

  abbrev pub number_of : List K → K → Option ℕ
  number_of ks k = number_from 1 ks k

  -- find: the key's number, or nothing if it isn't in the list
  abbrev pub finding : K → Meaning K → Out (Option ℕ) (Meaning K)
  finding k m = out (number_of m.keys k) (asked m)

  abbrev pub name_at : Option ℕ → K → Meaning K → Out (Result ℕ Full) (Meaning K)
  name_at (Some n) k m = out (Ok n) m
  name_at None k m = append k m

  -- name: the number of a key that is in the list; else its new number, or Full with the size
  abbrev pub naming : K → Meaning K → Out (Result ℕ Full) (Meaning K)
  naming k m = name_at (number_of m.keys k) k (asked m)
