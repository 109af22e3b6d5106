-- Passes over lists that hold a row.
use Rattle.std.proofs.Common.{◌≡◌, ℕ, zero, suc, ◌+◌, ◌-◌, ◌%◌, ◌<◌, ◌≤◌, List, ◌++◌, length, drop, replicate, refl, ap, ◌∙◌, ap₂, zero-add, arith}
use Rattle.std.proofs.lemmas.List.FromFn.{length-map-range_with_len, get_or-map-range_with_len, fill_by_all}
use Rattle.std.proofs.lemmas.List.{get_or-append_right, get_or-drop}
use Rattle.cutting.specs.Rule.{fresh, recolour, left, right, reduce, peak, fourfold, colours, begins}
use Rattle.cutting.specs.Rows.{at, cuts, mark, Front}
use Rattle.cutting.specs.declared.place.Place.{Place}
use Rattle.cutting.specs.Places.{place, Ruled, Made}
use Rattle.cutting.specs.Passes.{listed, coloured, without, starts, marks_of}
use Rattle.cutting.proofs.Places.{right_same, reduce_same}

zeros : (n k : ℕ) → at (replicate n 0) k ≡ 0
zeros zero k = refl
zeros (suc n) zero = refl
zeros (suc n) (suc k) = zeros n k

-- past a front that was written over zeros
pub zeros_past : (n m k : ℕ) (xs : List ℕ) → length xs ≡ n → n ≤ k → at (xs ++ drop n (replicate m 0)) k ≡ 0
zeros_past n m k xs l h = get_or-append_right xs (drop n (replicate m 0)) n k 0 l h ∙ get_or-drop n (replicate m 0) (k - n) 0 ∙ zeros m (n + (k - n))

-- ---- lists made of a function

pub listed_from : (n : ℕ) (f : ℕ → ℕ) (xs : List ℕ) → length xs ≡ n → Front n xs f → xs ≡ listed n f
unfolding listed
listed_from n f xs l h = fill_by_all f xs n 0 l h

listed_length : (n : ℕ) (f : ℕ → ℕ) → length (listed n f) ≡ n
unfolding listed
listed_length n f = length-map-range_with_len f 0 n

listed_at : (n : ℕ) (f : ℕ → ℕ) → Front n (listed n f) f
unfolding listed
listed_at n f k l = get_or-map-range_with_len f 0 n k k 0 l (zero-add k)

-- a pass that gives what f says of each place
pub made_listed : (f : List ℕ → ℕ → ℕ) (gives : Place → ℕ → Type 0) → ((p : Place) (v : ℕ) → gives p v → Ruled f p v) → (old new : List ℕ) → Made gives old new
    → new ≡ listed (length old) (f old)
made_listed f gives h old new m = listed_from (length old) (f old) new m.size (λ k l. h (place old k) (at new k) (m.each k l) old k l refl)

-- ---- a pass over rows that are alike

module _ (n : ℕ) (c d : ℕ → ℕ) (h : (k : ℕ) → k < n → c k ≡ d k) where
  pub recolour_like : (k : ℕ) → k < n → recolour c k ≡ recolour d k
  unfolding recolour
  recolour_like zero l = ap (λ x. x % 2) (h 0 l)
  recolour_like (suc k) l = ap₂ fresh (h k (omega arith)) (h (suc k) l)

  left_like : (k : ℕ) → k < n → left c k ≡ left d k
  unfolding left
  left_like zero l = refl
  left_like (suc k) l = h k (omega arith)

  right_like : (k : ℕ) → right n c k ≡ right n d k
  right_like k = right_same n n c d k k (λ z. z) (λ z. z) (h (suc k))

  pub reduce_like : (q k : ℕ) → k < n → reduce n q c k ≡ reduce n q d k
  reduce_like q k l = reduce_same n n q c d k k (left_like k l) (h k l) (right_like k)

  peak_like : (k : ℕ) → k < n → peak n c k ≡ peak n d k
  unfolding peak
  peak_like k l = rw (left_like k l, h k l, right_like k)

-- ---- all passes

-- a list of n places that holds c
record Holds (n : ℕ) (c : ℕ → ℕ) (xs : List ℕ) : Type 0 where
  size : length xs ≡ n
  each : Front n xs c

-- a list of as many places as xs has, that hold a function like f
holds : (n m : ℕ) (f g : ℕ → ℕ) → m ≡ n → ((k : ℕ) → k < n → f k ≡ g k) → Holds n g (listed m f)
holds n m f g e h = record { size = listed_length m f ∙ e; each = λ k l. listed_at m f k (omega arith) ∙ h k l }

module _ (n : ℕ) (c : ℕ → ℕ) (xs : List ℕ) (h : Holds n c xs) where
  coloured_holds : Holds n (recolour c) (coloured xs)
  unfolding coloured
  coloured_holds = holds n (length xs) _ _ h.size (recolour_like n (at xs) c h.each)

  without_holds : (q : ℕ) → Holds n (reduce n q c) (without q xs)
  unfolding without
  without_holds q = holds n (length xs) _ _ h.size (λ k l. ap (λ m. reduce m q (at xs) k) h.size ∙ reduce_like n (at xs) c h.each q k l)

  starts_holds : Holds n (λ k. mark (peak n c k)) (starts xs)
  unfolding starts
  starts_holds = holds n (length xs) _ _ h.size (λ k l. ap mark (ap (λ m. peak m (at xs) k) h.size ∙ peak_like n (at xs) c h.each k l))

-- all passes together are the rule
marks_hold : (names : List ℕ) → Holds (length names) (λ k. mark (cuts names k)) (marks_of names)
unfolding fourfold colours begins
marks_hold names =
    let n = length names in
    let h0 : Holds n (at names) names = record { size = refl; each = λ k l. refl } in
    let h4 : Holds n (fourfold (at names)) (coloured (coloured (coloured (coloured names)))) =
    coloured_holds n _ _ (coloured_holds n _ _ (coloured_holds n _ _ (coloured_holds n _ _ h0))) in
    starts_holds n _ _ (without_holds n _ _ (without_holds n _ _ (without_holds n _ _ h4 5) 4) 3)

pub marks_at : (names : List ℕ) → Front (length names) (marks_of names) (λ k. mark (cuts names k))
marks_at names = (marks_hold names).each

pub marks_size : (names : List ℕ) → length (marks_of names) ≡ length names
marks_size names = (marks_hold names).size
