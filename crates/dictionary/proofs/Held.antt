-- The keys and the numbers that rows hold, and a list with one key more. Assumes nothing.
use Rattle.std.proofs.Common.{◌≡◌, ℕ, zero, suc, ◌+◌, ◌-◌, ◌<◌, ◌≤◌, ◌⊎◌, List, [], ◌∷◌, ◌++◌, map, length, get_or, take, drop, set, Some, sym, refl, ap, ◌∙◌, inl, inr, ⊎_elim, arith}
use lib.Seq.{map-set_same}
use Rattle.std.specs.List.{slice_get}
use Rattle.std.proofs.lemmas.List.{get_or-map, get_or-take, get_or-set_same, get_or-set_other, get_or_append_left, get_or_push, length-map, length-take-le, map_push, map-set, take-map, take_more_set, drop-drop}
use Rattle.dictionary.specs.Facts.{held_long}
use Rattle.dictionary.specs.Rows.{held, column}

pub nth_push : {X : Type 0} (xs : List X) (x y : X) (i : ℕ) → slice_get (xs ++ x ∷ []) i ≡ Some y → (slice_get xs i ≡ Some y) ⊎ ((i ≡ length xs) × (y ≡ x))
nth_push [] x y zero e = let same : y ≡ x = cc in inr (refl, same)
nth_push [] x y (suc i) e = let z : ◌≡◌ {A = ℕ} 0 1 = cc in absurd (omega arith)
nth_push (v ∷ vs) x y zero e = inl e
nth_push (v ∷ vs) x y (suc i) e = ⊎_elim inl (λ p. inr (ap suc p.0, p.1)) (nth_push vs x y i e)

-- a function of the keys, at an old place and at the new one
pub old_of : {X Y : Type 0} (f : X → Y) (d : Y) (xs : List X) (x : X) (i : ℕ) → i < length xs → get_or (map f (xs ++ x ∷ [])) i d ≡ get_or (map f xs) i d
old_of f d xs x i h = ap (λ l. get_or l i d) (map_push f xs x) ∙ get_or_append_left (map f xs) (f x ∷ []) d i (omega (arith, length-map xs f))

pub new_of : {X Y : Type 0} (f : X → Y) (d : Y) (xs : List X) (x : X) (i : ℕ) → length xs ≡ i → get_or (map f (xs ++ x ∷ [])) i d ≡ f x
new_of f d xs x i h = ap (λ l. get_or l i d) (map_push f xs x) ∙ get_or_push (map f xs) (f x) d i (length-map xs f ∙ h)

module _ {R K : Type 0} (key : R → K) where
  module _ (rows : List R) (n i : ℕ) (w : R) (long : n ≤ length rows) (h : i < n) (is : w ≡ get_or rows i w) where
    taken : get_or (held key rows n) i (key w) ≡ key w
    taken = get_or-map key (take n rows) i w (key w) (omega (arith, length-take-le n rows long)) ∙ ap key (get_or-take n rows i w h ∙ sym is)

    -- row i is w: what the key of place i has
    pub held_of : {Y : Type 0} (f : K → Y) (d : Y) → get_or (map f (held key rows n)) i d ≡ f (key w)
    held_of f d = get_or-map f (held key rows n) i (key w) d (omega (arith, held_long key rows n long)) ∙ ap f taken

  -- a row that is written where the next key belongs, and then one that is written over with its key kept
  pub held_more : (rows : List R) (n : ℕ) (w : R) → n < length rows → held key (set rows n w) (n + 1) ≡ held key rows n ++ key w ∷ []
  held_more rows n w h = ap (map key) (take_more_set rows n w h) ∙ map_push key (take n rows) w

  pub held_kept : (rows : List R) (n p : ℕ) (d v : R) → key v ≡ key (get_or rows p d) → held key (set rows p v) n ≡ held key rows n
  held_kept rows n p d v same = sym (take-map key n (set rows p v)) ∙ ap (take n) (map-set_same key rows p v d same) ∙ take-map key n rows

module _ {R : Type 0} (f : R → ℕ) where
  pub column_at : (rows : List R) (i : ℕ) (w : R) → i < length rows → w ≡ get_or rows i w → column f rows i ≡ f w
  column_at rows i w h is = get_or-map f rows i w 0 h ∙ ap f (sym is)

  pub column_same : (rows : List R) (i : ℕ) (w : R) → i < length rows → column f (set rows i w) i ≡ f w
  column_same rows i w h = ap (λ xs. get_or xs i 0) (map-set f rows i w) ∙ get_or-set_same (map f rows) i (f w) 0 (omega (arith, length-map rows f))

  pub column_other : (rows : List R) (i j : ℕ) (w : R) → (j ≡ i → ⊥) → column f (set rows i w) j ≡ column f rows j
  column_other rows i j w h = ap (λ xs. get_or xs j 0) (map-set f rows i w) ∙ get_or-set_other (map f rows) i j (f w) 0 h

  pub column_kept : (rows : List R) (p : ℕ) (d v : R) → f v ≡ f (get_or rows p d) → (j : ℕ) → column f (set rows p v) j ≡ column f rows j
  column_kept rows p d v same j = ap (λ xs. get_or xs j 0) (map-set_same f rows p v d same)

-- rows that are the same from one place on are so from a later one on
pub drop_later : {X : Type 0} (m n : ℕ) (xs ys : List X) → m ≤ n → drop m xs ≡ drop m ys → drop n xs ≡ drop n ys
drop_later m n xs ys h e =
    let from : m + (n - m) ≡ n = omega arith in
    ap (λ q. drop q xs) (sym from) ∙ sym (drop-drop (n - m) m xs) ∙ ap (drop (n - m)) e ∙ drop-drop (n - m) m ys ∙ ap (λ q. drop q ys) from
