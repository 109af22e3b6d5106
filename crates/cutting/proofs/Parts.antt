-- The blocks of a row as lists: parts of the row, one after the other.
use Rattle.std.proofs.Common.{◌≡◌, ℕ, suc, ◌+◌, ◌<◌, ◌≤◌, Bool, true, false, ◌⊎◌, List, [], ◌∷◌, ◌++◌, length, sym, refl, ap, ◌∙◌, ap₂, inl, inr, ⊎_elim, add-suc, suc-add, zero-add, add-one, arith, length-append}
use Rattle.std.proofs.lemmas.List.{append-nil}
use Rattle.std.proofs.lemmas.Bool.{both_ways, cases_lt}
use Rattle.std.proofs.lemmas.Grind.{flat_map-append}
use Rattle.cutting.specs.Rule.{peak, begins}
use Rattle.cutting.specs.Rows.{cuts}
use Rattle.cutting.specs.Blocks.{glue, parted, blocks, flat, BlocksPart, BlocksBegin}

-- ---- the parts together are the row

glue_flat : (b : Bool) (x : ℕ) (bs : List (List ℕ)) → flat (glue b x bs) ≡ x ∷ flat bs
unfolding glue
glue_flat true x bs = refl
glue_flat false x [] = refl
glue_flat false x (b ∷ bs) = refl

pub parted_flat : (f : ℕ → Bool) (i : ℕ) (xs : List ℕ) → flat (parted f i xs) ≡ xs
unfolding parted
parted_flat f i [] = refl
parted_flat f i (x ∷ xs) = glue_flat (f (suc i)) x (parted f (suc i) xs) ∙ ap (λ ys. x ∷ ys) (parted_flat f (suc i) xs)

pub blocks_part : BlocksPart
unfolding blocks
blocks_part xs = parted_flat (cuts xs) 0 xs

-- ---- two parts

pub alone : (b : Bool) (x : ℕ) → glue b x [] ≡ (x ∷ []) ∷ []
unfolding glue
alone true x = refl
alone false x = refl

glue_some : (b : Bool) (x : ℕ) (bs : List (List ℕ)) → 0 < length (glue b x bs)
unfolding glue
glue_some true x bs = omega arith
glue_some false x [] = omega arith
glue_some false x (b ∷ bs) = omega arith

glue-append : (t : Bool) (x : ℕ) (bs cs : List (List ℕ)) → (t ≡ true) ⊎ (0 < length bs) → glue t x (bs ++ cs) ≡ glue t x bs ++ cs
unfolding glue
glue-append true x bs cs h = refl
glue-append false x [] cs h = absurd (⊎_elim (λ e. both_ways false refl e) (λ l. omega arith) h)
glue-append false x (b ∷ bs) cs h = refl

-- a part that ends where a block begins is cut by itself
parted_at : (f : ℕ → Bool) (i j : ℕ) (xs ys : List ℕ) → i + length xs ≡ j → f j ≡ true → parted f i (xs ++ ys) ≡ parted f i xs ++ parted f j ys
unfolding parted
parted_at f i j [] ys e h = ap (λ k. parted f k ys) (omega arith)
parted_at f i j (x ∷ []) ys e h =
    ap (glue (f (suc i)) x) (parted_at f (suc i) j [] ys (omega arith) h)
    ∙ glue-append (f (suc i)) x [] (parted f j ys) (inl (ap f (omega arith) ∙ h))
parted_at f i j (x ∷ (y ∷ xs)) ys e h =
    ap (glue (f (suc i)) x) (parted_at f (suc i) j (y ∷ xs) ys (omega arith) h)
    ∙ glue-append (f (suc i)) x (parted f (suc i) (y ∷ xs)) (parted f j ys) (inr (glue_some (f (suc (suc i))) y (parted f (suc (suc i)) xs)))

-- and so is a part that is the last
pub parted-append : (f : ℕ → Bool) (i j : ℕ) (xs ys : List ℕ) → i + length xs ≡ j → (ys ≡ []) ⊎ (f j ≡ true) → parted f i (xs ++ ys) ≡ parted f i xs ++ parted f j ys
unfolding parted
parted-append f i j xs ys e h =
    ⊎_elim (λ (z : ys ≡ []). rw z (ap (parted f i) (append-nil xs) ∙ sym (append-nil (parted f i xs)))) (λ z. parted_at f i j xs ys e z) h

-- the blocks of a part depend on the cuts within it
pub parted_same : (f g : ℕ → Bool) (i j : ℕ) (xs : List ℕ) → ((k : ℕ) → 0 < k → k < length xs → f (i + k) ≡ g (j + k)) → parted f i xs ≡ parted g j xs
unfolding parted
parted_same f g i j [] h = refl
parted_same f g i j (x ∷ []) h = alone (f (suc i)) x ∙ sym (alone (g (suc j)) x)
parted_same f g i j (x ∷ (y ∷ ys)) h =
    ap₂ (λ b bs. glue b x bs) (simp add-one at (h 1 (omega arith) (omega arith)))
    (parted_same f g (suc i) (suc j) (y ∷ ys) (λ k p l. simp (suc-add, ← add-suc) (h (suc k) (omega arith) (omega arith))))

-- ---- the first part

whole_part : (f : ℕ → Bool) (i : ℕ) (x : ℕ) (xs : List ℕ) → ((k : ℕ) → i < k → k < i + suc (length xs) → f k ≡ false) → parted f i (x ∷ xs) ≡ (x ∷ xs) ∷ []
unfolding parted glue
whole_part f i x [] h = alone (f (suc i)) x
whole_part f i x (y ∷ ys) h =
    ap₂ (λ b bs. glue b x bs) (h (suc i) (omega arith) (omega arith)) (whole_part f (suc i) y ys (λ k p q. h k (omega arith) (omega arith)))

pub first_part : (f : ℕ → Bool) (s e : ℕ) (b ys : List ℕ) → 0 < length b → s + length b ≡ e → ((k : ℕ) → s < k → k < e → f k ≡ false) → (ys ≡ []) ⊎ (f e ≡ true)
    → parted f s (b ++ ys) ≡ b ∷ parted f e ys
first_part f s e [] ys l q h t = absurd (omega arith)
first_part f s e (x ∷ xs) ys l q h t =
    parted-append f s e (x ∷ xs) ys q t ∙ ap (λ bs. bs ++ parted f e ys) (whole_part f s x xs (λ k p r. h k p (omega arith)))

-- ---- a front of the blocks

record Fronts (f : ℕ → Bool) (i j : ℕ) (p q : List (List ℕ)) : Type 0 where
  begins : 0 < length p → 0 < length q → f j ≡ true
  front : p ≡ parted f i (flat p)
  rest : q ≡ parted f j (flat q)

module _ (f : ℕ → Bool) (i j x : ℕ) (p q : List (List ℕ)) where
  -- the first block is x alone
  single : f (suc i) ≡ true → i + length (flat ((x ∷ []) ∷ p)) ≡ j → Fronts f (suc i) j p q → Fronts f i j ((x ∷ []) ∷ p) q
  unfolding parted glue
  single t e r = record {
    begins = λ l m. ⊎_elim (λ (z : 0 < length p). r.begins z m) (λ (z : length p ≤ 0). ap f (sym e) ∙ empty p z ∙ t) (cases_lt 0 (length p));
    front = rw t (ap (λ bs. (x ∷ []) ∷ bs) r.front);
    rest = r.rest;
  }
    where
      empty : (p : List (List ℕ)) → length p ≤ 0 → f (i + length (flat ((x ∷ []) ∷ p))) ≡ f (suc i)
      empty [] z = ap f (omega arith)
      empty (b ∷ p) z = absurd (omega arith)

  -- x stands before the first block of what follows
  longer : (b : List ℕ) → f (suc i) ≡ false → i + length (flat ((x ∷ b) ∷ p)) ≡ j → Fronts f (suc i) j (b ∷ p) q → Fronts f i j ((x ∷ b) ∷ p) q
  unfolding parted glue
  longer b t e r = record {
    begins = λ l m. r.begins (omega arith) m;
    front = rw t (ap (glue false x) r.front);
    rest = r.rest;
  }

fronts : (f : ℕ → Bool) (i j : ℕ) (xs : List ℕ) (p q : List (List ℕ)) → i + length (flat p) ≡ j → parted f i xs ≡ p ++ q → Fronts f i j p q
unfolding parted glue
fronts f i j xs [] q e h = record {
  begins = λ l m. absurd (omega arith);
  front = refl;
  rest = sym h ∙ ap₂ (parted f) (omega arith) (sym (parted_flat f i xs) ∙ ap flat h);
}
fronts f i j [] (b ∷ p) q e h = absurd (omega (arith, ap length h))
fronts f i j (x ∷ xs) (b ∷ p) q e h = go (f (suc i)) (parted f (suc i) xs) refl refl (fronts f (suc i) j xs) h
  where
    go : (t : Bool) (bs : List (List ℕ)) → f (suc i) ≡ t → parted f (suc i) xs ≡ bs
        → ((p q : List (List ℕ)) → suc i + length (flat p) ≡ j → parted f (suc i) xs ≡ p ++ q → Fronts f (suc i) j p q)
        → glue t x bs ≡ b ∷ (p ++ q) → Fronts f i j (b ∷ p) q
    go true bs u v r w =
        let eb : b ≡ x ∷ [] = cc in
        let ep : parted f (suc i) xs ≡ p ++ q = cc in
        let ej : i + suc (length (flat p)) ≡ j = rw eb at e in
        rw eb (single f i j x p q u ej (r p q (omega arith) ep))
    go false [] u v r w =
        let eb : b ≡ x ∷ [] = cc in
        let ep : parted f (suc i) xs ≡ p ++ q = cc in
        let ej : i + suc (length (flat p)) ≡ j = rw eb at e in
        let s = r p q (omega arith) ep in
        let none : length p + length q ≡ 0 = omega (arith, ap length (sym v ∙ ep), length-append p q) in
        rw eb (last p (omega arith) s)
      where
        last : (p : List (List ℕ)) → length p + length q ≡ 0 → Fronts f (suc i) j p q → Fronts f i j ((x ∷ []) ∷ p) q
        last [] n s = record { begins = λ l m. absurd (omega arith); front = sym (alone (f (suc i)) x); rest = s.rest }
        last (b ∷ p) n s = absurd (omega arith)
    go false (b' ∷ bs) u v r w =
        let eb : b ≡ x ∷ b' = cc in
        let ep : parted f (suc i) xs ≡ b' ∷ (p ++ q) = cc in
        let ej : i + suc (length (flat (b' ∷ p))) ≡ j = rw eb at e in
        rw eb (longer f i j x p q b' u ej (r (b' ∷ p) q (omega arith) ep))

pub begins_first : (xs : List ℕ) → cuts xs 0 ≡ true
unfolding begins peak
begins_first xs = refl

pub blocks_begin : BlocksBegin
unfolding blocks
blocks_begin xs before after h =
    let r = fronts (cuts xs) 0 (length (flat before)) xs before after (zero-add (length (flat before))) h in
    record {
      begins = λ l. begin before r.begins l;
      front = r.front;
      rest = r.rest;
      names = sym (flat_map-append (λ b. b) before after) ∙ ap flat (sym h) ∙ parted_flat (cuts xs) 0 xs;
    }
  where
    begin : (before : List (List ℕ)) → (0 < length before → 0 < length after → cuts xs (length (flat before)) ≡ true) → 0 < length after → cuts xs (length (flat before)) ≡ true
    begin [] h l = begins_first xs
    begin (b ∷ bs) h l = h (omega arith) l
