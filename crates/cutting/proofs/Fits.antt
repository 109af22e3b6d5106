-- Every block has two to six names: the blocks as lists.
use Rattle.std.proofs.Common.{◌≡◌, ℕ, suc, ◌+◌, ◌*◌, ◌<◌, ◌≤◌, Bool, true, false, ◌⊎◌, List, [], ◌∷◌, length, refl, ap, ◌∙◌, inl, inr, ⊎_elim, add-one, arith, length-append}
use Rattle.std.specs.List.{AllByRecursion}
use Rattle.std.proofs.lemmas.Bool.{both_ways, cases_eq, cases_order}
use Rattle.cutting.specs.Rule.{begins, peak}
use Rattle.cutting.specs.Rows.{at, Apart, AtMost}
use Rattle.cutting.specs.Blocks.{glue, parted, blocks, flat, Fit, Span, BlocksFit, BlocksHalf}
use Rattle.cutting.proofs.Six.{block_at}
use Rattle.cutting.proofs.Parts.{alone, blocks_part}

-- a block has one end
same_end : (n : ℕ) (c : ℕ → ℕ) (s e e' : ℕ) → Span n c s e → s < e' → e' ≤ n → (e' ≡ n) ⊎ (begins n c e' ≡ true)
    → ((k : ℕ) → s < k → k < e' → begins n c k ≡ false) → e' ≡ e
same_end n c s e e' b l m t h =
    ⊎_elim (λ (z : e' ≡ e). z) (λ z. absurd (⊎_elim
    (λ (lt : e' < e). ⊎_elim (λ (q : e' ≡ n). omega (arith, b.within)) (λ q. both_ways (begins n c e') (b.inside e' l lt) q) t)
    (λ (gt : e < e'). ⊎_elim (λ (q : e ≡ n). omega arith) (λ q. both_ways (begins n c e) (h e (omega (arith, b.two)) gt) q) b.ends) z))
    (cases_order e' e)

-- the blocks from place i on: the first reaches to the next place where one begins, and the others fit
record Cut (n : ℕ) (c : ℕ → ℕ) (i : ℕ) (bs : List (List ℕ)) : Type 0 where
  first : List ℕ
  others : List (List ℕ)
  is : bs ≡ first ∷ others
  some : 0 < length first
  within : i + length first ≤ n
  ends : (i + length first ≡ n) ⊎ (begins n c (i + length first) ≡ true)
  inside : (k : ℕ) → i < k → k < i + length first → begins n c k ≡ false
  fit : AllByRecursion Fit others

module _ (n : ℕ) (c : ℕ → ℕ) (l : 2 ≤ n) (apart : Apart n c) (small : AtMost 16777216 n c) where
  fits : (s : ℕ) (b : List ℕ) → begins n c s ≡ true → 0 < length b → s + length b ≤ n → (s + length b ≡ n) ⊎ (begins n c (s + length b) ≡ true)
      → ((k : ℕ) → s < k → k < s + length b → begins n c k ≡ false) → Fit b
  fits s b t p m e h =
      let x = block_at n c l apart small s (omega arith) t in
      let q : s + length b ≡ x.0 = same_end n c s x.0 (s + length b) x.1 (omega arith) m e h in
      (omega (arith, x.1.two), omega (arith, x.1.six))

  cut_from : (i : ℕ) (x : ℕ) (xs : List ℕ) → suc i + length xs ≡ n → Cut n c i (parted (begins n c) i (x ∷ xs))
  unfolding parted glue
  cut_from i x [] e = record {
    first = x ∷ [];
    others = [];
    is = alone (begins n c (suc i)) x;
    some = omega arith;
    within = omega arith;
    ends = inl (omega arith);
    inside = λ k p q. absurd (omega arith);
    fit = tt;
  }
  cut_from i x (y ∷ ys) e = go (begins n c (suc i)) refl (cut_from (suc i) y ys (omega arith))
    where
      go : (t : Bool) → begins n c (suc i) ≡ t → Cut n c (suc i) (parted (begins n c) (suc i) (y ∷ ys)) → Cut n c i (glue (begins n c (suc i)) x (parted (begins n c) (suc i) (y ∷ ys)))
      go true t r = record {
        first = x ∷ [];
        others = r.first ∷ r.others;
        is = rw t (ap (λ bs. (x ∷ []) ∷ bs) r.is);
        some = omega arith;
        within = omega arith;
        ends = inr (rw (add-one i) t);
        inside = λ k p q. absurd (omega arith);
        fit = (fits (suc i) r.first t r.some r.within r.ends r.inside, r.fit);
      }
      go false t r = record {
        first = x ∷ r.first;
        others = r.others;
        is = rw (t, r.is);
        some = omega arith;
        within = omega (arith, r.within);
        ends = (let e : i + suc (length r.first) ≡ suc i + length r.first = omega arith in rw e r.ends);
        inside = λ k p q. ⊎_elim (λ (z : k ≡ suc i). ap (begins n c) z ∙ t) (λ ne. r.inside k (omega arith) (omega arith)) (cases_eq k (suc i));
        fit = r.fit;
      }

pub blocks_fit : BlocksFit
unfolding blocks begins peak parted
blocks_fit [] l h = tt
blocks_fit (x ∷ xs) l h =
    let n = length (x ∷ xs) in
    let c = at (x ∷ xs) in
    let r = cut_from n c l h.0 h.1 0 x xs (omega arith) in
    let f : Fit r.first = fits n c l h.0 h.1 0 r.first refl r.some r.within r.ends r.inside in
    let q : AllByRecursion Fit (r.first ∷ r.others) = (f, r.fit) in
    rw r.is q

pub half_fit : (bs : List (List ℕ)) → AllByRecursion Fit bs → 2 * length bs ≤ length (flat bs)
half_fit [] h = omega arith
half_fit (b ∷ bs) h = simp length-append (omega (arith, h.0, half_fit bs h.1))

pub blocks_half : BlocksHalf
blocks_half xs l h = omega (arith, half_fit (blocks xs) (blocks_fit xs l h), ap length (blocks_part xs))
