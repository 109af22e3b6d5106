-- Every block has two to six names: by places.
use Rattle.std.proofs.Common.{◌≡◌, ℕ, zero, suc, ◌+◌, ◌-◌, ◌<◌, ◌≤◌, Bool, true, false, ◌&&◌, ◌||◌, eqb, ltb, ◌≢◌, ◌⊎◌, refl, ap, ◌∙◌, inl, inr, ⊎_elim, arith}
use Rattle.std.proofs.lemmas.Bool.Decides.{nat_tests}
use Rattle.std.proofs.lemmas.Bool.{cases_Bool, cases_eq, cases_lt, or_left, or_right, or_cases, or_parts, or_from, eq-eqb, ne_eqb, eqb-true, both_ways}
use Rattle.cutting.specs.Rule.{left, right, colours, peak, begins}
use Rattle.cutting.specs.Rows.{Apart, AtMost}
use Rattle.cutting.specs.Blocks.{BlockAt, BeginsNear}
use Rattle.cutting.proofs.Apart.{colours_apart}

-- the first place after s, and not past b, that passes a test
record First (f : ℕ → Bool) (s b : ℕ) : Type 0 where
  place : ℕ
  later : s < place
  near : place ≤ b
  passes : f place ≡ true
  none : (k : ℕ) → s < k → k < place → f k ≡ false

first : (f : ℕ → Bool) (m s b : ℕ) → s + suc m ≡ b → f b ≡ true → First f s b
first f zero s b e t = record { place = b; later = omega arith; near = omega arith; passes = t; none = λ k p q. absurd (omega arith) }
first f (suc m) s b e t = go (cases_Bool (f (suc s))) (first f m (suc s) b (omega arith) t)
  where
    go : (f (suc s) ≡ true) ⊎ (f (suc s) ≡ false) → First f (suc s) b → First f s b
    go (inl u) r = record { place = suc s; later = omega arith; near = omega arith; passes = u; none = λ k p q. absurd (omega arith) }
    go (inr u) r = record {
      place = r.place;
      later = omega (arith, r.later);
      near = r.near;
      passes = r.passes;
      none = λ k p q. ⊎_elim (λ (z : k ≡ suc s). ap f z ∙ u) (λ z. r.none k (omega arith) q) (cases_eq k (suc s));
    }

-- of six small colours in a row, with neighbours apart, one of the inner four exceeds both its neighbours
one_of_four : (a b c d e f : ℕ) → a ≤ 2 → b ≤ 2 → c ≤ 2 → d ≤ 2 → e ≤ 2 → f ≤ 2 → a ≢ b → b ≢ c → c ≢ d → d ≢ e → e ≢ f
    → ((ltb a b && ltb c b) ≡ true) ⊎ ((ltb b c && ltb d c) ≡ true) ⊎ ((ltb c d && ltb e d) ≡ true) ⊎ ((ltb d e && ltb f e) ≡ true)
one_of_four a b c d e f la lb lc ld le lf ab bc cd de ef = grind (arith, nat_tests)

-- a block ends at the end of the row, or where the next one begins
abbrev stops : ℕ → (ℕ → ℕ) → ℕ → Bool
stops n c e = eqb e n || peak n c e

stops_where : (n : ℕ) (c : ℕ → ℕ) (e : ℕ) → stops n c e ≡ true → (e ≡ n) ⊎ (peak n c e ≡ true)
stops_where n c e t = ⊎_elim (λ z. inl (eqb-true e n z)) inr (or_cases (eqb e n) (peak n c e) t)

module _ (n : ℕ) (c : ℕ → ℕ) (apart : Apart n c) (small : AtMost 2 n c) where
  peak_inside : (i : ℕ) → i + 3 < n → (ltb (c (suc i)) (c (suc (suc i))) && ltb (c (suc (suc (suc i)))) (c (suc (suc i)))) ≡ true → peak n c (suc (suc i)) ≡ true
  unfolding left right peak
  peak_inside i l h = grind (arith, nat_tests)

  near_peak : (p : ℕ) → p + 6 < n → (s : ℕ) × (p + 2 ≤ s) × (s ≤ p + 5) × (peak n c s ≡ true)
  near_peak p l =
      let p1 : ℕ = suc p in
      let p2 : ℕ = suc p1 in
      let p3 : ℕ = suc p2 in
      let p4 : ℕ = suc p3 in
      let p5 : ℕ = suc p4 in
      elim (one_of_four (c p1) (c p2) (c p3) (c p4) (c p5) (c (suc p5))
      (small _ (omega arith)) (small _ (omega arith)) (small _ (omega arith)) (small _ (omega arith)) (small _ (omega arith)) (small _ (omega arith))
      (apart _ (omega arith)) (apart _ (omega arith)) (apart _ (omega arith)) (apart _ (omega arith)) (apart _ (omega arith))) [
        | inl h ↦ (p2, omega arith, omega arith, peak_inside p (omega arith) h)
        | inr (inl h) ↦ (p3, omega arith, omega arith, peak_inside p1 (omega arith) h)
        | inr (inr (inl h)) ↦ (p4, omega arith, omega arith, peak_inside p2 (omega arith) h)
        | inr (inr (inr h)) ↦ (p5, omega arith, omega arith, peak_inside p3 (omega arith) h)
      ]

  -- at least one more place follows one where a block begins, and no block begins there
  two_places : (s : ℕ) → s < n → 2 ≤ n → peak n c s ≡ true → (s + 2 ≤ n) × (peak n c (suc s) ≡ false)
  unfolding left right peak
  two_places zero l m h = (m, refl)
  two_places (suc zero) l m h = grind arith
  two_places (suc (suc s)) l m h = grind (arith, nat_tests)

  six_places : (s : ℕ) → s + 2 ≤ n → (b : ℕ) × (s < b) × (b ≤ s + 6) × (b ≤ n) × (stops n c b ≡ true)
  six_places s h =
      ⊎_elim (λ (l : s + 6 < n). (let x = near_peak s l in (x.0, omega (arith, x.1), omega (arith, x.2), omega (arith, x.2), or_right (eqb x.0 n) (peak n c x.0) x.3)))
      (λ (l : n ≤ s + 6). (n, omega arith, l, omega arith, or_left (eqb n n) (peak n c n) (eq-eqb n n refl))) (cases_lt (s + 6) n)

  past_one : (s e : ℕ) → s + 2 ≤ n → peak n c (suc s) ≡ false → stops n c e ≡ true → e ≢ suc s
  past_one s e l h t z = both_ways (stops n c e) (ap (stops n c) z ∙ or_from (eqb (suc s) n) (peak n c (suc s)) (ne_eqb (suc s) n (omega arith)) h) t

pub begins_near : BeginsNear
unfolding begins
begins_near n c a b = let k = colours_apart n c a b in near_peak n (colours n c) k.last k.three_colours

pub block_at : BlockAt
unfolding begins
block_at n c m a b s l h =
    let k = colours_apart n c a b in
    let d = colours n c in
    let t = two_places n d k.last k.three_colours s l m h in
    let w = six_places n d k.last k.three_colours s t.0 in
    let later : s < w.0 = w.1 in
    let x = first (stops n d) (w.0 - s - 1) s w.0 (omega arith) w.4 in
    let ne : x.place ≢ suc s = past_one n d k.last k.three_colours s x.place t.0 t.1 x.passes in (
      x.place,
      record {
        ends = stops_where n d x.place x.passes;
        inside = λ k p q. (or_parts (eqb k n) (peak n d k) (x.none k p q)).1;
        within = omega (arith, x.near, w.3);
        two = omega (arith, x.later, ne);
        six = omega (arith, x.near, w.2);
      },
    )
