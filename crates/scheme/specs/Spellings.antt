-- The laws of the composition as a key.
use Rattle.std.specs.Prelude.{◌≡◌, ℕ, suc, ◌-◌, ◌*◌, ◌/◌, ◌%◌, ◌<◌, ◌≤◌, List, [], ◌∷◌, length, take, drop, slice_index, refl}
use Rattle.std.specs.declared.cmp.Ordering.TheVariants.{Equal}
use Rattle.std.proofs.Common.{sym, ap, ◌∙◌, arith, inl, inr}
use Rattle.std.specs.List.{flat_map}
use Rattle.std.proofs.lemmas.List.{get_or_append_left, get_or-append_right, get_or_past}
use Rattle.std.proofs.lemmas.Bool.{cases_lt}
use Rattle.dictionary.specs.Spelling.{four}
use Rattle.dictionary.specs.Orders.{both_equal, same_number}
use Rattle.dictionary.proofs.Spelling.{four_apart}
use Rattle.scheme.specs.declared.composition.Composition.{Composition}
use Rattle.scheme.specs.Compositions.{in_order, numbers, spelled}
use Rattle.std.specs.Ordering.{nat_cmp}

pub same_composition : (x y : Composition) → x.kind ≡ y.kind → x.round ≡ y.round → x.length ≡ y.length → x.p1 ≡ y.p1 → x.p2 ≡ y.p2 → x.p3 ≡ y.p3 → x.p4 ≡ y.p4 → x.p5 ≡ y.p5 → x.p6 ≡ y.p6 → x ≡ y
same_composition x y k r l a b c d e f = λ i. record { kind = k i; round = r i; length = l i; p1 = a i; p2 = b i; p3 = c i; p4 = d i; p5 = e i; p6 = f i }

-- ---- the order

pub same_key : (x y : Composition) → in_order x y ≡ Equal → x ≡ y
same_key x y h =
    let k = both_equal (nat_cmp x.kind y.kind) _ h in
    let r = both_equal (nat_cmp x.round y.round) _ k.1 in
    let l = both_equal (nat_cmp x.length y.length) _ r.1 in
    let a = both_equal (nat_cmp x.p1 y.p1) _ l.1 in
    let b = both_equal (nat_cmp x.p2 y.p2) _ a.1 in
    let c = both_equal (nat_cmp x.p3 y.p3) _ b.1 in
    let d = both_equal (nat_cmp x.p4 y.p4) _ c.1 in
    let e = both_equal (nat_cmp x.p5 y.p5) (nat_cmp x.p6 y.p6) d.1 in
    same_composition x y
    (same_number x.kind y.kind k.0)
    (same_number x.round y.round r.0)
    (same_number x.length y.length l.0)
    (same_number x.p1 y.p1 a.0)
    (same_number x.p2 y.p2 b.0)
    (same_number x.p3 y.p3 c.0)
    (same_number x.p4 y.p4 d.0)
    (same_number x.p5 y.p5 e.0)
    (same_number x.p6 y.p6 e.1)

-- ---- the spelling

pub spelled_long : (x : Composition) → length (spelled x) ≡ 30
spelled_long x = refl

pub spelled_apart : (x y : Composition) → spelled x ≡ spelled y → x ≡ y
spelled_apart x y e =
    same_composition x y
    (ap (λ l. slice_index l 0) e)
    (ap (λ l. slice_index l 1) e)
    (four_apart x.length y.length (ap (λ l. take 4 (drop 2 l)) e))
    (four_apart x.p1 y.p1 (ap (λ l. take 4 (drop 6 l)) e))
    (four_apart x.p2 y.p2 (ap (λ l. take 4 (drop 10 l)) e))
    (four_apart x.p3 y.p3 (ap (λ l. take 4 (drop 14 l)) e))
    (four_apart x.p4 y.p4 (ap (λ l. take 4 (drop 18 l)) e))
    (four_apart x.p5 y.p5 (ap (λ l. take 4 (drop 22 l)) e))
    (four_apart x.p6 y.p6 (ap (λ l. take 4 (drop 26 l)) e))

-- byte j of numbers spelled one after the other
fours : (ns : List ℕ) (j : ℕ) → j < 4 * length ns → slice_index (flat_map four ns) j ≡ slice_index (four (slice_index ns (j / 4))) (j % 4)
fours [] j h = absurd (omega arith)
fours (n ∷ ns) j h =
    elim (cases_lt j 4) [
      | inl k ↦
          let z : j / 4 ≡ 0 = omega arith in
          let w : j ≡ j % 4 = omega arith in
          get_or_append_left (four n) (flat_map four ns) 0 j k ∙ ap (λ i. slice_index (four n) i) w ∙ ap (λ i. slice_index (four (slice_index (n ∷ ns) i)) (j % 4)) (sym z)
      | inr k ↦
          let z : j / 4 ≡ suc ((j - 4) / 4) = omega arith in
          let w : (j - 4) % 4 ≡ j % 4 = omega arith in
          get_or-append_right (four n) (flat_map four ns) 4 j 0 refl k ∙ fours ns (j - 4) (omega arith) ∙ ap (λ i. slice_index (four (slice_index ns ((j - 4) / 4))) i) w ∙ ap (λ i. slice_index (four (slice_index (n ∷ ns) i)) (j % 4)) (sym z)
    ]

module _ (x : Composition) where
  pub byte_number : (i n b : ℕ) → 2 ≤ i → i < 30 → n ≡ slice_index (numbers x) ((i - 2) / 4) → b ≡ slice_index (four n) ((i - 2) % 4) → b ≡ slice_index (spelled x) i
  byte_number i n b low high e f =
      let z : i ≡ suc (suc (i - 2)) = omega arith in
      f ∙ ap (λ m. slice_index (four m) ((i - 2) % 4)) e ∙ sym (fours (numbers x) (i - 2) (omega arith)) ∙ ap (λ k. slice_index (spelled x) k) (sym z)

  pub byte_past : (i : ℕ) → 30 ≤ i → 0 ≡ slice_index (spelled x) i
  byte_past i h = sym (get_or_past (spelled x) i 0 h)

  pub byte_at : (i k : ℕ) → i ≡ k → slice_index (spelled x) k ≡ slice_index (spelled x) i
  byte_at i k e = ap (λ j. slice_index (spelled x) j) (sym e)
