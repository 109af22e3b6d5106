-- The laws of the line record as a key.
use Rattle.std.specs.Prelude.{◌≡◌, ℕ, suc, ◌+◌, ◌-◌, ◌<◌, ◌≤◌, [], ◌∷◌, ◌++◌, length, take, drop, slice_index}
use Rattle.std.specs.declared.cmp.Ordering.TheVariants.{Equal}
use Rattle.std.proofs.Common.{sym, ap, ◌∙◌, arith, length-append}
use Rattle.std.proofs.lemmas.List.{take_at, drop_at, get_or_append_left, get_or-append_right, get_or_past}
use Rattle.dictionary.specs.Spelling.{four}
use Rattle.dictionary.specs.Orders.{both_equal, same_number, same_list}
use Rattle.dictionary.proofs.Spelling.{four_apart}
use Rattle.lines.specs.declared.record.Record.{Record}
use Rattle.lines.specs.Keys.{in_parts, in_order, behind, spelled}
use Rattle.lines.specs.Kinds.{letter_of}
use Rattle.lines.specs.Records.{same_record, same_kind}
use Rattle.std.specs.Ordering.{nat_cmp, ordering_then}
use Rattle.std.specs.Cmp.Lexicographic.{slice_cmp}

pub same_key : (x y : Record) → in_order x y ≡ Equal → x ≡ y
same_key x y h =
    let p = both_equal (slice_cmp nat_cmp x.circuit y.circuit) (ordering_then (nat_cmp (in_parts x).1.0 (in_parts y).1.0) (ordering_then (nat_cmp (in_parts x).1.1.0 (in_parts y).1.1.0) (nat_cmp (in_parts x).1.1.1 (in_parts y).1.1.1))) h in
    let q = both_equal (nat_cmp (letter_of x.kind) (letter_of y.kind)) (ordering_then (nat_cmp (in_parts x).1.1.0 (in_parts y).1.1.0) (nat_cmp (in_parts x).1.1.1 (in_parts y).1.1.1)) p.1 in
    let r = both_equal (nat_cmp x.limit y.limit) (nat_cmp x.chain y.chain) q.1 in
    same_record x y
    (same_list x.circuit y.circuit p.0)
    (same_kind x.kind y.kind (same_number (letter_of x.kind) (letter_of y.kind) q.0))
    (same_number x.limit y.limit r.0)
    (same_number x.chain y.chain r.1)

pub spelled_long : (x : Record) → length (spelled x) ≡ 18
spelled_long x = length-append x.circuit (behind x) ∙ ap (λ n. n + 6) x.twelve

pub spelled_apart : (x y : Record) → spelled x ≡ spelled y → x ≡ y
spelled_apart x y e =
    let front : x.circuit ≡ y.circuit = sym (take_at x.circuit (behind x) 12 x.twelve) ∙ ap (take 12) e ∙ take_at y.circuit (behind y) 12 y.twelve in
    let back : behind x ≡ behind y = sym (drop_at x.circuit (behind x) 12 x.twelve) ∙ ap (drop 12) e ∙ drop_at y.circuit (behind y) 12 y.twelve in
    same_record x y front
    (same_kind x.kind y.kind (ap (λ l. slice_index l 0) back))
    (four_apart x.limit y.limit (ap (λ l. take 4 (drop 1 l)) back))
    (ap (λ l. slice_index l 5) back)

-- ---- the bytes of the spelling, by their places

module _ (x : Record) where
  pub byte_front : (i : ℕ) → i < 12 → slice_index x.circuit i ≡ slice_index (spelled x) i
  byte_front i h = sym (get_or_append_left x.circuit (behind x) 0 i (omega (arith, x.twelve)))

  byte_behind : (i : ℕ) → 12 ≤ i → slice_index (spelled x) i ≡ slice_index (behind x) (i - 12)
  byte_behind i h = get_or-append_right x.circuit (behind x) 12 i 0 x.twelve h

  pub byte_letter : (i b : ℕ) → i ≡ 12 → b ≡ letter_of x.kind → b ≡ slice_index (spelled x) i
  byte_letter i b h e = let z : 0 ≡ i - 12 = omega arith in e ∙ ap (λ k. slice_index (behind x) k) z ∙ sym (byte_behind i (omega arith))

  byte_number : (i : ℕ) → 13 ≤ i → slice_index (spelled x) i ≡ slice_index (four x.limit ++ (x.chain ∷ [])) (i - 13)
  byte_number i h = let z : i - 12 ≡ suc (i - 13) = omega arith in byte_behind i (omega arith) ∙ ap (λ k. slice_index (behind x) k) z

  pub byte_limit : (i b : ℕ) → 13 ≤ i → i < 17 → b ≡ slice_index (four x.limit) (i - 13) → b ≡ slice_index (spelled x) i
  byte_limit i b h k e = e ∙ sym (byte_number i h ∙ get_or_append_left (four x.limit) (x.chain ∷ []) 0 (i - 13) (omega arith))

  pub byte_chain : (i : ℕ) → i ≡ 17 → x.chain ≡ slice_index (spelled x) i
  byte_chain i h = let z : 4 ≡ i - 13 = omega arith in ap (λ k. slice_index (four x.limit ++ (x.chain ∷ [])) k) z ∙ sym (byte_number i (omega arith))

  pub byte_past : (i : ℕ) → 18 ≤ i → 0 ≡ slice_index (spelled x) i
  byte_past i h = sym (get_or_past (spelled x) i 0 (omega (arith, spelled_long x)))
