-- Compositions. Assumes nothing.
--     element n               the composition of an element with the number n
--     power r n len k         the power of the name n, of round r and length len, taken k times
--     block r row             the block of the names of a row of round r, each with its length
--     in_order                compositions ordered by kind, round, length, then p1 to p6
--     spelled                 the spelling in 30 bytes: kind, round, length in four, each p in four, highest byte first
use Rattle.std.specs.Prelude.{ℕ, ◌+◌, ◌*◌, List, [], ◌∷◌, map, slice_index}
use Rattle.std.specs.declared.cmp.Ordering.{Ordering}
use Rattle.std.specs.List.{flat_map}
use Rattle.dictionary.specs.Spelling.{four}
use Rattle.scheme.specs.declared.composition.Composition.{Composition}
use Rattle.std.specs.Ordering.{nat_cmp, ordering_then}

-- a name of a row, and the length of what it stands for
pub record Entry : Type 0 where
  pub name : ℕ
  pub length : ℕ

abbrev pub element : ℕ → Composition
element n = record { kind = 1; round = 0; length = 1; p1 = n; p2 = 0; p3 = 0; p4 = 0; p5 = 0; p6 = 0 }

abbrev pub power : ℕ → ℕ → ℕ → ℕ → Composition
power r n len k = record { kind = 2; round = r; length = k * len; p1 = n; p2 = k; p3 = 0; p4 = 0; p5 = 0; p6 = 0 }

abbrev pub total : List Entry → ℕ
total [] = 0
total (e ∷ es) = e.length + total es

abbrev pub names : List Entry → List ℕ
names es = map (λ e. e.name) es

-- two to six names of round r
abbrev pub block : ℕ → List Entry → Composition
block r es = record {
  kind = 3;
  round = r + 1;
  length = total es;
  p1 = slice_index (names es) 0;
  p2 = slice_index (names es) 1;
  p3 = slice_index (names es) 2;
  p4 = slice_index (names es) 3;
  p5 = slice_index (names es) 4;
  p6 = slice_index (names es) 5;
}

-- ---- order and spelling, of any contents

abbrev pub in_parts : Composition → ℕ × (ℕ × (ℕ × (ℕ × (ℕ × (ℕ × (ℕ × (ℕ × ℕ)))))))
in_parts c = (c.kind, (c.round, (c.length, (c.p1, (c.p2, (c.p3, (c.p4, (c.p5, c.p6))))))))

abbrev pub in_order : Composition → Composition → Ordering
in_order x y =
    ordering_then (nat_cmp (in_parts x).0 (in_parts y).0) (ordering_then (nat_cmp (in_parts x).1.0 (in_parts y).1.0) (ordering_then (nat_cmp (in_parts x).1.1.0 (in_parts y).1.1.0) (ordering_then (nat_cmp (in_parts x).1.1.1.0 (in_parts y).1.1.1.0) (ordering_then (nat_cmp (in_parts x).1.1.1.1.0 (in_parts y).1.1.1.1.0) (ordering_then (nat_cmp (in_parts x).1.1.1.1.1.0 (in_parts y).1.1.1.1.1.0) (ordering_then (nat_cmp (in_parts x).1.1.1.1.1.1.0 (in_parts y).1.1.1.1.1.1.0) (ordering_then (nat_cmp (in_parts x).1.1.1.1.1.1.1.0 (in_parts y).1.1.1.1.1.1.1.0) (nat_cmp (in_parts x).1.1.1.1.1.1.1.1 (in_parts y).1.1.1.1.1.1.1.1))))))))

-- the numbers that are spelled in four bytes
abbrev pub numbers : Composition → List ℕ
numbers c = c.length ∷ (c.p1 ∷ (c.p2 ∷ (c.p3 ∷ (c.p4 ∷ (c.p5 ∷ (c.p6 ∷ []))))))

abbrev pub spelled : Composition → List ℕ
spelled c = c.kind ∷ (c.round ∷ flat_map four (numbers c))
