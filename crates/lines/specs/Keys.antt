-- The line record as a key. Assumes nothing.
--     in_order     records ordered by circuit (bytes from the left, a shorter circuit before its continuations), kind letter, limit and chain
--     spelled      the spelling in 18 bytes: circuit, letter, limit in four bytes with the highest first, chain
use Rattle.std.specs.Prelude.{ℕ, List, [], ◌∷◌, ◌++◌}
use Rattle.std.specs.declared.cmp.Ordering.{Ordering}
use Rattle.dictionary.specs.Spelling.{four}
use Rattle.lines.specs.declared.record.Record.{Record}
use Rattle.lines.specs.Kinds.{letter_of}
use Rattle.std.specs.Ordering.{nat_cmp, ordering_then}
use Rattle.std.specs.Cmp.Lexicographic.{slice_cmp}

abbrev pub in_parts : Record → List ℕ × (ℕ × (ℕ × ℕ))
in_parts r = (r.circuit, (letter_of r.kind, (r.limit, r.chain)))

abbrev pub in_order : Record → Record → Ordering
in_order x y = ordering_then ((slice_cmp nat_cmp) (in_parts x).0 (in_parts y).0) (ordering_then (nat_cmp (in_parts x).1.0 (in_parts y).1.0) (ordering_then (nat_cmp (in_parts x).1.1.0 (in_parts y).1.1.0) (nat_cmp (in_parts x).1.1.1 (in_parts y).1.1.1)))

abbrev pub behind : Record → List ℕ
behind r = letter_of r.kind ∷ (four r.limit ++ (r.chain ∷ []))

abbrev pub spelled : Record → List ℕ
spelled r = r.circuit ++ behind r
