-- The layout of a line, from its bytes to its record. Assumes nothing.
--     circuit_of, kind_of_one, limit_of, chain_of      what a field says, if it is lawful
--     filled bs                   twelve bytes: those of bs, and zero bytes behind them
--     record_of line              the record that the line says, if it is one in the layout
--     Lawful r                    r is inside the limits of the layout
use Rattle.std.specs.Prelude.{◌≡◌, ℕ, ◌+◌, ◌-◌, ◌*◌, ◌≤◌, Bool, true, cond, ◌&&◌, ◌||◌, List, [], ◌∷◌, ◌++◌, length, take, replicate, Some, None, Option, ◌==◌, nat_le}
use Rattle.std.specs.Bool.{then_some}
use Rattle.std.specs.List.{list_all}
use Rattle.std.specs.Option.{option_and_then}
use Rattle.std.proofs.Common.{arith, length-take, length-append}
use Rattle.std.proofs.lemmas.List.{length-replicate}
use Rattle.lines.specs.declared.kind.Kind.{Kind}
use Rattle.lines.specs.declared.record.Record.{Record}
use Rattle.lines.specs.Kinds.{kind_of}
use Rattle.lines.specs.Parts.{parts}

-- the value that is there, handed on
abbrev pub given : {A B : Type 0} → Option A → (A → Option B) → Option B
given o f = option_and_then f o

-- ---- the fields

-- A to Z, 0 to 9 and the hyphen
abbrev pub circuit_byte : ℕ → Bool
circuit_byte b = (nat_le 65 b && nat_le b 90) || ((nat_le 48 b && nat_le b 57) || b == 45)

-- one to twelve such bytes
abbrev pub is_circuit : List ℕ → Bool
is_circuit bs = nat_le 1 (length bs) && (nat_le (length bs) 12 && list_all circuit_byte bs)

abbrev pub circuit_of : List ℕ → Option (List ℕ)
circuit_of bs = then_some (is_circuit bs) bs

-- one byte, a letter
abbrev pub kind_of_one : List ℕ → Option Kind
kind_of_one [] = None
kind_of_one (b ∷ []) = kind_of b
kind_of_one (b ∷ (x ∷ xs)) = None

-- 0 to 9
abbrev pub digit_of : ℕ → Option ℕ
digit_of b = then_some (nat_le 48 b && nat_le b 57) (b - 48)

-- the value of digits behind others of the value v; leading zeros are allowed
abbrev pub value_from : ℕ → List ℕ → Option ℕ
value_from v [] = Some v
value_from v (b ∷ bs) = given (digit_of b) (λ d. value_from (v * 10 + d) bs)

-- one to `most` digits
abbrev pub number_of : ℕ → List ℕ → Option ℕ
number_of most bs = cond (nat_le 1 (length bs) && nat_le (length bs) most) (value_from 0 bs) None

-- `least` to `most`, in one to `digits` digits
abbrev pub number_within : ℕ → ℕ → ℕ → List ℕ → Option ℕ
number_within digits least most bs = given (number_of digits bs) (λ n. then_some (nat_le least n && nat_le n most) n)

-- 0 to 2,000,000, in one to seven digits
abbrev pub limit_of : List ℕ → Option ℕ
limit_of bs = number_within 7 0 2000000 bs

-- 1 to 64, in one or two digits
abbrev pub chain_of : List ℕ → Option ℕ
chain_of bs = number_within 2 1 64 bs

-- ---- the record

abbrev pub filled : List ℕ → List ℕ
filled bs = take 12 (bs ++ replicate 12 0)

pub length-filled : (bs : List ℕ) → length (filled bs) ≡ 12
length-filled bs = omega (arith, length-take 12 (bs ++ replicate 12 0), length-append bs (replicate 12 0), length-replicate {A = ℕ} 12 0)

abbrev pub to_record : List ℕ → Kind → ℕ → ℕ → Record
to_record bs kind limit chain = record { circuit = filled bs; kind = kind; limit = limit; chain = chain; twelve = length-filled bs }

abbrev pub of_fields : List ℕ → List ℕ → List ℕ → List ℕ → Option Record
of_fields circuit kind limit chain =
    given (circuit_of circuit) (λ bs. given (kind_of_one kind) (λ k. given (limit_of limit) (λ n. given (chain_of chain) (λ m. Some (to_record bs k n m)))))

-- four fields, parted by one tab
abbrev pub of_parts : List (List ℕ) → Option Record
of_parts [] = None
of_parts (c ∷ []) = None
of_parts (c ∷ (k ∷ [])) = None
of_parts (c ∷ (k ∷ (l ∷ []))) = None
of_parts (c ∷ (k ∷ (l ∷ (h ∷ [])))) = of_fields c k l h
of_parts (c ∷ (k ∷ (l ∷ (h ∷ (x ∷ xs))))) = None

abbrev pub record_of : List ℕ → Option Record
record_of line = of_parts (parts 9 line)

-- the limits: a circuit of one to twelve lawful bytes, filled up; the limit and the chain in their ranges
pub record Lawful (r : Record) : Type 0 where
  pub bytes : List ℕ
  pub lawful : is_circuit bytes ≡ true
  pub circuit : r.circuit ≡ filled bytes
  pub limit : r.limit ≤ 2000000
  pub chain_some : 1 ≤ r.chain
  pub chain : r.chain ≤ 64
