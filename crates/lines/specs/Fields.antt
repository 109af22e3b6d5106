-- The fields of a line. Assumes nothing.
--     case_of f           the number of a field's case: 1 circuit, 2 kind, 3 digits
--     held f              the bytes of a field
--     FourAt line p f     f are the four fields of the line, which begins at the place p of its file
--     NotFour line        the line has not four fields
--     read_fields f       the record that the fields say, if each is lawful
use Rattle.std.specs.Prelude.{◌≡◌, ℕ, ◌+◌, List, [], ◌∷◌, length, Some, None, Option}
use Rattle.lines.specs.declared.fields.Field.{Field}
use Rattle.lines.specs.declared.fields.Field.TheVariants.{Circuit, Kind, Digits}
use Rattle.lines.specs.declared.fields.Fields.{Fields}
use Rattle.lines.specs.declared.kind.Kind as kind
use Rattle.lines.specs.declared.record.Record.{Record}
use Rattle.lines.specs.Layout.{given, circuit_of, kind_of_one, limit_of, chain_of, to_record}
use Rattle.lines.specs.Parts.{parts}

abbrev pub case_of : Field → ℕ
case_of (Circuit s) = 1
case_of (Kind s) = 2
case_of (Digits s) = 3

abbrev pub held : Field → List ℕ
held (Circuit s) = s.now
held (Kind s) = s.now
held (Digits s) = s.now

pub record FourAt (line : List ℕ) (place : ℕ) (f : Fields) : Type 0 where
  pub cut : parts 9 line ≡ held f.circuit.field ∷ (held f.kind.field ∷ (held f.limit.field ∷ (held f.chain.field ∷ [])))
  pub circuit : case_of f.circuit.field ≡ 1
  pub kind : case_of f.kind.field ≡ 2
  pub limit : case_of f.limit.field ≡ 3
  pub chain : case_of f.chain.field ≡ 3
  pub circuit_place : f.circuit.place ≡ place
  pub kind_place : f.kind.place ≡ f.circuit.place + length (held f.circuit.field) + 1
  pub limit_place : f.limit.place ≡ f.kind.place + length (held f.kind.field) + 1
  pub chain_place : f.chain.place ≡ f.limit.place + length (held f.limit.field) + 1

abbrev pub NotFour : List ℕ → Type 0
NotFour line = length (parts 9 line) ≡ 4 → ⊥

-- what a field of each case says; a field of another case says nothing
abbrev pub circuit_in : Field → Option (List ℕ)
circuit_in (Circuit s) = circuit_of s.now
circuit_in (Kind s) = None
circuit_in (Digits s) = None

abbrev pub kind_in : Field → Option kind.Kind
kind_in (Circuit s) = None
kind_in (Kind s) = kind_of_one s.now
kind_in (Digits s) = None

abbrev pub digits_in : (List ℕ → Option ℕ) → Field → Option ℕ
digits_in says (Circuit s) = None
digits_in says (Kind s) = None
digits_in says (Digits s) = says s.now

abbrev pub read_fields : Fields → Option Record
read_fields f =
    given (circuit_in f.circuit.field) (λ bs. given (kind_in f.kind.field) (λ k.
    given (digits_in limit_of f.limit.field) (λ n. given (digits_in chain_of f.chain.field) (λ m. Some (to_record bs k n m)))))
