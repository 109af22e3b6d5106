-- Laws of line files. Assumes nothing.
--     Says line r             the line is the record r written out, with or without leading zeros
--     file_of ls              the lines, each with its end
--     ReadsBack               a file that is lawful lines written out reads back as those records
--     SameAnswer              files that agree up to the end of the first refused line get the same answer
use Rattle.std.specs.Prelude.{◌≡◌, ℕ, ◌≤◌, true, List, [], ◌∷◌, ◌++◌, map, length, replicate, Some, None}
use Rattle.std.specs.List.{flat_map, AllByRecursion}
use Rattle.lines.specs.declared.faults.LineFault.{LineFault}
use Rattle.lines.specs.declared.record.Record.{Record}
use Rattle.lines.specs.Kinds.{letter_of}
use Rattle.lines.specs.Layout.{is_circuit, filled}
use Rattle.texts.specs.Numbers.{digits}
use Rattle.lines.specs.Reading.{read_whole}

-- a number behind some zeros
abbrev pub padded : ℕ → ℕ → List ℕ
padded zeros n = replicate zeros 48 ++ digits n

pub record Says (line : List ℕ) (r : Record) : Type 0 where
  pub circuit : List ℕ
  pub zeros : ℕ
  pub more_zeros : ℕ
  pub line_is : line ≡ circuit ++ (9 ∷ (letter_of r.kind ∷ (9 ∷ (padded zeros r.limit ++ (9 ∷ padded more_zeros r.chain)))))
  pub lawful : is_circuit circuit ≡ true
  pub circuit_is : r.circuit ≡ filled circuit
  pub limit_digits : length (padded zeros r.limit) ≤ 7
  pub limit : r.limit ≤ 2000000
  pub chain_digits : length (padded more_zeros r.chain) ≤ 2
  pub chain_some : 1 ≤ r.chain
  pub chain : r.chain ≤ 64

abbrev pub file_of : List (List ℕ × Record) → List ℕ
file_of ls = flat_map (λ l. l.0 ++ (10 ∷ [])) ls

abbrev pub ReadsBack : Type 0
ReadsBack =
    (ls : List (List ℕ × Record)) (free : ℕ) → AllByRecursion (λ l. Says l.0 l.1) ls → length ls ≤ free
    → read_whole (file_of ls) free ≡ record { records = map (λ l. l.1) ls; place = length (file_of ls); lines = length ls; refusal = None }

-- the first refused line begins at or before the end of `front`, and a line ends there
abbrev pub SameAnswer : Type 0
SameAnswer =
    (front x y : List ℕ) (free : ℕ) (e : LineFault) → (read_whole (front ++ (10 ∷ x)) free).refusal ≡ Some e → (read_whole (front ++ (10 ∷ x)) free).place ≤ length front
    → read_whole (front ++ (10 ∷ y)) free ≡ read_whole (front ++ (10 ∷ x)) free
