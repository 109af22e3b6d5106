-- What the calls of the line reader do. Assumes nothing.
--     rest rd, left rd      what rd has not read, and its parts
--     next_of rd            what its next line says
--     reading_of rd free    what reading all that is left does, with `free` rows
--     Stepped, ReadAll      what `next_line` and `read_rows` answer and leave
use Rattle.std.specs.Prelude.{◌≡◌, ℕ, ◌+◌, ◌≤◌, List, ◌∷◌, ◌++◌, length, drop, Some, None, Ok, Err, Option, Result}
use Rattle.lines.specs.declared.faults.LineFault.{LineFault}
use Rattle.lines.specs.declared.fields.Fields.{Fields}
use Rattle.lines.specs.declared.line.Line.{Line}
use Rattle.lines.specs.declared.reader.LineReader.{LineReader}
use Rattle.lines.specs.declared.record.Record.{Record}
use Rattle.lines.specs.Fields.{FourAt, NotFour}
use Rattle.lines.specs.Parts.{parts}
use Rattle.lines.specs.Reading.{next, answer_of, moved_of, count_of, Reading, reading}

abbrev pub rest : LineReader → List ℕ
rest rd = drop rd.place rd.file.now

abbrev pub left : LineReader → List (List ℕ)
left rd = parts 10 (rest rd)

-- the line l leads what is left
pub record Leads (rd : LineReader) (l : Line) : Type 0 where
  pub place : l.place ≡ rd.place
  pub cut : left rd ≡ l.bytes.now ∷ parts 10 (drop (rd.place + length l.bytes.now + 1) rd.file.now)
  pub within : rd.place + length l.bytes.now + 1 ≤ length rd.file.now

abbrev pub next_of : LineReader → Result (Option (Record × ℕ)) LineFault
next_of rd = next (rd.lines + 1) (left rd)

abbrev pub reading_of : LineReader → ℕ → Reading
reading_of rd free = reading rd.lines rd.place free (left rd)

pub record Stepped (was is : LineReader) (r : Result (Option Record) LineFault) : Type 0 where
  pub answer : r ≡ answer_of (next_of was)
  pub file : is.file.now ≡ was.file.now
  pub place : is.place ≡ was.place + moved_of (next_of was)
  pub lines : is.lines ≡ was.lines + count_of (next_of was)

-- how many rows are written, or the refusal
abbrev pub answered : ℕ → Option LineFault → Result ℕ LineFault
answered n None = Ok n
answered n (Some e) = Err e

pub record ReadAll (was is : LineReader) (rows rows' : List Record) (r : Result ℕ LineFault) (m : Reading) : Type 0 where
  pub answer : r ≡ answered (length m.records) m.refusal
  pub written : rows' ≡ m.records ++ drop (length m.records) rows
  pub file : is.file.now ≡ was.file.now
  pub place : is.place ≡ m.place
  pub lines : is.lines ≡ m.lines

-- the fields of the next line, if there is one with four
abbrev pub FieldsOf : List (List ℕ) → ℕ → Option Fields → Type 0
FieldsOf ps place None = (p q : List ℕ) (more : List (List ℕ)) → ps ≡ p ∷ (q ∷ more) → NotFour p
FieldsOf ps place (Some f) = (p : List ℕ) × (q : List ℕ) × (more : List (List ℕ)) × (ps ≡ p ∷ (q ∷ more)) × FourAt p place f
