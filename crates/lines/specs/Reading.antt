-- Reading a file of lines. Assumes nothing.
-- A file is cut at each byte 10. The last part has to be empty, since each line is ended by such a byte; the others are its lines.
--     next n ps             what the next line, number n, says where the parts of what is left are ps
--     read_whole file free  what reading a whole file does, with `free` rows
--     reading n p free ps   what reading all that is left does, after n lines and from the place p on, with `free` rows
use Rattle.std.specs.Prelude.{ℕ, zero, suc, ◌+◌, List, [], ◌∷◌, length, Some, None, Ok, Err, Option, Result}
use Rattle.lines.specs.declared.faults.LineFault.{LineFault}
use Rattle.lines.specs.declared.faults.LineFault.TheVariants.{NotARecord, NoRow}
use Rattle.lines.specs.declared.record.Record.{Record}
use Rattle.lines.specs.Layout.{record_of}
use Rattle.lines.specs.Parts.{parts}

-- ---- one line

-- a record, and how many bytes its line has with its end
abbrev Line : Type 0
Line = Record × ℕ

abbrev pub at_end : ℕ → List ℕ → Result (Option Line) LineFault
at_end n [] = Ok None
at_end n (b ∷ bs) = Err (NotARecord n)

abbrev pub at_line : ℕ → List ℕ → Option Record → Result (Option Line) LineFault
at_line n p None = Err (NotARecord n)
at_line n p (Some r) = Ok (Some (r, length p + 1))

abbrev pub next : ℕ → List (List ℕ) → Result (Option Line) LineFault
next n [] = Ok None
next n (p ∷ []) = at_end n p
next n (p ∷ (q ∷ ps)) = at_line n p (record_of p)

-- what is answered, how far the reader moves, and how many lines it counts: none at the end of the file or at a refusal
abbrev pub answer_of : Result (Option Line) LineFault → Result (Option Record) LineFault
answer_of (Ok None) = Ok None
answer_of (Ok (Some l)) = Ok (Some l.0)
answer_of (Err e) = Err e

abbrev pub moved_of : Result (Option Line) LineFault → ℕ
moved_of (Ok None) = 0
moved_of (Ok (Some l)) = l.1
moved_of (Err e) = 0

abbrev pub count_of : Result (Option Line) LineFault → ℕ
count_of (Ok None) = 0
count_of (Ok (Some l)) = 1
count_of (Err e) = 0

-- ---- all that is left

-- the records that are written to the rows from the first on, where the reader then stands, and the refusal if there is one
pub record Reading : Type 0 where
  pub records : List Record
  pub place : ℕ
  pub lines : ℕ
  pub refusal : Option LineFault

abbrev pub stopped : ℕ → ℕ → Option LineFault → Reading
stopped place lines refusal = record { records = []; place = place; lines = lines; refusal = refusal }

abbrev pub with : Record → Reading → Reading
with r m = record { records = r ∷ m.records; place = m.place; lines = m.lines; refusal = m.refusal }

abbrev refusal_at_end : ℕ → List ℕ → Option LineFault
refusal_at_end n [] = None
refusal_at_end n (b ∷ bs) = Some (NotARecord n)

-- a line where `free` rows are free: no record in the layout, no row for it, or one record more and the rest
abbrev pub at_row : Option Record → ℕ → ℕ → ℕ → (ℕ → Reading) → Reading
at_row None lines place free rest = stopped place lines (Some (NotARecord (lines + 1)))
at_row (Some r) lines place zero rest = stopped place lines (Some (NoRow (lines + 1)))
at_row (Some r) lines place (suc free) rest = with r (rest free)

-- `lines` lines are read
abbrev pub reading : ℕ → ℕ → ℕ → List (List ℕ) → Reading
reading lines place free [] = stopped place lines None
reading lines place free (p ∷ []) = stopped place lines (refusal_at_end (lines + 1) p)
reading lines place free (p ∷ (q ∷ ps)) = at_row (record_of p) lines place free (λ left. reading (lines + 1) (place + length p + 1) left (q ∷ ps))

-- a whole file
abbrev pub read_whole : List ℕ → ℕ → Reading
read_whole file free = reading 0 0 free (parts 10 file)
