-- Two delivered files matched. Assumes nothing.
--     file_list f free      the list of a file with `free` rows, or why it is refused; None is a file that cannot be read
--     file_rows f free      the records that are then written to the rows, from the first on
--     Delivered             what reading a delivered file answers and leaves
--     Compared xs ys o      o is what comparing two lists gives
--     Matched               what matching two files answers and leaves
use Rattle.std.specs.Prelude.{◌≡◌, ℕ, ◌+◌, cond, List, [], ◌∷◌, ◌++◌, length, drop, Some, None, Ok, Err, Option, Result, ◌≢◌, nat_lt}
use Rattle.matching.specs.declared.faults.FileFault.{FileFault}
use Rattle.matching.specs.declared.faults.FileFault.TheVariants.{Unreadable, TooLong, Line, Empty}
use Rattle.lines.specs.declared.faults.LineFault.{LineFault}
use Rattle.lines.specs.declared.record.Record.{Record}
use Rattle.texts.specs.declared.report.DeliveredFile.{DeliveredFile}
use Rattle.texts.specs.declared.report.DeliveredFile.TheVariants.{Magnets, Interlock}
use Rattle.texts.specs.declared.report.Outcome.{Outcome}
use Rattle.texts.specs.declared.report.Outcome.TheVariants.{Same, Differ, Refused}
use Rattle.matching.specs.Comparing.{Common}
use Rattle.matching.specs.Faults.{file_fault}
use Rattle.lines.specs.Reading.{read_whole}

-- ---- one file

abbrev pub listed : Option LineFault → List Record → Result (List Record) FileFault
listed (Some e) rs = Err (Line e)
listed None [] = Err Empty
listed None (r ∷ rs) = Ok (r ∷ rs)

-- at most 4,096 bytes
abbrev pub file_list : Option (List ℕ) → ℕ → Result (List Record) FileFault
file_list None free = Err Unreadable
file_list (Some bs) free = cond (nat_lt 4096 (length bs)) (Err TooLong) (listed (read_whole bs free).refusal (read_whole bs free).records)

abbrev pub file_rows : Option (List ℕ) → ℕ → List Record
file_rows None free = []
file_rows (Some bs) free = cond (nat_lt 4096 (length bs)) [] (read_whole bs free).records

-- the records, and behind them what the rows held
abbrev pub over_rows : List Record → List Record → List Record
over_rows rs rows = rs ++ drop (length rs) rows

abbrev pub counted : Result (List Record) FileFault → Result ℕ FileFault
counted (Ok rs) = Ok (length rs)
counted (Err e) = Err e

pub record Delivered (file : Option (List ℕ)) (rows rows' : List Record) (r : Result ℕ FileFault) : Type 0 where
  pub answer : r ≡ counted (file_list file (length rows))
  pub written : rows' ≡ over_rows (file_rows file (length rows)) rows

-- ---- two lists

abbrev pub Compared : List Record → List Record → Outcome → Type 0
Compared xs ys (Same n) = (xs ≡ ys) × (n ≡ length xs)
Compared xs ys (Differ n) = (xs ≢ ys) × ((m : ℕ) × (n ≡ m + 1) × Common xs ys m)
Compared xs ys (Refused file fault) = ⊥

-- ---- two files

abbrev pub refused_with : DeliveredFile → FileFault → Outcome
refused_with file e = Refused file (file_fault e)

-- the magnet list is read first
abbrev pub OutcomeOf : Result (List Record) FileFault → Result (List Record) FileFault → Outcome → Type 0
OutcomeOf (Err e) second o = o ≡ refused_with Magnets e
OutcomeOf (Ok xs) (Err e) o = o ≡ refused_with Interlock e
OutcomeOf (Ok xs) (Ok ys) o = Compared xs ys o

-- the interlock table is read only behind a lawful magnet list
abbrev pub second_rows : Result (List Record) FileFault → List Record → List Record
second_rows (Ok xs) rs = rs
second_rows (Err e) rs = []

pub record Matched (magnets interlock : Option (List ℕ)) (rows rows' more more' : List Record) (o : Outcome) : Type 0 where
  pub outcome : OutcomeOf (file_list magnets (length rows)) (file_list interlock (length more)) o
  pub first : rows' ≡ over_rows (file_rows magnets (length rows)) rows
  pub second : more' ≡ over_rows (second_rows (file_list magnets (length rows)) (file_rows interlock (length more))) more
