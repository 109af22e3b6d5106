-- The report of the matching program. Assumes nothing.
--     text_of l          the bytes of a report's line
--     file_letter f      M or I
--     line_told n p      the line that a refusal of number n at the place p tells
--     report_of o        the line that reports the outcome o: fields parted by tabs, byte 10 last
use Rattle.std.specs.Prelude.{ℕ, cond, ◌||◌, List, [], ◌∷◌, ◌++◌, codes, ◌==◌}
use Rattle.texts.specs.declared.report.DeliveredFile.{DeliveredFile}
use Rattle.texts.specs.declared.report.DeliveredFile.TheVariants.{Magnets, Interlock}
use Rattle.texts.specs.declared.report.Outcome.{Outcome}
use Rattle.texts.specs.declared.report.Outcome.TheVariants.{Same, Differ, Refused}
use Rattle.arrayvec.specs.ArrayString.{ArrayString}
use Rattle.texts.specs.Numbers.{digits}

abbrev pub text_of : ArrayString → List ℕ
text_of l = l.bytes

abbrev pub file_letter : DeliveredFile → ℕ
file_letter Magnets = 77
file_letter Interlock = 73

-- the place where it is a line, which it is for the refusals 1 and 2
abbrev pub line_told : ℕ → ℕ → ℕ
line_told number place = cond (number == 1 || number == 2) place 0

abbrev pub report_of : Outcome → List ℕ
report_of (Same lines) = codes "same" ++ (9 ∷ (digits lines ++ (10 ∷ [])))
report_of (Differ line) = codes "differ" ++ (9 ∷ (digits line ++ (10 ∷ [])))
report_of (Refused file f) = codes "refused" ++ (9 ∷ (file_letter file ∷ (9 ∷ (digits f.number ++ (9 ∷ (digits (line_told f.number f.place) ++ (10 ∷ [])))))))
