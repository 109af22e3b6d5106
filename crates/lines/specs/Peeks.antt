-- What the reader sees of its next line before it moves. Assumes nothing.
use Rattle.std.specs.Prelude.{◌≡◌, ℕ, ◌+◌, ◌≤◌, List, ◌∷◌, length, drop, Some, None, Ok, Err, Option, Result}
use Rattle.lines.specs.declared.faults.LineFault.{LineFault}
use Rattle.lines.specs.declared.reader.LineReader.{LineReader}
use Rattle.lines.specs.declared.reading.ReadLine.{ReadLine}
use Rattle.lines.specs.Layout.{record_of}
use Rattle.lines.specs.Parts.{parts}
use Rattle.lines.specs.Readers.{left, next_of}

-- the next line gives l: its bytes say the record, and what is left behind it begins past it
pub record Gives (rd : LineReader) (l : ReadLine) : Type 0 where
  pub bytes : List ℕ
  pub says : record_of bytes ≡ Some l.record
  pub size : l.size ≡ length bytes + 1
  pub cut : left rd ≡ bytes ∷ parts 10 (drop (rd.place + l.size) rd.file.now)
  pub within : rd.place + l.size ≤ length rd.file.now
  pub next : next_of rd ≡ Ok (Some (l.record, l.size))

-- r is what the next line says
abbrev pub Peeked : LineReader → Result (Option ReadLine) LineFault → Type 0
Peeked rd (Ok None) = next_of rd ≡ Ok None
Peeked rd (Ok (Some l)) = Gives rd l
Peeked rd (Err e) = next_of rd ≡ Err e
