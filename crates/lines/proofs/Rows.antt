-- Reading all lines into rows, line by line.
use Rattle.std.proofs.Common.{◌≡◌, ℕ, suc, ◌+◌, ◌-◌, ◌<◌, ◌≤◌, List, [], ◌∷◌, ◌++◌, length, take, drop, set, Some, None, Ok, Err, Option, sym, refl, ap, ◌∙◌, subst, append_assoc, append-nil, arith, length-set}
use Rattle.std.proofs.lemmas.List.{take_more_set, take-append-drop, drop-set-lt, drop-drop, length-take-le}
use Rattle.lines.specs.declared.faults.LineFault.{LineFault}
use Rattle.lines.specs.declared.faults.LineFault.TheVariants.{NotARecord, NoRow}
use Rattle.lines.specs.declared.reader.LineReader.{LineReader}
use Rattle.lines.specs.declared.reading.ReadLine.{ReadLine}
use Rattle.lines.specs.declared.record.Record.{Record}
use Rattle.lines.specs.Layout.{record_of}
use Rattle.lines.specs.Parts.{parts}
use Rattle.lines.specs.Peeks.{Gives}
use Rattle.lines.specs.Readers.{left, next_of, reading_of, answered, ReadAll}
use Rattle.lines.specs.Reading.{next, at_line, Reading, stopped, with, at_row, reading}
use Rattle.lines.proofs.Cuts.{parts_some}

-- ---- what is read, by what the next line says

module _ (lines place free : ℕ) where
  at_row_refused : (o : Option Record) (p : List ℕ) (rest : ℕ → Reading) (e : LineFault) → at_line (lines + 1) p o ≡ Err e → at_row o lines place free rest ≡ stopped place lines (Some e)
  at_row_refused None p rest e h = let same : NotARecord (lines + 1) ≡ e = cc in ap (λ f. stopped place lines (Some f)) same
  at_row_refused (Some r) p rest e h = let z : ◌≡◌ {A = ℕ} 0 1 = cc in absurd (omega arith)

  pub reading_refused : (ps : List (List ℕ)) (e : LineFault) → next (lines + 1) ps ≡ Err e → reading lines place free ps ≡ stopped place lines (Some e)
  reading_refused [] e h = let z : ◌≡◌ {A = ℕ} 0 1 = cc in absurd (omega arith)
  reading_refused ([] ∷ []) e h = let z : ◌≡◌ {A = ℕ} 0 1 = cc in absurd (omega arith)
  reading_refused ((b ∷ bs) ∷ []) e h = let same : NotARecord (lines + 1) ≡ e = cc in ap (λ f. stopped place lines (Some f)) same
  reading_refused (p ∷ (q ∷ ps)) e h = at_row_refused (record_of p) p _ e h

  at_row_some : (o : Option Record) (p : List ℕ) → at_line (lines + 1) p o ≡ Ok None → ⊥
  at_row_some None p h = let z : ◌≡◌ {A = ℕ} 0 1 = cc in omega arith
  at_row_some (Some r) p h = let z : ◌≡◌ {A = ℕ} 0 1 = cc in omega arith

  pub reading_ended : (ps : List (List ℕ)) → next (lines + 1) ps ≡ Ok None → reading lines place free ps ≡ stopped place lines None
  reading_ended [] h = refl
  reading_ended ([] ∷ []) h = refl
  reading_ended ((b ∷ bs) ∷ []) h = let z : ◌≡◌ {A = ℕ} 0 1 = cc in absurd (omega arith)
  reading_ended (p ∷ (q ∷ ps)) h = absurd (at_row_some (record_of p) p h)

module _ (rd : LineReader) (l : ReadLine) (g : Gives rd l) where
  at_row_lem : (free : ℕ) (ps : List (List ℕ)) → 0 < length ps
      → reading rd.lines rd.place free (g.bytes ∷ ps) ≡ at_row (Some l.record) rd.lines rd.place free (λ less. reading (rd.lines + 1) (rd.place + l.size) less ps)
  at_row_lem free [] h = absurd (omega arith)
  at_row_lem free (q ∷ ps) h =
      let past : rd.place + length g.bytes + 1 ≡ rd.place + l.size = omega (arith, g.size) in
      ap (λ o. at_row o rd.lines rd.place free (λ less. reading (rd.lines + 1) (rd.place + length g.bytes + 1) less (q ∷ ps))) g.says
      ∙ ap (λ n. at_row (Some l.record) rd.lines rd.place free (λ less. reading (rd.lines + 1) n less (q ∷ ps))) past

  abbrev behind : List (List ℕ)
  behind = parts 10 (drop (rd.place + l.size) rd.file.now)

  by_line : (free : ℕ) → reading_of rd free ≡ at_row (Some l.record) rd.lines rd.place free (λ less. reading (rd.lines + 1) (rd.place + l.size) less behind)
  by_line free = ap (reading rd.lines rd.place free) g.cut ∙ at_row_lem free behind (parts_some 10 (drop (rd.place + l.size) rd.file.now))

  pub reading_no_row : reading_of rd 0 ≡ stopped rd.place rd.lines (Some (NoRow (rd.lines + 1)))
  reading_no_row = by_line 0

  -- the reader past the line
  pub reading_more : (is : LineReader) (free less : ℕ) → free ≡ suc less → is.file.now ≡ rd.file.now → is.place ≡ rd.place + l.size → is.lines ≡ rd.lines + 1 → reading_of rd free ≡ with l.record (reading_of is less)
  reading_more is free less one file place lines =
      ap (reading_of rd) one ∙ by_line (suc less)
      ∙ ap (with l.record) (sym (ap (λ n. reading n is.place less (left is)) lines ∙ ap (λ n. reading (rd.lines + 1) n less (left is)) place ∙ ap (λ ps. reading (rd.lines + 1) (rd.place + l.size) less ps) (ap (λ n. parts 10 (drop n is.file.now)) place ∙ ap (λ bs. parts 10 (drop (rd.place + l.size) bs)) file)))

-- ---- the loop

abbrev with_all : List Record → Reading → Reading
with_all rs m = record { records = rs ++ m.records; place = m.place; lines = m.lines; refusal = m.refusal }

-- `used` rows are written, and `is` is to read the rest
pub record Sofar (was is : LineReader) (rows rows' : List Record) (used : ℕ) : Type 0 where
  pub file : is.file.now ≡ was.file.now
  pub size : length rows' ≡ length rows
  pub within : used ≤ length rows
  pub kept : drop used rows' ≡ drop used rows
  pub whole : reading_of was (length rows) ≡ with_all (take used rows') (reading_of is (length rows - used))

module _ (was is : LineReader) (rows rows' : List Record) (used : ℕ) (s : Sofar was is rows rows' used) where
  pub sofar_more : (l : ReadLine) → Gives is l → used < length rows' → (is' : LineReader) → is'.file.now ≡ is.file.now → is'.place ≡ is.place + l.size → is'.lines ≡ is.lines + 1
      → Sofar was is' rows (set rows' used l.record) (used + 1)
  sofar_more l g h is' file place lines =
      let one : length rows - used ≡ suc (length rows - (used + 1)) = omega (arith, s.size) in
      let m : Reading = reading_of is' (length rows - (used + 1)) in
      record {
        file = file ∙ s.file;
        size = length-set rows' used l.record ∙ s.size;
        within = omega (arith, s.size);
        kept = drop-set-lt (used + 1) rows' used l.record (omega arith) ∙ sym (drop-drop 1 used rows') ∙ ap (drop 1) s.kept ∙ drop-drop 1 used rows;
        whole =
            s.whole ∙ ap (with_all (take used rows')) (reading_more is l g is' (length rows - used) (length rows - (used + 1)) one file place lines)
            ∙ ap (λ rs. record { records = rs; place = m.place; lines = m.lines; refusal = m.refusal }) (sym (append_assoc (take used rows') (l.record ∷ []) m.records) ∙ ap (λ rs. rs ++ m.records) (sym (take_more_set rows' used l.record h)));
      }

  stops : (refusal : Option LineFault) → reading_of is (length rows - used) ≡ stopped is.place is.lines refusal
      → reading_of was (length rows) ≡ record { records = take used rows'; place = is.place; lines = is.lines; refusal = refusal }
  stops refusal e = s.whole ∙ ap (with_all (take used rows')) e ∙ ap (λ rs. record { records = rs; place = is.place; lines = is.lines; refusal = refusal }) (append-nil (take used rows'))

  finished : (refusal : Option LineFault) → reading_of is (length rows - used) ≡ stopped is.place is.lines refusal → ReadAll was is rows rows' (answered used refusal) (reading_of was (length rows))
  finished refusal e =
      let count : length (take used rows') ≡ used = length-take-le used rows' (omega (arith, s.size, s.within)) in
      subst
      (λ m. ReadAll was is rows rows' (answered used refusal) m)
      (sym (stops refusal e))
      record {
        answer = ap (λ n. answered n refusal) (sym count);
        written = sym (take-append-drop used rows') ∙ ap (λ rs. take used rows' ++ rs) (s.kept ∙ ap (λ n. drop n rows) (sym count));
        file = s.file;
        place = refl;
        lines = refl;
      }

  pub sofar_ended : next_of is ≡ Ok None → ReadAll was is rows rows' (Ok used) (reading_of was (length rows))
  sofar_ended e = finished None (reading_ended is.lines is.place (length rows - used) (left is) e)

  pub sofar_refused : (f : LineFault) → next_of is ≡ Err f → ReadAll was is rows rows' (Err f) (reading_of was (length rows))
  sofar_refused f e = finished (Some f) (reading_refused is.lines is.place (length rows - used) (left is) f e)

  pub sofar_full : (l : ReadLine) → Gives is l → length rows' ≤ used → ReadAll was is rows rows' (Err (NoRow (is.lines + 1))) (reading_of was (length rows))
  sofar_full l g h =
      let none : length rows - used ≡ 0 = omega (arith, s.size) in
      finished (Some (NoRow (is.lines + 1))) (ap (reading_of is) none ∙ reading_no_row is l g)
