-- What the reader has not read, and the line that leads it.
use Rattle.std.proofs.Common.{◌≡◌, ℕ, ◌+◌, ◌-◌, ◌<◌, List, [], ◌∷◌, ◌++◌, length, take, drop, Some, None, Ok, Err, Option, refl, sym, ap, ◌∙◌, subst, append_assoc, add_assoc, arith, length-drop, MatchOption}
use Rattle.std.proofs.lemmas.List.{take_rest, drop-drop, drop_at, length_push}
use Rattle.std.specs.Option.{ok_or}
use Rattle.lines.specs.declared.faults.LineFault.{LineFault}
use Rattle.lines.specs.declared.faults.LineFault.TheVariants.{NotARecord}
use Rattle.lines.specs.declared.fields.Fields.{Fields}
use Rattle.lines.specs.declared.line.Line.{Line}
use Rattle.lines.specs.declared.reader.LineReader.{LineReader}
use Rattle.lines.specs.declared.reading.ReadLine.{ReadLine}
use Rattle.lines.specs.declared.record.Record.{Record}
use Rattle.lines.specs.Fields.{FourAt, NotFour}
use Rattle.lines.specs.Layout.{record_of}
use Rattle.lines.specs.Parts.{parts, CutAt}
use Rattle.lines.specs.Peeks.{Gives}
use Rattle.lines.specs.Readers.{rest, left, Leads, FieldsOf, next_of}
use Rattle.lines.specs.Reading.{next, at_line}
use Rattle.lines.proofs.Cuts.{parts_some}

-- `&file[place..]` as the checker reads it
abbrev tail : LineReader → List ℕ
tail rd = take (length rd.file.now - rd.place) (rest rd)

behind : (front back : List ℕ) (b : ℕ) → drop (length front + 1) (front ++ (b ∷ back)) ≡ back
behind front back b = ap (drop (length front + 1)) (sym (append_assoc front (b ∷ []) back)) ∙ drop_at (front ++ (b ∷ [])) back (length front + 1) (length_push front b)

pub leads : (rd : LineReader) (line : Line) (back : List ℕ) → line.place ≡ rd.place → CutAt 10 (tail rd) line.bytes.now back → Leads rd line
leads rd line back here c =
    let l = line.bytes.now in
    let whole : rest rd ≡ l ++ (10 ∷ back) = sym (take_rest rd.file.now rd.place) ∙ c.whole in
    let after : back ≡ drop (rd.place + length l + 1) rd.file.now =
    sym (behind l back 10) ∙ ap (drop (length l + 1)) (sym whole) ∙ drop-drop (length l + 1) rd.place rd.file.now ∙ ap (λ n. drop n rd.file.now) (sym (add_assoc rd.place (length l) 1)) in
    record {
      place = here;
      cut = ap (parts 10) (sym (take_rest rd.file.now rd.place)) ∙ c.cut ∙ ap (λ bs. l ∷ parts 10 bs) after;
      within = omega (arith, c.long, ap length (take_rest rd.file.now rd.place), length-drop rd.place rd.file.now);
    }

pub rest_some : (rd : LineReader) → rd.place < length rd.file.now → 0 < length (rest rd)
rest_some rd h = omega (arith, length-drop rd.place rd.file.now)

-- ---- the next line, by what stands there

module _ (n : ℕ) where
  pub next_unended : (ps : List (List ℕ)) (bs : List ℕ) → ps ≡ bs ∷ [] → 0 < length bs → next n ps ≡ Err (NotARecord n)
  next_unended ps [] e h = absurd (omega arith)
  next_unended ps (b ∷ bs) e h = ap (next n) e

  next_line : (ps : List (List ℕ)) (l : List ℕ) (qs : List (List ℕ)) → ps ≡ l ∷ qs → 0 < length qs → (o : Option Record) → o ≡ record_of l → next n ps ≡ at_line n l o
  next_line ps l [] e h o r = absurd (omega arith)
  next_line ps l (q ∷ qs) e h o r = ap (next n) e ∙ ap (at_line n l) (sym r)

fields_from : (ps : List (List ℕ)) (l : List ℕ) (qs : List (List ℕ)) (place : ℕ) (r : Option Fields) → ps ≡ l ∷ qs → 0 < length qs → MatchOption r (NotFour l) (λ f. FourAt l place f) → FieldsOf ps place r
fields_from ps l [] place r e h t = absurd (omega arith)
fields_from ps l (q ∷ qs) place None e h t =
    λ p x more d. let same : l ≡ p = cc in subst NotFour same t
fields_from ps l (q ∷ qs) place (Some f) e h t = (l, q, qs, e, t)

abbrev beyond : LineReader → Line → List ℕ
beyond rd l = drop (rd.place + length l.bytes.now + 1) rd.file.now

pub next_leads : (rd : LineReader) (l : Line) → Leads rd l → (o : Option Record) → o ≡ record_of l.bytes.now → next_of rd ≡ at_line (rd.lines + 1) l.bytes.now o
next_leads rd l h o r = next_line (rd.lines + 1) (left rd) l.bytes.now (parts 10 (beyond rd l)) h.cut (parts_some 10 (beyond rd l)) o r

pub fields_leads : (rd : LineReader) (l : Line) → Leads rd l → (r : Option Fields) → MatchOption r (NotFour l.bytes.now) (λ f. FourAt l.bytes.now l.place f) → FieldsOf (left rd) rd.place r
fields_leads rd l h r t = subst (λ p. FieldsOf (left rd) p r) h.place (fields_from (left rd) l.bytes.now (parts 10 (beyond rd l)) l.place r h.cut (parts_some 10 (beyond rd l)) t)

pub gives : (rd : LineReader) (l : Line) (line : ReadLine) → Leads rd l → Some line.record ≡ record_of l.bytes.now → line.size ≡ length l.bytes.now + 1 → Gives rd line
gives rd l line h says size =
    let past : rd.place + length l.bytes.now + 1 ≡ rd.place + line.size = omega arith in
    record {
      bytes = l.bytes.now;
      says = sym says;
      size = size;
      cut = h.cut ∙ ap (λ n. l.bytes.now ∷ parts 10 (drop n rd.file.now)) past;
      within = omega (arith, h.within);
      next = next_leads rd l h (Some line.record) says ∙ ap (λ n. Ok (Some (line.record, n))) (sym size);
    }

-- ---- a value, or a refusal in its place

pub ok_or_some : {A E : Type 0} (o : Option A) (e : E) (x : A) → ok_or o e ≡ Ok x → o ≡ Some x
ok_or_some None e x h = let z : ◌≡◌ {A = ℕ} 0 1 = cc in absurd (omega arith)
ok_or_some (Some y) e x h = let same : y ≡ x = cc in ap Some same

pub ok_or_none : {A E : Type 0} (o : Option A) (e f : E) → ok_or o e ≡ Err f → (o ≡ None) × (e ≡ f)
ok_or_none None e f h = (refl, cc)
ok_or_none (Some y) e f h = let z : ◌≡◌ {A = ℕ} 0 1 = cc in absurd (omega arith)

pub leads_some : (rd : LineReader) (o : Option Line) (e : LineFault) (l : Line) → MatchOption o (left rd ≡ rest rd ∷ []) (Leads rd) → ok_or o e ≡ Ok l → Leads rd l
leads_some rd o e l h k = subst (λ p. MatchOption p (left rd ≡ rest rd ∷ []) (Leads rd)) (ok_or_some o e l k) h
