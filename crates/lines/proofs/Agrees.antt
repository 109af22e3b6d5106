-- Files that agree up to the end of the first refused line.
use Rattle.std.proofs.Common.{◌≡◌, ℕ, zero, suc, ◌+◌, ◌<◌, ◌≤◌, true, false, cond, eqb, List, [], ◌∷◌, ◌++◌, length, Some, None, Option, sym, refl, ap, ◌∙◌, subst, arith, length-append}
use Rattle.std.proofs.lemmas.Bool.{cond-true, cond_both, eq-eqb}
use Rattle.lines.specs.declared.faults.LineFault.{LineFault}
use Rattle.lines.specs.declared.record.Record.{Record}
use Rattle.lines.specs.Laws.{SameAnswer}
use Rattle.lines.specs.Layout.{record_of}
use Rattle.lines.specs.Parts.{parts}
use Rattle.std.specs.List.{onto_first}
use Rattle.lines.specs.Reading.{Reading, with, at_row, reading, read_whole}
use Rattle.lines.proofs.Cuts.{parts_some}

-- ---- the parts of two lists with a byte between them

onto_first-append : (x : ℕ) (ps qs : List (List ℕ)) → 0 < length ps → onto_first x (ps ++ qs) ≡ onto_first x ps ++ qs
onto_first-append x [] qs h = absurd (omega arith)
onto_first-append x (p ∷ ps) qs h = refl

pub parts-append : (b : ℕ) (xs ys : List ℕ) → parts b (xs ++ (b ∷ ys)) ≡ parts b xs ++ parts b ys
parts-append b [] ys = cond-true (eqb b b) ([] ∷ parts b ys) (onto_first b (parts b ys)) (eq-eqb b b refl)
parts-append b (x ∷ xs) ys =
    ap (λ ps. cond (eqb x b) ([] ∷ ps) (onto_first x ps)) (parts-append b xs ys)
    ∙ by_byte (eqb x b)
  where
    by_byte : (t : _) → cond t ([] ∷ (parts b xs ++ parts b ys)) (onto_first x (parts b xs ++ parts b ys)) ≡ cond t ([] ∷ parts b xs) (onto_first x (parts b xs)) ++ parts b ys
    by_byte true = refl
    by_byte false = onto_first-append x (parts b xs) (parts b ys) (parts_some b xs)

-- ---- where the reader stands

at_row_place : (o : Option Record) (lines place free : ℕ) (rest : ℕ → Reading) → ((less : ℕ) → place ≤ (rest less).place) → place ≤ (at_row o lines place free rest).place
at_row_place None lines place free rest h = omega arith
at_row_place (Some r) lines place zero rest h = omega arith
at_row_place (Some r) lines place (suc free) rest h = h free

-- the reader does not go back
pub reading_place : (lines place free : ℕ) (ps : List (List ℕ)) → place ≤ (reading lines place free ps).place
reading_place lines place free [] = omega arith
reading_place lines place free (p ∷ []) = omega arith
reading_place lines place free (p ∷ (q ∷ ps)) =
    at_row_place (record_of p) lines place free _ (λ less. let h = reading_place (lines + 1) (place + length p + 1) less (q ∷ ps) in omega (arith, h))

-- ---- how many bytes parts stand for, with an end for each

size : List (List ℕ) → ℕ
size [] = 0
size (p ∷ ps) = length p + 1 + size ps

size_onto_first : (x : ℕ) (ps : List (List ℕ)) → 0 < length ps → size (onto_first x ps) ≡ size ps + 1
unfolding size
size_onto_first x [] h = absurd (omega arith)
size_onto_first x (p ∷ ps) h = omega arith

size_parts : (b : ℕ) (xs : List ℕ) → size (parts b xs) ≡ length xs + 1
unfolding size
size_parts b [] = refl
size_parts b (x ∷ xs) =
    cond_both (eqb x b) ([] ∷ parts b xs) (onto_first x (parts b xs)) (λ ps. size ps ≡ length (x ∷ xs) + 1) (λ _. omega (arith, size_parts b xs)) (λ _. omega (arith, size_parts b xs, size_onto_first x (parts b xs) (parts_some b xs)))

-- ---- the same refusal

pub reading_line : (lines place free : ℕ) (p : List ℕ) (ps : List (List ℕ)) → 0 < length ps → reading lines place free (p ∷ ps) ≡ at_row (record_of p) lines place free (λ less. reading (lines + 1) (place + length p + 1) less ps)
reading_line lines place free p [] h = absurd (omega arith)
reading_line lines place free p (q ∷ ps) h = refl

module _ (front : ℕ) (e : LineFault) where
  -- refused at a place up to `front`
  abbrev Refused : Reading → Type 0
  Refused m = (m.refusal ≡ Some e) × (m.place ≤ front)

  at_row_same : (o : Option Record) (lines place free : ℕ) (rest rest' : ℕ → Reading) → ((less : ℕ) → Refused (rest less) → rest' less ≡ rest less) → Refused (at_row o lines place free rest) → at_row o lines place free rest' ≡ at_row o lines place free rest
  at_row_same None lines place free rest rest' h r = refl
  at_row_same (Some x) lines place zero rest rest' h r = refl
  at_row_same (Some x) lines place (suc free) rest rest' h r = ap (λ m. with x m) (h free r)

  reading_same : (ps qs qs' : List (List ℕ)) (lines place free : ℕ) → 0 < length qs → 0 < length qs' → front < place + size ps → Refused (reading lines place free (ps ++ qs)) → reading lines place free (ps ++ qs') ≡ reading lines place free (ps ++ qs)
  unfolding size
  reading_same [] qs qs' lines place free some some' far r = absurd (omega (arith, reading_place lines place free qs, r.1))
  reading_same (p ∷ ps) qs qs' lines place free some some' far r =
      let more : 0 < length (ps ++ qs) = omega (arith, length-append ps qs) in
      let more' : 0 < length (ps ++ qs') = omega (arith, length-append ps qs') in
      reading_line lines place free p (ps ++ qs') more'
      ∙ at_row_same
      (record_of p)
      lines
      place
      free
      (λ less. reading (lines + 1) (place + length p + 1) less (ps ++ qs))
      (λ less. reading (lines + 1) (place + length p + 1) less (ps ++ qs'))
      (λ less h. reading_same ps qs qs' (lines + 1) (place + length p + 1) less some some' (omega (arith, far)) h)
      (subst Refused (reading_line lines place free p (ps ++ qs) more) r)
      ∙ sym (reading_line lines place free p (ps ++ qs) more)

pub same_answer : SameAnswer
same_answer front x y free e refusal place =
    let is : (z : List ℕ) → read_whole (front ++ (10 ∷ z)) free ≡ reading 0 0 free (parts 10 front ++ parts 10 z) = λ z. ap (reading 0 0 free) (parts-append 10 front z) in
    let refused : Refused (length front) e (reading 0 0 free (parts 10 front ++ parts 10 x)) = subst (Refused (length front) e) (is x) (refusal, place) in
    is y ∙ reading_same (length front) e (parts 10 front) (parts 10 x) (parts 10 y) 0 0 free (parts_some 10 x) (parts_some 10 y) (omega (arith, size_parts 10 front)) refused ∙ sym (is x)
