-- Lawful lines written out read back.
use Rattle.std.proofs.Common.{◌≡◌, ℕ, zero, suc, ◌+◌, ◌-◌, ◌*◌, ◌/◌, ◌%◌, ◌^◌, ◌<◌, ◌≤◌, Bool, true, ◌&&◌, eqb, leb, List, [], ◌∷◌, ◌++◌, map, length, replicate, Some, None, sym, refl, ap, ◌∙◌, subst, append_assoc, arith, length-append}
use Rattle.std.specs.Bool.{then_some}
use Rattle.std.specs.List.{AllByRecursion, list_all, onto_first}
use Rattle.std.proofs.lemmas.List.Splits.{slice_split-cons_no}
use Rattle.std.proofs.lemmas.Fmt.{decimal_by_steps, decimal_nonempty}
use Rattle.std.proofs.ByRecursion.{All-append, All-push}
use Rattle.std.proofs.lemmas.Bool.{and_parts, and_from, cond-true, ne_eqb, le-leb}
use Rattle.std.proofs.lemmas.Bool.Decides.{nat_tests}
use Rattle.lines.specs.declared.kind.Kind.{Kind}
use Rattle.lines.specs.declared.kind.Kind.TheVariants.{Dipole, Quadrupole, Sextupole, Steerer}
use Rattle.lines.specs.declared.record.Record.{Record}
use Rattle.lines.specs.Kinds.{letter_of}
use Rattle.lines.specs.Laws.{padded, Says, file_of, ReadsBack}
use Rattle.lines.specs.Layout.{given, circuit_byte, is_circuit, circuit_of, kind_of_one, digit_of, value_from, number_of, number_within, limit_of, chain_of, to_record, of_parts, record_of}
use Rattle.texts.specs.Numbers.{digits}
use Rattle.lines.specs.Parts.{parts}
use Rattle.lines.specs.Reading.{Reading, with, at_row, reading}
use Rattle.lines.proofs.Agrees.{parts-append, reading_line}
use Rattle.lines.proofs.Cuts.{parts_some}
use Rattle.texts.proofs.Digits.{digits_is}
use Rattle.lines.proofs.Lawfuls.{given_some}
use Rattle.lines.specs.Records.{same_record}

-- ---- lists that lack a byte

abbrev Lacks : ℕ → List ℕ → Type 0
Lacks b xs = AllByRecursion (λ x. x ≡ b → ⊥) xs

parts_lacks : (b : ℕ) (xs : List ℕ) → Lacks b xs → parts b xs ≡ xs ∷ []
parts_lacks b [] h = refl
parts_lacks b (x ∷ xs) h = slice_split-cons_no (λ y. eqb y b) x xs (ne_eqb x b h.0) ∙ ap (onto_first x) (parts_lacks b xs h.1)

cut_lacks : (b : ℕ) (xs ys : List ℕ) → Lacks b xs → parts b (xs ++ (b ∷ ys)) ≡ xs ∷ parts b ys
cut_lacks b xs ys h = parts-append b xs ys ∙ ap (λ ps. ps ++ parts b ys) (parts_lacks b xs h)

-- every byte of the list is at least `low`
abbrev From : ℕ → List ℕ → Type 0
From low xs = AllByRecursion (λ x. low ≤ x) xs

lacks_from : (low b : ℕ) (xs : List ℕ) → b < low → From low xs → Lacks b xs
lacks_from low b [] h f = tt
lacks_from low b (x ∷ xs) h f = (λ e. omega (arith, f.0, e), lacks_from low b xs h f.1)

-- ---- digits

digit_of_lem : (d : ℕ) → d ≤ 9 → digit_of (48 + d) ≡ Some d
digit_of_lem d h =
    let low : leb 48 (48 + d) ≡ true = le-leb 48 (48 + d) (omega arith) in
    let high : leb (48 + d) 57 ≡ true = le-leb (48 + d) 57 (omega arith) in
    ap (λ t. then_some t (48 + d - 48)) (and_from (leb 48 (48 + d)) (leb (48 + d) 57) low high) ∙ ap Some (omega arith)

value_push : (v : ℕ) (ds : List ℕ) (w d : ℕ) → value_from v ds ≡ Some w → d ≤ 9 → value_from v (ds ++ ((48 + d) ∷ [])) ≡ Some (w * 10 + d)
value_push v [] w d e h = let same : v ≡ w = cc in ap (λ o. given o (λ x. Some (v * 10 + x))) (digit_of_lem d h) ∙ ap (λ x. Some (x * 10 + d)) same
value_push v (x ∷ xs) w d e h =
    let p = given_some (digit_of x) (λ y. value_from (v * 10 + y) xs) w e in
    ap (λ o. given o (λ y. value_from (v * 10 + y) (xs ++ ((48 + d) ∷ [])))) p.1 ∙ value_push (v * 10 + p.0) xs w d p.2 h

-- digits that are written have the number as their value, and are bytes from 48 on
abbrev Reads : ℕ → List ℕ → Type 0
Reads n ds = (value_from 0 ds ≡ Some n) × From 48 ds

digits_read : (n : ℕ) → n < 2 ^ 64 → Reads n (digits n)
digits_read n h =
    subst
    (Reads n)
    (sym (digits_is n h))
    (decimal_by_steps
    Reads
    (λ m k. (ap (λ o. given o (λ x. Some (0 * 10 + x))) (digit_of_lem m (omega arith)) ∙ ap Some (omega arith), (omega arith, tt)))
    (λ m ds k r. (value_push 0 ds (m / 10) (m % 10) r.0 (omega arith) ∙ ap Some (omega arith), All-push (λ x. 48 ≤ x) ds (48 + m % 10) r.1 (omega arith)))
    n
    h)

padded_read : (zeros n : ℕ) → n < 2 ^ 64 → Reads n (padded zeros n)
padded_read zero n h = digits_read n h
padded_read (suc zeros) n h = let r = padded_read zeros n h in (r.0, (omega arith, r.1))

padded_some : (zeros n : ℕ) → n < 2 ^ 64 → 1 ≤ length (padded zeros n)
padded_some zeros n h = omega (arith, length-append (replicate zeros 48) (digits n), ap length (digits_is n h), decimal_nonempty n h)

number_of_lem : (most zeros n : ℕ) → n < 2 ^ 64 → length (padded zeros n) ≤ most → number_of most (padded zeros n) ≡ Some n
number_of_lem most zeros n h short =
    let text = padded zeros n in
    let some : leb 1 (length text) ≡ true = le-leb 1 (length text) (padded_some zeros n h) in
    let few : leb (length text) most ≡ true = le-leb (length text) most short in
    cond-true (leb 1 (length text) && leb (length text) most) (value_from 0 text) None (and_from (leb 1 (length text)) (leb (length text) most) some few) ∙ (padded_read zeros n h).0

number_within_lem : (most least greatest zeros n : ℕ) → n < 2 ^ 64 → length (padded zeros n) ≤ most → least ≤ n → n ≤ greatest → number_within most least greatest (padded zeros n) ≡ Some n
number_within_lem most least greatest zeros n h short low high =
    ap (λ o. given o (λ m. then_some (leb least m && leb m greatest) m)) (number_of_lem most zeros n h short)
    ∙ ap (λ t. then_some t n) (and_from (leb least n) (leb n greatest) (le-leb least n low) (le-leb n greatest high))

-- ---- fields

every_from : (p : ℕ → Bool) (low : ℕ) → ((x : ℕ) → p x ≡ true → low ≤ x) → (xs : List ℕ) → list_all p xs ≡ true → From low xs
every_from p low h [] e = tt
every_from p low h (x ∷ xs) e = let q = and_parts (p x) (list_all p xs) e in (h x q.0, every_from p low h xs q.1)

circuit_byte_lem : (x : ℕ) → circuit_byte x ≡ true → 45 ≤ x
circuit_byte_lem x h = grind (arith, nat_tests)

circuit_from : (bs : List ℕ) → is_circuit bs ≡ true → From 45 bs
circuit_from bs h =
    let p = and_parts (leb 1 (length bs)) (leb (length bs) 12 && list_all circuit_byte bs) h in
    let q = and_parts (leb (length bs) 12) (list_all circuit_byte bs) p.1 in
    every_from circuit_byte 45 circuit_byte_lem bs q.1

kind_of_lem : (k : Kind) → kind_of_one (letter_of k ∷ []) ≡ Some k
kind_of_lem Dipole = refl
kind_of_lem Quadrupole = refl
kind_of_lem Sextupole = refl
kind_of_lem Steerer = refl

letter_from : (k : Kind) → 68 ≤ letter_of k
letter_from Dipole = omega arith
letter_from Quadrupole = omega arith
letter_from Sextupole = omega arith
letter_from Steerer = omega arith

-- ---- a line

module _ (line : List ℕ) (r : Record) (s : Says line r) where
  abbrev limit_text : List ℕ
  limit_text = padded s.zeros r.limit

  abbrev chain_text : List ℕ
  chain_text = padded s.more_zeros r.chain

  abbrev behind_kind : List ℕ
  behind_kind = limit_text ++ (9 ∷ chain_text)

  limit_small : r.limit < 2 ^ 64
  limit_small = omega (arith, s.limit)

  chain_small : r.chain < 2 ^ 64
  chain_small = omega (arith, s.chain)

  limit_from : From 48 limit_text
  limit_from = (padded_read s.zeros r.limit limit_small).1

  chain_from : From 48 chain_text
  chain_from = (padded_read s.more_zeros r.chain chain_small).1

  line_parts : parts 9 line ≡ s.circuit ∷ ((letter_of r.kind ∷ []) ∷ (limit_text ∷ (chain_text ∷ [])))
  line_parts =
      ap (parts 9) s.line_is ∙ cut_lacks 9 s.circuit (letter_of r.kind ∷ (9 ∷ behind_kind)) (lacks_from 45 9 s.circuit (omega arith) (circuit_from s.circuit s.lawful))
      ∙ ap (λ ps. s.circuit ∷ ps) (cut_lacks 9 (letter_of r.kind ∷ []) behind_kind (λ e. omega (arith, letter_from r.kind, e), tt)
      ∙ ap (λ ps. (letter_of r.kind ∷ []) ∷ ps) (cut_lacks 9 limit_text chain_text (lacks_from 48 9 limit_text (omega arith) limit_from)
      ∙ ap (λ ps. limit_text ∷ ps) (parts_lacks 9 chain_text (lacks_from 48 9 chain_text (omega arith) chain_from))))

  limit_of_lem : limit_of limit_text ≡ Some r.limit
  limit_of_lem = number_within_lem 7 0 2000000 s.zeros r.limit limit_small s.limit_digits (omega arith) s.limit

  chain_of_lem : chain_of chain_text ≡ Some r.chain
  chain_of_lem = number_within_lem 2 1 64 s.more_zeros r.chain chain_small s.chain_digits s.chain_some s.chain

  pub line_reads : record_of line ≡ Some r
  line_reads =
      let circuit : circuit_of s.circuit ≡ Some s.circuit = ap (λ t. then_some t s.circuit) s.lawful in
      ap of_parts line_parts
      ∙ ap (λ o. given o (λ bs. given (kind_of_one (letter_of r.kind ∷ [])) (λ k. given (limit_of limit_text) (λ n. given (chain_of chain_text) (λ m. Some (to_record bs k n m)))))) circuit
      ∙ ap (λ o. given o (λ k. given (limit_of limit_text) (λ n. given (chain_of chain_text) (λ m. Some (to_record s.circuit k n m))))) (kind_of_lem r.kind)
      ∙ ap (λ o. given o (λ n. given (chain_of chain_text) (λ m. Some (to_record s.circuit r.kind n m)))) limit_of_lem
      ∙ ap (λ o. given o (λ m. Some (to_record s.circuit r.kind r.limit m))) chain_of_lem
      ∙ ap Some (sym (same_record r (to_record s.circuit r.kind r.limit r.chain) s.circuit_is refl refl refl))

  pub line_lacks_end : Lacks 10 line
  line_lacks_end =
      let tail : Lacks 10 behind_kind = All-append (λ x. x ≡ 10 → ⊥) limit_text (9 ∷ chain_text) (lacks_from 48 10 limit_text (omega arith) limit_from) (λ e. omega (arith, e), lacks_from 48 10 chain_text (omega arith) chain_from) in
      subst
      (Lacks 10)
      (sym s.line_is)
      (All-append (λ x. x ≡ 10 → ⊥) s.circuit (9 ∷ (letter_of r.kind ∷ (9 ∷ behind_kind))) (lacks_from 45 10 s.circuit (omega arith) (circuit_from s.circuit s.lawful)) (λ e. omega (arith, e), (λ e. omega (arith, letter_from r.kind, e), (λ e. omega (arith, e), tail))))

-- ---- a file

abbrev whole : List (List ℕ × Record) → ℕ → ℕ → Reading
whole ls lines place = record { records = map (λ l. l.1) ls; place = place + length (file_of ls); lines = lines + length ls; refusal = None }

file_reads : (ls : List (List ℕ × Record)) (lines place free : ℕ) → AllByRecursion (λ l. Says l.0 l.1) ls → length ls ≤ free → reading lines place free (parts 10 (file_of ls)) ≡ whole ls lines place
file_reads [] lines place free says room =
    let here : place ≡ place + 0 = omega arith in
    let none : lines ≡ lines + 0 = omega arith in
    ap (λ p. record { records = []; place = p; lines = lines; refusal = None }) here ∙ ap (λ n. record { records = []; place = place + 0; lines = n; refusal = None }) none
file_reads (l ∷ ls) lines place zero says room = absurd (omega arith)
file_reads (l ∷ ls) lines place (suc free) says room =
    let more = file_of ls in
    let long : length (file_of (l ∷ ls)) ≡ length l.0 + 1 + length more = length-append (l.0 ++ (10 ∷ [])) more ∙ ap (λ n. n + length more) (length-append l.0 (10 ∷ [])) in
    let here : place + length l.0 + 1 + length more ≡ place + length (file_of (l ∷ ls)) = omega (arith, long) in
    let one : lines + 1 + length ls ≡ lines + length (l ∷ ls) = omega arith in
    ap (λ bs. reading lines place (suc free) (parts 10 bs)) (append_assoc l.0 (10 ∷ []) more)
    ∙ ap (reading lines place (suc free)) (cut_lacks 10 l.0 more (line_lacks_end l.0 l.1 says.0))
    ∙ reading_line lines place (suc free) l.0 (parts 10 more) (parts_some 10 more)
    ∙ ap (λ o. at_row o lines place (suc free) (λ less. reading (lines + 1) (place + length l.0 + 1) less (parts 10 more))) (line_reads l.0 l.1 says.0)
    ∙ ap (with l.1) (file_reads ls (lines + 1) (place + length l.0 + 1) free says.1 (omega arith))
    ∙ ap (λ p. record { records = map (λ k. k.1) (l ∷ ls); place = p; lines = lines + 1 + length ls; refusal = None }) here
    ∙ ap (λ n. record { records = map (λ k. k.1) (l ∷ ls); place = place + length (file_of (l ∷ ls)); lines = n; refusal = None }) one

pub reads_back : ReadsBack
reads_back ls free says room =
    let p : 0 + length (file_of ls) ≡ length (file_of ls) = omega arith in
    let n : 0 + length ls ≡ length ls = omega arith in
    file_reads ls 0 0 free says room
    ∙ ap (λ k. record { records = map (λ l. l.1) ls; place = k; lines = 0 + length ls; refusal = None }) p
    ∙ ap (λ k. record { records = map (λ l. l.1) ls; place = length (file_of ls); lines = k; refusal = None }) n
