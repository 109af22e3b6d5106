-- Every record that is read is lawful.
use Rattle.std.proofs.Common.{◌≡◌, ℕ, zero, suc, ◌+◌, ◌≤◌, Bool, true, false, ◌&&◌, leb, List, [], ◌∷◌, length, Some, None, Option, refl, subst, arith}
use Rattle.std.specs.Bool.{then_some}
use Rattle.std.specs.List.{AllByRecursion}
use Rattle.std.proofs.lemmas.Bool.{and_parts, leb-true}
use Rattle.lines.specs.declared.kind.Kind.{Kind}
use Rattle.lines.specs.declared.record.Record.{Record}
use Rattle.lines.specs.Layout.{given, is_circuit, circuit_of, kind_of_one, number_of, number_within, limit_of, chain_of, to_record, of_fields, of_parts, record_of, Lawful}
use Rattle.lines.specs.declared.reader.LineReader.{LineReader}
use Rattle.lines.specs.Parts.{parts}
use Rattle.lines.specs.Readers.{left, reading_of}
use Rattle.lines.specs.Reading.{Reading, at_row, reading}

-- ---- a value that is there came from values that are there

pub given_some : {A B : Type 0} (o : Option A) (f : A → Option B) (b : B) → given o f ≡ Some b → (a : A) × (o ≡ Some a) × (f a ≡ Some b)
given_some None f b h = let z : ◌≡◌ {A = ℕ} 0 1 = cc in absurd (omega arith)
given_some (Some a) f b h = (a, refl, h)

then_some_is : {A : Type 0} (t : Bool) (x y : A) → then_some t x ≡ Some y → (t ≡ true) × (x ≡ y)
then_some_is true x y h = (refl, cc)
then_some_is false x y h = let z : ◌≡◌ {A = ℕ} 0 1 = cc in absurd (omega arith)

same_some : {A : Type 0} (x y : A) → Some x ≡ Some y → x ≡ y
same_some x y h = cc

-- ---- fields, lines

number_in : (digits least most : ℕ) (bs : List ℕ) (n : ℕ) → number_within digits least most bs ≡ Some n → (least ≤ n) × (n ≤ most)
number_in digits least most bs n h =
    let p = given_some (number_of digits bs) (λ m. then_some (leb least m && leb m most) m) n h in
    let q = then_some_is (leb least p.0 && leb p.0 most) p.0 n p.2 in
    let t = and_parts (leb least p.0) (leb p.0 most) q.0 in
    (omega (arith, leb-true least p.0 t.0, q.1), omega (arith, leb-true p.0 most t.1, q.1))

to_record_lem : (c bs : List ℕ) (k : Kind) (n m : ℕ) → then_some (is_circuit c) c ≡ Some bs → n ≤ 2000000 → (1 ≤ m) × (m ≤ 64) → Lawful (to_record bs k n m)
to_record_lem c bs k n m circuit limit chain =
    let w = then_some_is (is_circuit c) c bs circuit in
    record {
      bytes = bs;
      lawful = subst (λ x. is_circuit x ≡ true) w.1 w.0;
      circuit = refl;
      limit = limit;
      chain_some = chain.0;
      chain = chain.1;
    }

of_fields_lem : (c k l h : List ℕ) (r : Record) → of_fields c k l h ≡ Some r → Lawful r
of_fields_lem c k l h r e =
    let p = given_some (circuit_of c) (λ bs. given (kind_of_one k) (λ x. given (limit_of l) (λ n. given (chain_of h) (λ m. Some (to_record bs x n m))))) r e in
    let q = given_some (kind_of_one k) (λ x. given (limit_of l) (λ n. given (chain_of h) (λ m. Some (to_record p.0 x n m)))) r p.2 in
    let s = given_some (limit_of l) (λ n. given (chain_of h) (λ m. Some (to_record p.0 q.0 n m))) r q.2 in
    let t = given_some (chain_of h) (λ m. Some (to_record p.0 q.0 s.0 m)) r s.2 in
    subst Lawful (same_some (to_record p.0 q.0 s.0 t.0) r t.2) (to_record_lem c p.0 q.0 s.0 t.0 p.1 (number_in 7 0 2000000 l s.0 s.1).1 (number_in 2 1 64 h t.0 t.1))

of_parts_lem : (ps : List (List ℕ)) (r : Record) → of_parts ps ≡ Some r → Lawful r
of_parts_lem [] r e = let z : ◌≡◌ {A = ℕ} 0 1 = cc in absurd (omega arith)
of_parts_lem (c ∷ []) r e = let z : ◌≡◌ {A = ℕ} 0 1 = cc in absurd (omega arith)
of_parts_lem (c ∷ (k ∷ [])) r e = let z : ◌≡◌ {A = ℕ} 0 1 = cc in absurd (omega arith)
of_parts_lem (c ∷ (k ∷ (l ∷ []))) r e = let z : ◌≡◌ {A = ℕ} 0 1 = cc in absurd (omega arith)
of_parts_lem (c ∷ (k ∷ (l ∷ (h ∷ [])))) r e = of_fields_lem c k l h r e
of_parts_lem (c ∷ (k ∷ (l ∷ (h ∷ (x ∷ xs))))) r e = let z : ◌≡◌ {A = ℕ} 0 1 = cc in absurd (omega arith)

pub record_lawful : (line : List ℕ) (r : Record) → record_of line ≡ Some r → Lawful r
record_lawful line r e = of_parts_lem (parts 9 line) r e

-- ---- files

at_row_lem : (o : Option Record) (lines place free : ℕ) (rest : ℕ → Reading) → ((r : Record) → o ≡ Some r → Lawful r) → ((less : ℕ) → AllByRecursion Lawful (rest less).records) → AllByRecursion Lawful (at_row o lines place free rest).records
at_row_lem None lines place free rest h k = tt
at_row_lem (Some r) lines place zero rest h k = tt
at_row_lem (Some r) lines place (suc free) rest h k = (h r refl, k free)

reading_lawful : (lines place free : ℕ) (ps : List (List ℕ)) → AllByRecursion Lawful (reading lines place free ps).records
reading_lawful lines place free [] = tt
reading_lawful lines place free (p ∷ []) = tt
reading_lawful lines place free (p ∷ (q ∷ ps)) = at_row_lem (record_of p) lines place free _ (record_lawful p) (λ less. reading_lawful (lines + 1) (place + length p + 1) less (q ∷ ps))

pub rows_lawful : (rd : LineReader) (free : ℕ) → AllByRecursion Lawful (reading_of rd free).records
rows_lawful rd free = reading_lawful rd.lines rd.place free (left rd)
