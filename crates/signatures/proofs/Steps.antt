-- One induction over building: it is made of answers, of steps one after the other, and of namings in either dictionary. What holds of those and goes through steps holds of all. Assumes nothing.
use Rattle.std.proofs.Common.{ℕ, zero, suc, ◌+◌, ◌*◌, List, [], ◌∷◌, length, Ok, Ordering}
use Rattle.dictionary.specs.Does.{out}
use Rattle.scheme.specs.declared.composition.Composition.{Composition}
use Rattle.scheme.specs.Compositions.{Entry, element, power, block}
use Rattle.scheme.specs.Building.{Both, Doing, entry, runs_of, blocks_of, follow, name_element, name_composition, in_front, name_power, name_powers, name_blocks, risen, rising, name_elements, building}

-- P holds of an answer, of two steps one after the other, and of the two namings
pub record Closed {E : Type 0} (order : E → E → Ordering) (P : (A : Type 0) → (Both E → Doing E A) → Type 0) : Type 1 where
  pub done : (A : Type 0) (x : A) → P A (λ b. out (Ok x) b)
  pub after : (A B : Type 0) (f : Both E → Doing E A) (g : A → Both E → Doing E B) → P A f → ((x : A) → P B (g x)) → P B (λ b. follow (f b) g)
  pub element : (position : ℕ) (x : E) → P ℕ (name_element order position x)
  pub composition : (round : ℕ) (c : Composition) → P ℕ (name_composition round c)

module _ {E : Type 0} (order : E → E → Ordering) (P : (A : Type 0) → (Both E → Doing E A) → Type 0) (closed : Closed order P) where
  in_front_lem : (e : Entry) (f : Both E → Doing E (List Entry)) → P (List Entry) f → P (List Entry) (λ b. in_front e (f b))
  in_front_lem e f p = closed.after (List Entry) (List Entry) f (λ es b. out (Ok (e ∷ es)) b) p (λ es. closed.done (List Entry) (e ∷ es))

  pub at_power : (round : ℕ) (e : Entry) (k : ℕ) → P Entry (name_power round e k)
  at_power round e zero = closed.done Entry e
  at_power round e (suc zero) = closed.done Entry e
  at_power round e (suc (suc k)) =
      closed.after ℕ Entry (name_composition round (power round e.name e.length (suc (suc k)))) (λ n b. out (Ok (entry n (suc (suc k) * e.length))) b)
      (closed.composition round (power round e.name e.length (suc (suc k))))
      (λ n. closed.done Entry (entry n (suc (suc k) * e.length)))

  pub at_powers : (round : ℕ) (rs : List (Entry × ℕ)) → P (List Entry) (name_powers round rs)
  at_powers round [] = closed.done (List Entry) []
  at_powers round (r ∷ rs) =
      closed.after Entry (List Entry) (name_power round r.0 r.1) (λ e b. in_front e (name_powers round rs b))
      (at_power round r.0 r.1)
      (λ e. in_front_lem e (name_powers round rs) (at_powers round rs))

  pub at_blocks : (round : ℕ) (bs : List (List Entry)) → P (List Entry) (name_blocks round bs)
  at_blocks round [] = closed.done (List Entry) []
  at_blocks round (es ∷ more) =
      closed.after ℕ (List Entry) (name_composition round (block round es)) (λ n b. in_front (entry n (block round es).length) (name_blocks round more b))
      (closed.composition round (block round es))
      (λ n. in_front_lem (entry n (block round es).length) (name_blocks round more) (at_blocks round more))

  at_risen : (next : List Entry → Both E → Doing E ℕ) → ((es : List Entry) → P ℕ (next es)) → (row : List Entry) → P ℕ (λ b. risen row b next)
  at_risen next p [] = closed.done ℕ 0
  at_risen next p (e ∷ []) = closed.done ℕ e.name
  at_risen next p (e ∷ (f ∷ es)) = p (e ∷ (f ∷ es))

  pub at_rising : (rounds round : ℕ) (row : List Entry) → P ℕ (rising rounds round row)
  at_rising zero round row = closed.done ℕ 0
  at_rising (suc rounds) round row =
      let above : List Entry → Both E → Doing E ℕ = λ above b. rising rounds (round + 1) above b in
      let next : List Entry → Both E → Doing E ℕ = λ es b. follow (name_blocks round (blocks_of es) b) above in
      closed.after (List Entry) ℕ (name_powers round (runs_of row)) (λ powered b. risen powered b next)
      (at_powers round (runs_of row))
      (at_risen next (λ es. closed.after (List Entry) ℕ (name_blocks round (blocks_of es)) above (at_blocks round (blocks_of es)) (λ row. at_rising rounds (round + 1) row)))

  pub at_elements : (position : ℕ) (xs : List E) → P (List Entry) (name_elements order position xs)
  at_elements position [] = closed.done (List Entry) []
  at_elements position (x ∷ xs) =
      let front : ℕ → Both E → Doing E (List Entry) = λ name b. in_front (entry name 1) (name_elements order (position + 1) xs b) in
      closed.after ℕ (List Entry) (name_element order position x) (λ n b. follow (name_composition 0 (element n) b) front)
      (closed.element position x)
      (λ n. closed.after ℕ (List Entry) (name_composition 0 (element n)) front
      (closed.composition 0 (element n))
      (λ name. in_front_lem (entry name 1) (name_elements order (position + 1) xs) (at_elements (position + 1) xs)))

  pub at_building : (xs : List E) → P ℕ (building order xs)
  at_building xs =
      closed.after (List Entry) ℕ (name_elements order 0 xs) (λ row b. rising (length xs) 0 row b) (at_elements 0 xs) (λ row. at_rising (length xs) 0 row)
