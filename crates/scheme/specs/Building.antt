-- Building a list: from its elements to its signature. Assumes nothing.
--     Both E                  what the two dictionaries mean
--     building order xs       names what the list xs is made of, round by round, and answers its signature or the first Full
-- The steps go on until one is refused; what was named before stays.
use Rattle.std.specs.Prelude.{ℕ, zero, suc, ◌+◌, ◌*◌, cond, List, [], ◌∷◌, length, take, drop, Ok, Err, Result, ◌==◌}
use Rattle.std.specs.declared.cmp.Ordering.{Ordering}
use Rattle.cutting.specs.Blocks.{blocks}
use Rattle.dictionary.specs.Does.{Out, out}
use Rattle.dictionary.specs.Meaning.{Meaning, naming}
use Rattle.dictionary.specs.declared.refusals.Full.{Full}
use Rattle.scheme.specs.declared.composition.Composition.{Composition}
use Rattle.scheme.specs.declared.faults.BuildFault.{BuildFault}
use Rattle.scheme.specs.declared.faults.BuildFault.TheVariants.{Elements, Compositions}
use Rattle.scheme.specs.Compositions.{Entry, element, power, block, names, in_order}

pub record Both (E : Type 0) : Type 0 where
  pub elements : Meaning E
  pub compositions : Meaning Composition

abbrev pub both : {E : Type 0} → Meaning E → Meaning Composition → Both E
both es cs = record { elements = es; compositions = cs }

abbrev pub entry : ℕ → ℕ → Entry
entry name length = record { name = name; length = length }

-- ---- runs and blocks of a row

-- a run: an entry, and how often it stands there
abbrev pub on_run : Entry → List (Entry × ℕ) → List (Entry × ℕ)
on_run e [] = (e, 1) ∷ []
on_run e (r ∷ rs) = cond (e.name == r.0.name) ((e, r.1 + 1) ∷ rs) ((e, 1) ∷ (r ∷ rs))

abbrev pub runs_of : List Entry → List (Entry × ℕ)
runs_of [] = []
runs_of (e ∷ es) = on_run e (runs_of es)

-- the entries of a row, block by block
abbrev pub in_blocks : List (List ℕ) → List Entry → List (List Entry)
in_blocks [] es = []
in_blocks (b ∷ bs) es = take (length b) es ∷ in_blocks bs (drop (length b) es)

abbrev pub blocks_of : List Entry → List (List Entry)
blocks_of es = in_blocks (blocks (names es)) es

-- ---- one step after another, as long as none is refused

abbrev pub Doing : Type 0 → Type 0 → Type 0
Doing E A = Out (Result A BuildFault) (Both E)

abbrev pub and_then : {E A B : Type 0} → Result A BuildFault → Both E → (A → Both E → Doing E B) → Doing E B
and_then (Ok x) b f = f x b
and_then (Err e) b f = out (Err e) b

abbrev pub follow : {E A B : Type 0} → Doing E A → (A → Both E → Doing E B) → Doing E B
follow d f = and_then d.answer d.after f

-- ---- naming in either dictionary; Full tells the position, or the round of the row in hand

abbrev as_element : ℕ → Result ℕ Full → Result ℕ BuildFault
as_element position (Ok n) = Ok n
as_element position (Err e) = Err (Elements position e)

abbrev as_composition : ℕ → Result ℕ Full → Result ℕ BuildFault
as_composition round (Ok n) = Ok n
as_composition round (Err e) = Err (Compositions round e)

module _ {E : Type 0} (order : E → E → Ordering) where
  abbrev pub name_element : ℕ → E → Both E → Doing E ℕ
  name_element position x b = let o = naming order x b.elements in out (as_element position o.answer) (both o.after b.compositions)

module _ {E : Type 0} where
  abbrev pub name_composition : ℕ → Composition → Both E → Doing E ℕ
  name_composition round c b = let o = naming in_order c b.compositions in out (as_composition round o.answer) (both b.elements o.after)

  -- the name stands in front of the names that follow
  abbrev pub in_front : Entry → Doing E (List Entry) → Doing E (List Entry)
  in_front e d = follow d (λ es b. out (Ok (e ∷ es)) b)

  -- ---- runs of equal names, each replaced by its power

  abbrev pub name_power : ℕ → Entry → ℕ → Both E → Doing E Entry
  name_power round e zero b = out (Ok e) b
  name_power round e (suc zero) b = out (Ok e) b
  name_power round e (suc (suc k)) b =
      follow (name_composition round (power round e.name e.length (suc (suc k))) b) (λ n b. out (Ok (entry n (suc (suc k) * e.length))) b)

  abbrev pub name_powers : ℕ → List (Entry × ℕ) → Both E → Doing E (List Entry)
  name_powers round [] b = out (Ok []) b
  name_powers round (r ∷ rs) b = follow (name_power round r.0 r.1 b) (λ e b. in_front e (name_powers round rs b))

  -- ---- blocks, from left to right

  abbrev pub name_blocks : ℕ → List (List Entry) → Both E → Doing E (List Entry)
  name_blocks round [] b = out (Ok []) b
  name_blocks round (es ∷ more) b =
      follow (name_composition round (block round es) b) (λ n b. in_front (entry n (block round es).length) (name_blocks round more b))

  -- ---- round by round: a row of one name is finished. There are fewer rounds than names in the first row

  abbrev pub risen : List Entry → Both E → (List Entry → Both E → Doing E ℕ) → Doing E ℕ
  risen [] b next = out (Ok 0) b
  risen (e ∷ []) b next = out (Ok e.name) b
  risen (e ∷ (f ∷ es)) b next = next (e ∷ (f ∷ es)) b

  abbrev pub rising : ℕ → ℕ → List Entry → Both E → Doing E ℕ
  rising zero round row b = out (Ok 0) b
  rising (suc rounds) round row b =
      follow (name_powers round (runs_of row) b) (λ powered b. risen powered b (λ es b. follow (name_blocks round (blocks_of es) b) (λ above b. rising rounds (round + 1) above b)))

module _ {E : Type 0} (order : E → E → Ordering) where
  abbrev pub name_elements : ℕ → List E → Both E → Doing E (List Entry)
  name_elements position [] b = out (Ok []) b
  name_elements position (x ∷ xs) b =
      follow (name_element order position x b) (λ n b. follow (name_composition 0 (element n) b) (λ name b. in_front (entry name 1) (name_elements (position + 1) xs b)))

  abbrev pub building : List E → Both E → Doing E ℕ
  building xs b = follow (name_elements 0 xs b) (λ row b. rising (length xs) 0 row b)
