-- What names stand for, where the dictionaries have the keys es and cs. Assumes nothing.
--     Spells r n xs       the name n, of round r, stands for the list xs
--     Base r c xs         the composition c, an element or a block of round r, stands for xs
--     Whole r c xs        c, which may be a power too, stands for xs
-- The lengths that compositions hold are those of their lists. Keys that no building named may be anything.
use Rattle.std.specs.Prelude.{◌≡◌, ℕ, zero, suc, ◌≤◌, ◌⊎◌, List, [], ◌∷◌, ◌++◌, map, length, Some}
use Rattle.std.specs.List.{flat_map, AllByRecursion}
use Rattle.dictionary.specs.Meaning.{key_of}
use Rattle.scheme.specs.declared.composition.Composition.{Composition}
use Rattle.scheme.specs.Compositions.{Entry, element, power, block}

abbrev pub copies : {E : Type 0} → ℕ → List E → List E
copies zero xs = []
copies (suc k) xs = xs ++ copies k xs

-- a name of a block, and the list that it stands for
pub record Part (E : Type 0) : Type 0 where
  pub name : ℕ
  pub list : List E

abbrev pub entry_of : {E : Type 0} → Part E → Entry
entry_of p = record { name = p.name; length = length p.list }

module _ {E : Type 0} (es : List E) (cs : List Composition) where
  -- an element
  pub record One (c : Composition) (xs : List E) : Type 0 where
    pub number : ℕ
    pub value : E
    pub is : c ≡ element number
    pub key : key_of es number ≡ Some value
    pub list : xs ≡ value ∷ []

  -- a block of names of round r, each standing for its list
  pub record Many (Stands : ℕ → List E → Type 0) (r : ℕ) (c : Composition) (xs : List E) : Type 0 where
    pub parts : List (Part E)
    pub is : c ≡ block r (map entry_of parts)
    pub two : 2 ≤ length parts
    pub six : length parts ≤ 6
    pub stand : AllByRecursion (λ p. Stands p.name p.list) parts
    pub list : xs ≡ flat_map (λ p. p.list) parts

  -- a power of an element or a block
  pub record Times (Stands : Composition → List E → Type 0) (r : ℕ) (c : Composition) (xs : List E) : Type 0 where
    pub name : ℕ
    pub count : ℕ
    pub base : Composition
    pub once : List E
    pub is : c ≡ power r name (length once) count
    pub two : 2 ≤ count
    pub key : key_of cs name ≡ Some base
    pub stands : Stands base once
    pub list : xs ≡ copies count once

  abbrev OrPower : (Composition → List E → Type 0) → ℕ → Composition → List E → Type 0
  OrPower Stands r c xs = Stands c xs ⊎ Times Stands r c xs

  pub record Named (Stands : Composition → List E → Type 0) (n : ℕ) (xs : List E) : Type 0 where
    pub composition : Composition
    pub key : key_of cs n ≡ Some composition
    pub stands : Stands composition xs

  unfoldable pub Base : ℕ → Composition → List E → Type 0
  Base zero c xs = One c xs
  Base (suc r) c xs = Many (Named (OrPower (Base r) r)) r c xs

  abbrev pub Whole : ℕ → Composition → List E → Type 0
  Whole r c xs = OrPower (Base r) r c xs

  abbrev pub Spells : ℕ → ℕ → List E → Type 0
  Spells r n xs = Named (Whole r) n xs
