-- Worked lists, of bytes written as letters; the dictionaries are empty at first. Assumes nothing.
--     built n m xs       building xs over empty dictionaries of n and m rows
--     next d xs          building xs after the building d
--     WorkedLists        what the rule says of the lists AAAAA; AB, ABAB, A and BAB; ABABAB; ABCDEFGH and ACEGBDFH; AAB and AA; AB
use Rattle.std.specs.Prelude.{◌≡◌, ℕ, List, [], ◌∷◌, length, drop, Ok, Err, codes}
use Rattle.dictionary.specs.Meaning.{new, full}
use Rattle.scheme.specs.declared.composition.Composition.{Composition}
use Rattle.scheme.specs.declared.faults.BuildFault.TheVariants.{Elements, Compositions}
use Rattle.scheme.specs.Building.{both, Doing, entry, building}
use Rattle.scheme.specs.Compositions.{Entry, element, power, block}
use Rattle.std.specs.Ordering.{nat_cmp}

abbrev built : ℕ → ℕ → List ℕ → Doing ℕ ℕ
built n m xs = building nat_cmp xs (both (new n) (new m))

abbrev next : Doing ℕ ℕ → List ℕ → Doing ℕ ℕ
next d xs = building nat_cmp xs d.after

abbrev elements : Doing ℕ ℕ → List ℕ
elements d = d.after.elements.keys

abbrev compositions : Doing ℕ ℕ → List Composition
compositions d = d.after.compositions.keys

-- entries of one length
abbrev entries : ℕ → List ℕ → List Entry
entries len [] = []
entries len (n ∷ ns) = entry n len ∷ entries len ns

-- AAAAA is the power of its element, taken 5 times, of round 0
abbrev FiveEqual : Type 0
FiveEqual = ((built 9 9 (codes "AAAAA")).answer ≡ Ok 2) × (compositions (built 9 9 (codes "AAAAA")) ≡ element 1 ∷ (power 0 1 1 5 ∷ []))

-- AB has the name 3; AB twice is the power of 3; what follows its first element is the block of 2, 1 and 2
abbrev ab : Doing ℕ ℕ
ab = built 9 9 (codes "AB")

abbrev abab : Doing ℕ ℕ
abab = next ab (codes "ABAB")

abbrev a : Doing ℕ ℕ
a = next abab (codes "A")

abbrev bab : Doing ℕ ℕ
bab = next a (codes "BAB")

abbrev TwiceAndParted : Type 0
TwiceAndParted =
    (ab.answer ≡ Ok 3) × (abab.answer ≡ Ok 4) × (a.answer ≡ Ok 1) × (bab.answer ≡ Ok 5)
    × (compositions bab ≡ element 1 ∷ (element 2 ∷ (block 0 (entries 1 (1 ∷ (2 ∷ []))) ∷ (power 1 3 2 2 ∷ (block 0 (entries 1 (2 ∷ (1 ∷ (2 ∷ [])))) ∷ [])))))

-- ABABAB takes 6 asks of elements and 10 of compositions
abbrev Asked : Type 0
Asked = ((built 9 9 (codes "ABABAB")).answer ≡ Ok 4) × ((built 9 9 (codes "ABABAB")).after.elements.asks ≡ 6) × ((built 9 9 (codes "ABABAB")).after.compositions.asks ≡ 10)

-- ABCDEFGH is four blocks of two, then two, then one; ACEGBDFH is cut into three, two and three
abbrev eight : Doing ℕ ℕ
eight = built 9 30 (codes "ABCDEFGH")

abbrev other : Doing ℕ ℕ
other = next eight (codes "ACEGBDFH")

abbrev Eight : Type 0
Eight =
    (eight.answer ≡ Ok 15) × (drop 14 (compositions eight) ≡ block 2 (entries 4 (13 ∷ (14 ∷ []))) ∷ [])
    × (other.answer ≡ Ok 19)
    × (drop 15 (compositions other)
    ≡ block 0 (entries 1 (1 ∷ (3 ∷ (5 ∷ [])))) ∷ (block 0 (entries 1 (7 ∷ (2 ∷ []))) ∷ (block 0 (entries 1 (4 ∷ (6 ∷ (8 ∷ [])))) ∷ (block 1 (entry 16 3 ∷ (entry 17 2 ∷ (entry 18 3 ∷ []))) ∷ []))))

-- with room for three compositions AAB is refused in round 0, and its three names stay; AA then has the name 3
abbrev crowded : Doing ℕ ℕ
crowded = built 9 3 (codes "AAB")

abbrev NoRoom : Type 0
NoRoom = (crowded.answer ≡ Err (Compositions 0 (full 3))) × (length (compositions crowded) ≡ 3) × ((next crowded (codes "AA")).answer ≡ Ok 3)

-- with room for one element AB is refused at position 1, and the first name stays
abbrev NoElement : Type 0
NoElement = ((built 1 9 (codes "AB")).answer ≡ Err (Elements 1 (full 1))) × (elements (built 1 9 (codes "AB")) ≡ codes "A") × (length (compositions (built 1 9 (codes "AB"))) ≡ 1)

abbrev pub WorkedLists : Type 0
WorkedLists = FiveEqual × TwiceAndParted × Asked × Eight × NoRoom × NoElement
