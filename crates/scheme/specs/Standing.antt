-- Dictionaries before and after, and dictionaries that take no key more. Assumes nothing.
--     Longer ks ks'       the keys ks stand at the front of ks', with their numbers
--     Grown b b'          both dictionaries hold at least what they held, and have the capacities they had
--     Kept b b'           they hold exactly what they held; only the asks may differ
--     frozen b            the same keys, and no room for more: a name that is not there is refused
use Rattle.std.specs.Prelude.{◌≡◌, List, ◌++◌, length}
use Rattle.dictionary.specs.Meaning.{Meaning, meaning}
use Rattle.scheme.specs.Building.{Both, both}

abbrev pub Longer : {K : Type 0} → List K → List K → Type 0
Longer ks ks' = (more : List _) × (ks' ≡ ks ++ more)

module _ {E : Type 0} where
  pub record Grown (b b' : Both E) : Type 0 where
    pub elements : Longer b.elements.keys b'.elements.keys
    pub compositions : Longer b.compositions.keys b'.compositions.keys
    pub element_room : b'.elements.capacity ≡ b.elements.capacity
    pub composition_room : b'.compositions.capacity ≡ b.compositions.capacity

  pub record Kept (b b' : Both E) : Type 0 where
    pub elements : b'.elements.keys ≡ b.elements.keys
    pub compositions : b'.compositions.keys ≡ b.compositions.keys
    pub element_room : b'.elements.capacity ≡ b.elements.capacity
    pub composition_room : b'.compositions.capacity ≡ b.compositions.capacity

abbrev pub frozen_keys : {K : Type 0} → Meaning K → Meaning K
frozen_keys m = meaning m.keys (length m.keys) m.asks

abbrev pub frozen : {E : Type 0} → Both E → Both E
frozen b = both (frozen_keys b.elements) (frozen_keys b.compositions)
