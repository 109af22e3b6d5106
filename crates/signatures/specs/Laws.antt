-- Laws of building, and of every step of it. Assumes nothing.
--     Onward b c        both dictionaries of c begin with the keys of b; capacities and asks may be any
--     Growing f         the computation f only adds keys at the end, refused or not, and keeps the capacities
--     Settling f        where it ended well, it answers the same and names nothing, over dictionaries that have grown since, are frozen or have other capacities
--     Quiet f           how often the dictionaries were asked says nothing of what it answers and names
--     Frugal f          over frozen dictionaries it names nothing, and asks each no more often than over those that may grow
--     Grows, Settles, StaysQuiet, StaysFrugal     building has these properties
use Rattle.std.specs.Prelude.{◌≡◌, ◌≤◌, List, Ok}
use Rattle.std.specs.declared.cmp.Ordering.{Ordering}
use Rattle.scheme.specs.Building.{Both, Doing, building}
use Rattle.scheme.specs.Standing.{Longer, Grown, Kept, frozen}

module _ {E : Type 0} where
  pub record Onward (b c : Both E) : Type 0 where
    pub elements : Longer b.elements.keys c.elements.keys
    pub compositions : Longer b.compositions.keys c.compositions.keys

  -- neither dictionary of c has been asked more often than that of b
  pub record Fewer (c b : Both E) : Type 0 where
    pub elements : c.elements.asks ≤ b.elements.asks
    pub compositions : c.compositions.asks ≤ b.compositions.asks

  -- the counts are within their limit, as every dictionary's are
  pub record Counted (b : Both E) : Type 0 where
    pub elements : b.elements.asks ≤ 18446744073709551615
    pub compositions : b.compositions.asks ≤ 18446744073709551615

  -- it answers x, and c is as it was but for the asks
  pub record Again {A : Type 0} (o : Doing E A) (c : Both E) (x : A) : Type 0 where
    pub answer : o.answer ≡ Ok x
    pub kept : Kept c o.after

  -- the same answer and the same keys
  pub record Same {A : Type 0} (o o' : Doing E A) : Type 0 where
    pub answer : o.answer ≡ o'.answer
    pub kept : Kept o.after o'.after

  pub record Spare {A : Type 0} (f : Both E → Doing E A) (b : Both E) : Type 0 where
    pub kept : Kept (frozen b) (f (frozen b)).after
    pub fewer : Fewer (f (frozen b)).after (f b).after

  abbrev pub Growing : {A : Type 0} → (Both E → Doing E A) → Type 0
  Growing f = (b : Both E) → Grown b (f b).after

  abbrev pub Settling : {A : Type 0} → (Both E → Doing E A) → Type 0
  Settling f = (b c : Both E) (x : _) → (f b).answer ≡ Ok x → Onward (f b).after c → Again (f c) c x

  abbrev pub Quiet : {A : Type 0} → (Both E → Doing E A) → Type 0
  Quiet f = (b c : Both E) → Kept b c → Same (f b) (f c)

  abbrev pub Frugal : {A : Type 0} → (Both E → Doing E A) → Type 0
  Frugal f = (b : Both E) → Counted b → Spare f b

module _ {E : Type 0} (order : E → E → Ordering) where
  abbrev pub Grows : Type 0
  Grows = (xs : List E) → Growing (building order xs)

  abbrev pub Settles : Type 0
  Settles = (xs : List E) → Settling (building order xs)

  abbrev pub StaysQuiet : Type 0
  StaysQuiet = (xs : List E) → Quiet (building order xs)

  abbrev pub StaysFrugal : Type 0
  StaysFrugal = (xs : List E) → Frugal (building order xs)
