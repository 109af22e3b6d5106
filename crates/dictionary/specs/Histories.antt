-- What lists of dictionary calls answer and leave. Assumes nothing.
--     calling            one call: its answer, and the whole meaning afterwards
--     answers, after     a list of calls
--     Runs               a list of calls carried out on a dictionary, its answers written into the room that there is
--     Keeps              key n is still key n
--     Alike              two dictionaries that mean the same answer alike, and mean the same afterwards
use Rattle.std.specs.Prelude.{◌≡◌, ℕ, List, [], ◌∷◌, ◌++◌, length, take, drop, Some}
use Rattle.std.specs.declared.cmp.Ordering.{Ordering}
use Rattle.dictionary.specs.Does.{Out, out}
use Rattle.dictionary.specs.Meaning.{Meaning, key_of, finding, naming, keying}
use Rattle.dictionary.specs.declared.calls.Answer.{Answer}
use Rattle.dictionary.specs.declared.calls.Answer.TheVariants as says
use Rattle.dictionary.specs.declared.calls.Call.{Call}
use Rattle.dictionary.specs.declared.calls.Call.TheVariants.{Size, Capacity, Asks, Find, Name, Key}

-- the answer of the call of that name
abbrev pub told : {K R : Type 0} → (R → Answer K) → Out R (Meaning K) → Out (Answer K) (Meaning K)
told answer o = out (answer o.answer) o.after

module _ {K : Type 0} (order : K → K → Ordering) where
  abbrev pub calling : Call K → Meaning K → Out (Answer K) (Meaning K)
  calling Size m = out (says.Size (length m.keys)) m
  calling Capacity m = out (says.Capacity m.capacity) m
  calling Asks m = out (says.Asks m.asks) m
  calling (Find k) m = told says.Find (finding order k m)
  calling (Name k) m = told says.Name (naming order k m)
  calling (Key n) m = told says.Key (keying n m)

  abbrev pub answers : Meaning K → List (Call K) → List (Answer K)
  answers m [] = []
  answers m (c ∷ cs) = (calling c m).answer ∷ answers (calling c m).after cs

  abbrev pub after : Meaning K → List (Call K) → Meaning K
  after m [] = m
  after m (c ∷ cs) = after (calling c m).after cs

  -- the answers stand at the front of the room, and the rest of the room is as it was
  pub record Ran (m : Meaning K) (calls : List (Call K)) (room room' : List (Answer K)) (m' : Meaning K) : Type 0 where
    pub answered : room' ≡ answers m calls ++ drop (length (answers m calls)) room
    pub left : m' ≡ after m calls

  -- as many calls are carried out as there is room for answers
  abbrev pub Runs : {D : Type 0} → (D → Meaning K) → D → D → List (Call K) → List (Answer K) → List (Answer K) → Type 0
  Runs meaning d d' calls room room' = Ran (meaning d) (take (length room) calls) room room' (meaning d')

-- key n is still key n
abbrev pub Keeps : {K : Type 0} → Meaning K → Meaning K → Type 0
Keeps m m' = (n : ℕ) (k : _) → key_of m.keys n ≡ Some k → key_of m'.keys n ≡ Some k

-- the answers are equal, and so are the meanings afterwards, asks included
abbrev pub Alike : {K : Type 0} → List (Answer K) → List (Answer K) → Meaning K → Meaning K → Type 0
Alike room room' m m' = (room ≡ room') × (m ≡ m')
