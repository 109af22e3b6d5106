-- A list of calls on a new dictionary: its answers, and its size and asks afterwards. Assumes nothing.
use Rattle.std.specs.Prelude.{◌≡◌, ℕ, List, ◌++◌, length, take, drop}
use Rattle.std.specs.declared.cmp.Ordering.{Ordering}
use Rattle.dictionary.specs.Histories.{answers, after}
use Rattle.dictionary.specs.Meaning.{new}
use Rattle.dictionary.specs.declared.calls.Answer.{Answer}
use Rattle.dictionary.specs.declared.calls.Call.{Call}

-- over so many rows, with as many calls as there is room for answers
pub record Carried {K : Type 0} (order : K → K → Ordering) (rows : ℕ) (calls : List (Call K)) (room room' : List (Answer K)) (size asks : ℕ) : Type 0 where
  pub answered : room' ≡ answers order (new rows) (take (length room) calls) ++ drop (length (answers order (new rows) (take (length room) calls))) room
  pub sized : size ≡ length (after order (new rows) (take (length room) calls)).keys
  pub asked : asks ≡ (after order (new rows) (take (length room) calls)).asks
