-- A run on a dictionary of bytes over two rows, worked out. Assumes nothing.
use Rattle.std.specs.Prelude.{ℕ, List, [], ◌∷◌, Some, None, Ok, Err}
use Rattle.dictionary.specs.Meaning.{full, absent}
use Rattle.dictionary.specs.declared.calls.Answer.{Answer}
use Rattle.dictionary.specs.declared.calls.Answer.TheVariants.{Size, Capacity, Asks, Find, Name, Key}

-- size, capacity, find A, name A, name B, name A, name C, find B, find C, key 0, key 2, key 3, size, asks
abbrev pub worked : List (Answer ℕ)
worked =
    Size 0 ∷ Capacity 2 ∷ Find None ∷ Name (Ok 1) ∷ Name (Ok 2) ∷ Name (Ok 1) ∷ Name (Err (full 2))
    ∷ Find (Some 2) ∷ Find None ∷ Key (Err absent) ∷ Key (Ok 66) ∷ Key (Err absent) ∷ Size 2 ∷ Asks 10 ∷ []
