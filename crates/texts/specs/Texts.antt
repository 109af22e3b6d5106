-- Texts put into a list of bytes. Assumes nothing.
--     Put was is place text end       `is` is `was` with the text from `place` on, which ends before `end`
--     Wrote was is place text r       the text was put there, if r tells its end, or did not fit and changed nothing
use Rattle.std.specs.Prelude.{◌≡◌, ℕ, ◌+◌, ◌<◌, ◌≤◌, List, ◌++◌, length, take, drop, Some, None, Option}

pub record Put (was is : List ℕ) (place : ℕ) (text : List ℕ) (end : ℕ) : Type 0 where
  pub ends : end ≡ place + length text
  pub fits : end ≤ length was
  pub after : is ≡ take place was ++ (text ++ drop end was)

abbrev pub Wrote : List ℕ → List ℕ → ℕ → List ℕ → Option ℕ → Type 0
Wrote was is place text (Some end) = Put was is place text end
Wrote was is place text None = (is ≡ was) × (length was < place + length text)
