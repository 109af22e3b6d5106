-- What a call answers and leaves, of anything that has a meaning. Assumes nothing.
--     Out      an answer, and the meaning afterwards
--     Does     a call answers and leaves what is said of its meaning
use Rattle.std.specs.Prelude.{◌≡◌}

pub record Out (R M : Type 0) : Type 0 where
  pub answer : R
  pub after : M

abbrev pub out : {R M : Type 0} → R → M → Out R M
out r m = record { answer = r; after = m }

pub record Did {R M : Type 0} (says : Out R M) (r : R) (m : M) : Type 0 where
  pub answer : r ≡ says.answer
  pub after : m ≡ says.after

-- the call found d and left d', and answered r
abbrev pub Does : {D M R : Type 0} → (D → M) → D → D → R → (M → Out R M) → Type 0
Does meaning d d' r says = Did (says (meaning d)) r (meaning d')
