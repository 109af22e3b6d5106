-- The kinds of magnet and their letters. Assumes nothing.
--     letter_of k     the letter of the kind k, as a byte
--     kind_of b       the kind whose letter is the byte b
--     IsKindOf b r    r is that kind, or the byte that is no kind's letter
use Rattle.std.specs.Prelude.{◌≡◌, ℕ, cond, Some, None, Option, Result, MatchResult, ◌==◌}
use Rattle.lines.specs.declared.kind.Kind.{Kind}
use Rattle.lines.specs.declared.kind.UnknownLetter.{UnknownLetter}
use Rattle.lines.specs.declared.kind.Kind.TheVariants.{Dipole, Quadrupole, Sextupole, Steerer}

-- D, Q, S and T
abbrev pub letter_of : Kind → ℕ
letter_of Dipole = 68
letter_of Quadrupole = 81
letter_of Sextupole = 83
letter_of Steerer = 84

abbrev pub kind_of : ℕ → Option Kind
kind_of b = cond (b == 68) (Some Dipole) (cond (b == 81) (Some Quadrupole) (cond (b == 83) (Some Sextupole) (cond (b == 84) (Some Steerer) None)))

abbrev pub IsKindOf : ℕ → Result Kind UnknownLetter → Type 0
IsKindOf b r = MatchResult r (λ k. kind_of b ≡ Some k) (λ e. (kind_of b ≡ None) × (e.0 ≡ b))
