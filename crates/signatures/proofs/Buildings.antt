-- The laws of building, from the properties that go through its steps. Assumes nothing.
use Rattle.std.proofs.Common.{◌≡◌, Ordering, Equal}
use Rattle.scheme.specs.Building.{building}
use Rattle.signatures.specs.Laws.{Growing, Quiet, Grows, Settles, StaysQuiet, StaysFrugal}
use Rattle.signatures.proofs.Settled.{growing, Settled, settling, staying_quiet}
use Rattle.signatures.proofs.Spared.{Spared, sparing, frugal}
use Rattle.signatures.proofs.Steps.{at_building}

module _ {E : Type 0} (order : E → E → Ordering) where
  pub grows : Grows order
  grows = at_building order (λ A f. Growing f) (growing order)

  pub stays_quiet : StaysQuiet order
  stays_quiet = at_building order (λ A f. Quiet f) (staying_quiet order)

  module _ (self : (x : E) → order x x ≡ Equal) where
    pub settles : Settles order
    settles xs = (at_building order (λ A f. Settled f) (settling order self) xs).settles

    pub stays_frugal : StaysFrugal order
    stays_frugal xs = frugal (building order xs) (at_building order (λ A f. Spared f) (sparing order self) xs)
