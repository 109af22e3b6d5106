use Rattle.std.proofs.Common.{◌≤◌, arith}
use Rattle.scheme.specs.Spellings.{byte_number, byte_past}
use Rattle.scheme.proofs.composition_key.CompositionKey.byte.Goals as goal

pub returns-then-i-lt30 : goal.returns-then-i-lt30
returns-then-i-lt30 c =
    let low : 2 ≤ c.args.i = omega (arith, c.if-i-eq0.false, c.if-i-eq1.false) in
    byte_number c.args.self.now c.args.i _ _ low c.if-i-lt30.true c.number.ensures c.byte_of.ensures

pub returns-else-i-lt30 : goal.returns-else-i-lt30
returns-else-i-lt30 c = byte_past c.args.self.now c.args.i c.if-i-lt30.false
