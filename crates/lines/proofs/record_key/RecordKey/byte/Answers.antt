use Rattle.std.proofs.Common.{◌≤◌, arith}
use Rattle.lines.specs.Spellings.{byte_front, byte_letter, byte_limit, byte_chain, byte_past}
use Rattle.lines.proofs.record_key.RecordKey.byte.Goals as goal

pub returns-then-i-lt12 : goal.returns-then-i-lt12
returns-then-i-lt12 c = byte_front c.args.self.now c.args.i c.if-i-lt12.true

pub returns-then-i-eq12 : goal.returns-then-i-eq12
returns-then-i-eq12 c = byte_letter c.args.self.now c.args.i _ c.if-i-eq12.true c.from.ensures

pub returns-then-i-lt17 : goal.returns-then-i-lt17
returns-then-i-lt17 c =
    let low : 13 ≤ c.args.i = omega (arith, c.if-i-lt12.false, c.if-i-eq12.false) in
    byte_limit c.args.self.now c.args.i _ low c.if-i-lt17.true c.byte_of.ensures

pub returns-then-i-eq17 : goal.returns-then-i-eq17
returns-then-i-eq17 c = byte_chain c.args.self.now c.args.i c.if-i-eq17.true

pub returns-else-i-eq17 : goal.returns-else-i-eq17
returns-else-i-eq17 c = byte_past c.args.self.now c.args.i (omega (arith, c.if-i-lt17.false, c.if-i-eq17.false))
