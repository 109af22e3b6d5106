use Rattle.cutting.proofs.Fits.{blocks_fit, blocks_half}
use Rattle.cutting.proofs.Parts.{blocks_part, blocks_begin}
use Rattle.cutting.proofs.Six.{block_at, begins_near}
use Rattle.cutting.proofs.laws.blocks_fit.Goals as goal

pub returns : goal.returns
returns c = record { part = blocks_part; fit = blocks_fit; half = blocks_half; begin = blocks_begin; place = block_at; near = begins_near }
