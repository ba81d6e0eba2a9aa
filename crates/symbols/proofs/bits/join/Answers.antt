-- `symbols::bits::join` meets its contract.
use native.Mathlib.Omega.{arith}
use Rattle.symbols.proofs.Shifted.{shifted}
use Rattle.symbols.proofs.bits.join.Goals as goal

pub returns : goal.returns
returns c = shifted c.args.skip c.args.first c.args.second (omega arith) c.ranges.second.fits
