-- `symbols::bits::laid_in` meets its contract.
use Rattle.symbols.proofs.Shifted.{stored}
use Rattle.symbols.proofs.bits.laid_in.Goals as goal

pub returns : goal.returns
returns c = stored 8 c.args.k c.args.low c.args.b c.args.y c.requires.0 c.requires.2 c.ranges.b.fits c.requires.3
